-- Pure lemmas behind the functions' proofs.
pub mod Files
pub mod Packings
pub mod Openings
