-- Pure lemmas behind the functions' proofs.
pub mod Boundaries
pub mod Told
