-- Pure lemmas behind the functions' proofs.
pub mod Clears
pub mod Endings
