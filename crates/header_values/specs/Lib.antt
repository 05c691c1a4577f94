-- How far a header is read, and what is stored of its tables.
pub mod Progress
pub mod Storing
