-- The mathematics of the functions, one file for each matter.
pub mod Fetches
pub mod SumFits
pub mod Slots
pub mod Components
