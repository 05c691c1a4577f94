-- The mathematics of the functions, one file for each matter.
pub mod Sizes
pub mod InnerSteps
pub mod PredictionFits
pub mod Firsts
pub mod Gains
pub mod WeightFits
pub mod Beginnings
pub mod Maps
