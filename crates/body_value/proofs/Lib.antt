-- Lemmas of one value: the plan, the predictor's half, the coder's half, both together, and a band begun.
pub mod Plans
pub mod Predicts
pub mod Codes
pub mod Missing
pub mod Values
pub mod Bands
