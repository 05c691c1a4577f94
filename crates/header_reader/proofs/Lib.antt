-- The laws that reading the header stands on.
pub mod PlainLaws
pub mod Answering
pub mod TableReading
pub mod HeaderReading
