-- What the words of an input say, the hash of an area, and what a line tells.
pub mod Records
pub mod Hash
pub mod Lines
