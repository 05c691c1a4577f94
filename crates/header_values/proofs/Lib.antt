-- The laws that storing the header's tables stands on, and where each part of a header ends.
pub mod Positions
pub mod StoreLaws
