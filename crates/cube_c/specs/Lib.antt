-- The C boundary: settings in 24 slots, answers in one word.
pub mod UsedLaws
pub mod Answer
pub mod Boundary
pub mod BoundaryLaws
pub mod SlotLaws
pub mod Demands
