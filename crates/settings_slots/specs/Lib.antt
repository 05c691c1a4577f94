-- The settings as the 24 slots of the C boundary.
pub mod Slots
pub mod Storing
pub mod SlotLaws
