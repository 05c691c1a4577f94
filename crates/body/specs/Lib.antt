-- Section 5.4 of the standard: the encoding order and the body, both ways.
pub mod Order
pub mod ByHand
pub mod OrderLaws
pub mod Body
pub mod Good
pub mod BodyLaws
pub mod Reach
