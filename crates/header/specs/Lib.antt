-- Section 5.3 of the standard: the header as bits, written and read, and that neither loses nor forges; a header worked by hand stands before the laws.
pub mod Fields
pub mod Places
pub mod Parts
pub mod Tables
pub mod Write
pub mod ByHand
pub mod FieldLaws
pub mod Plain
pub mod PartLaws
pub mod Sizes
pub mod TableLaws
pub mod Writing
pub mod Read
pub mod ReadLaws
pub mod HeaderLaws
pub mod SizeLaws
