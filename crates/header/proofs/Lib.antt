-- The laws that the header's functions stand on.
pub mod Numbers
pub mod Signs
pub mod Joins
pub mod WriteLaws
