-- The laws that rest on definitions which must-fail edits change.
pub mod Causality
pub mod SizeLaws
pub mod AskLaws
