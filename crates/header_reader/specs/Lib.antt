-- The header read off a file: what each function answers.
pub mod Answers
