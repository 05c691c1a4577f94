-- Why a call says no: the table of refusals, the numbers each call may give, tests in order, and reading step by step.
pub mod Refusals
pub mod Calls
pub mod RefusalLaws
pub mod Tests
pub mod TestLaws
pub mod Reading
pub mod ReadingLaws
