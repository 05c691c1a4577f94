-- What stands behind a body, as a definition.
pub mod Ending
