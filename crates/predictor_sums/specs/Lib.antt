-- What the functions ask and answer.
pub mod Fetch
pub mod Asks
