-- Lemmas of the walk: loops over places, where the bands stand, one value each way, the order, the whole body.
pub mod Loops
pub mod Standings
pub mod Orders
pub mod Moves
pub mod Takes
pub mod Alongs
pub mod Bodies
