-- The load order of units, in the order in which a reader needs it.
pub mod Units
pub mod Compare
pub mod Least
pub mod Picking
pub mod Reaching
pub mod Law
pub mod Answer
pub mod Seen
pub mod Rows
