pub mod Common
pub mod Heads
pub mod Named
pub mod Clear
pub mod Once
pub mod Around
pub mod Standing
