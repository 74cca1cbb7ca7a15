-- Lemmas, grouped by the definitions that they are about.
pub mod Bit
pub mod Chains
pub mod Comparing
pub mod Placed
pub mod LeastOf
pub mod Closure
pub mod Turns
pub mod Precedence
pub mod Runs
pub mod Existence
pub mod Leastness
pub mod Meaning
