pub mod Faults
pub mod Calls
pub mod Laws
pub mod Runs
pub mod Loading
pub mod Naming
