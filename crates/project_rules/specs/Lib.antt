-- The check of a whole project, and fit, over units whose heads are found.
pub mod Project
pub mod Check
pub mod Fit
pub mod Statements
pub mod Samples
