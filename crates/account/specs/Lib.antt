pub mod Lines
pub mod Wording
