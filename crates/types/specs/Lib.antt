pub mod Types
pub mod Words
pub mod Encoding
