pub mod Same
pub mod Spelling
pub mod Ends
pub mod Copies
pub mod Encodings
