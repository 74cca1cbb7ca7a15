pub mod Headings
pub mod Changing
pub mod Meaning
pub mod Answered
pub mod Register
pub mod Naming
pub mod Viewed
pub mod Made
