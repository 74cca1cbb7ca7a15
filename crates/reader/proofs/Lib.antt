mod Theory
mod Loads
mod Shapes
mod Entries
mod Choosing
mod Origins
mod AllSymbols
mod Checks
mod Laws
mod Back
mod StackWords
mod Turns
pub mod Means
mod Noted
mod Outward
mod Framed
mod Appended
mod Noting
pub mod Places
mod Capacity
mod Passes
mod Begun
mod Mentioned
mod Heads
mod Upper
