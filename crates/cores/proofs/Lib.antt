mod Values
mod Comparing
mod Replies
mod Lawful
mod Tables
