-- Names and definitions that several crates cite.
pub mod Bytes
pub mod Written
pub mod Names
