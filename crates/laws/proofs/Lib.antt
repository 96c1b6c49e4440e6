-- Laws that several crates cite.
pub mod Bytes
pub mod Decoded
pub mod Closest
pub mod Written
