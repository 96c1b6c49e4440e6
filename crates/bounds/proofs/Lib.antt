-- The proofs of the theorems in `specs`, and the laws of rounding that they cite.
pub mod Rounded
pub mod Grid
pub mod Steps
pub mod Own
pub mod Errors
pub mod Parts
pub mod Trip
pub mod Conversions
