-- The theorems, as statements; `proofs` has a proof of each.
pub mod Distance
pub mod Errors
pub mod Trip
pub mod Conversions
