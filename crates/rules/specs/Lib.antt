-- The theorems, as statements; `proofs` has a proof of each.
pub mod Refusals
pub mod Samples
