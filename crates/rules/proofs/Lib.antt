-- The proofs of the theorems in `specs`.
pub mod Checks
pub mod Conditions
pub mod Floats
pub mod Table
pub mod Samples
