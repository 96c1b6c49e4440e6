-- Laws of the definitions, which the proofs here and in other crates cite.
pub mod Fraction
pub mod Rounding
pub mod FewDigits
pub mod NoTie
pub mod Fields
pub mod Operations
pub mod LastDigits
pub mod Scaled
pub mod Placed
