-- Laws of the definitions, which the proofs here and in other crates cite.
pub mod Exact
pub mod Valid
pub mod Counts
