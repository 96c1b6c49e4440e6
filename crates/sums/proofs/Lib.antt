-- Laws of the definitions, which the proofs here cite.
pub mod Rows
pub mod Runs
pub mod Chunks
pub mod Words
pub mod SumTheorems
