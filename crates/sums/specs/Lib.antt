-- What the contracts of `sums` cite.
pub mod Sum
pub mod Runs
pub mod SumTheorems
