-- What the contracts of `arithmetic` cite.
pub mod Arithmetic
