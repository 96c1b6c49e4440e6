-- What the contracts of `text` cite, and the theorems about its definitions.
pub mod Digits
pub mod Options
pub mod Text
pub mod Answer
pub mod Parts
pub mod Writing
pub mod Theorems
