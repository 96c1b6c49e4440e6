-- What the contracts of `duration` cite.
pub mod Meaning
pub mod Units
pub mod Parts
