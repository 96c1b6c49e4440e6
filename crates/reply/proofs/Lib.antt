-- Lemmas of `reply`.
mod Nans
