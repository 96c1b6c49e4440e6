-- Lemmas of `wide`.
mod Shifts
mod Products
mod Estimate
mod Quotient
