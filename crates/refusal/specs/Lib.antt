-- What the contract of `refusal` cites.
pub mod Numbers
