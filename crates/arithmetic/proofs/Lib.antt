-- Laws of the definitions, which the proofs here cite.
mod Quotients
