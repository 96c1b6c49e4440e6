-- What the contract of the text's C function cites.
pub mod Said
