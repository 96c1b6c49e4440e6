-- Laws of the signed numbers at the text's C function.
pub mod Signs
