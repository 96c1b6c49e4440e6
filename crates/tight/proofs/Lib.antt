-- Each public contract is tight: the law, its instances, and the one exception.
pub mod Laws
pub mod Tight
pub mod Exception
