-- What the contracts of `door` cite.
pub mod Door
