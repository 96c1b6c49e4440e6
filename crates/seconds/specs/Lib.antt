-- What the contracts of `seconds` cite.
pub mod From
pub mod Out
