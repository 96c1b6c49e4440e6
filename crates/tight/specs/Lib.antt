-- What it is for a contract to be tight; `proofs` shows it of each public function.
pub mod Tight
