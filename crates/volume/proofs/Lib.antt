-- What proofs by hand share.
pub mod Turns
pub mod InRanges
pub mod Tabulated
pub mod Ranges
