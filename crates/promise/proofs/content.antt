pub mod Columns
pub mod Recover
