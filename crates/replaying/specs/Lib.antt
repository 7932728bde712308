pub mod Adler
pub mod Damaging
