pub mod Flushing
pub mod Formatting
pub mod ResetZone
pub mod Resetting
