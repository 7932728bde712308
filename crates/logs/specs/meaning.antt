pub mod Copies
pub mod Entry
pub mod Heads
pub mod Walk
