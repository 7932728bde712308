pub mod meaning
pub mod laws
pub mod places
pub mod heap
pub mod reading
