pub mod bytes
pub mod examples
pub mod meaning
