pub mod CachesOnBytes
pub mod OnBytes
