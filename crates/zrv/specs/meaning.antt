pub mod Bytes
pub mod EdgeCalls
pub mod GroupedEdge
