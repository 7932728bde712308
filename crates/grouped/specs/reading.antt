pub mod Blocks
pub mod Later
pub mod Call
pub mod SameCall
pub mod RefusalNumbers
