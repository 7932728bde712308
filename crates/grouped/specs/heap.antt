pub mod Order
pub mod Ties
pub mod Heap
pub mod Shuffle
pub mod Keys
pub mod Loaded
pub mod Held
