pub mod KeptBelow
pub mod RowStores
pub mod RowsInPlace
pub mod SameShape
