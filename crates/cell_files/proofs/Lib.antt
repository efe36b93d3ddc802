pub mod SortedRows
pub mod KeptRows
pub mod Following
pub mod Units
pub mod NewSheets
