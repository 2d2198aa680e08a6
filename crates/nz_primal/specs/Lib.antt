pub mod Second
pub mod Lists
pub mod Parts
