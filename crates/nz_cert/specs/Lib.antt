pub mod Words
pub mod Readings
pub mod Fields
pub mod Written
pub mod Laws
pub mod Monoids
