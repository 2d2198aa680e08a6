pub mod Bytes
pub mod Skip
pub mod Pieces
pub mod Places
pub mod Laws
