pub mod Replies
pub mod Solutions
pub mod Parts
pub mod Laws
