pub mod Values
pub mod Replies
pub mod Amounts
pub mod Members
