pub mod Groups
pub mod Contributions
pub mod Drafts
pub mod Asked
pub mod Rules
pub mod Meaning
pub mod Narrowing
