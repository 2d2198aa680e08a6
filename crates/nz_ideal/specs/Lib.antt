pub mod IdealFiles
pub mod IdealRules
pub mod Meanings
pub mod Laws
