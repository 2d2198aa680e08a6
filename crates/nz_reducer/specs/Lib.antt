pub mod Tables
pub mod Levels
pub mod Marks
pub mod Reducers
