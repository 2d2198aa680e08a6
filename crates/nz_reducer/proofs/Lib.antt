pub mod Reducing
pub mod Places
pub mod Keeping
pub mod Generating
pub mod SumLemmas
pub mod MarkLemmas
pub mod TableLemmas
pub mod LevelLemmas
