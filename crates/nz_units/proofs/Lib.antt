pub mod SplitLemmas
pub mod CoordinateLemmas
pub mod NumberLemmas
pub mod RunLemmas
pub mod CrowdLemmas
pub mod ListLemmas
pub mod RefusalLemmas
pub mod SystemLemmas
