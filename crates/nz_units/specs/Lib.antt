pub mod Splits
pub mod UnitLists
pub mod UnitNumbers
pub mod UnitCrowds
pub mod Refusals
pub mod SystemUnits
pub mod SystemRefusals
