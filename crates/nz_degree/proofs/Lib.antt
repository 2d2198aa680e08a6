pub mod DegreeLists
pub mod Divisors
pub mod Firsts
pub mod RankLaws
pub mod ElementLaws
pub mod LevelLists
