pub mod FloorLemmas
pub mod GcdLemmas
pub mod RoomLemmas
