pub mod Rooms
pub mod Surveys
pub mod Settled
