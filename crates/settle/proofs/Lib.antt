pub mod Ranks
pub mod Walks
pub mod Meanings
pub mod Bests
pub mod Places
