pub mod Zeros
pub mod Depths
pub mod Firsts
pub mod Seeds
pub mod Turns
pub mod Reached
pub mod Buckets
pub mod Answered
