pub mod Joining
pub mod Reversing
pub mod JoiningTwo
