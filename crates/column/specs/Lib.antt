-- What the contracts of several crates cite, to be read beside document 01 in this order: Runs, Paper, Asking, Questions, Combine, Flat. Lists
-- has what is said of lists, Lent what a call is lent.
pub mod Asking
pub mod Combine
pub mod Flat
pub mod Lent
pub mod Lists
pub mod Paper
pub mod Questions
pub mod Runs
pub mod Workers
