-- The calls of ops.rs; to be read after the definitions of column and plan.
pub mod Calls
pub mod Workers
