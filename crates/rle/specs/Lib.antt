-- The calls of rle.rs that make a sequence run by run; to be read after the definitions of column and from_runs.
pub mod Calls
pub mod Workers
