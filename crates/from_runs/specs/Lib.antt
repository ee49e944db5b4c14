-- from_runs, from_ends and repeat, of rle.rs; to be read after the definitions of column.
pub mod Calls
pub mod Workers
