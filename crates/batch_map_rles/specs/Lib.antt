-- The calls of batch.rs through `map_rles`; to be read after the definitions of column, slice, shift, transform and batch.
pub mod Calls
pub mod Workers
