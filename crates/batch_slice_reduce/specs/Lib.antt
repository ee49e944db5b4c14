-- slice_reduce of batch.rs, by intervals each with a key; to be read after the definitions of column, slice, reduce and batch.
pub mod Calls
pub mod Workers
