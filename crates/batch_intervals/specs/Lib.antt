-- The slices of intervals, each of a key, which getitems and slice_reduce of batch.rs take; to be read after the definitions of slice and batch.
pub mod Calls
pub mod Workers
