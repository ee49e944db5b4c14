-- getitems of slice.rs and slice_reduce of reduce.rs, by intervals; to be read after the definitions of column, slice and reduce.
pub mod Calls
pub mod Workers
