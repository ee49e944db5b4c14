-- merge_mask and merge_by, of merge.rs; to be read after the definitions of column.
pub mod Calls
pub mod Workers
