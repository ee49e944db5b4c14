-- merge_plan and group_ids, of merge.rs; to be read after the definitions of column and merge_mask.
pub mod Calls
pub mod Workers
