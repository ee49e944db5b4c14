-- merge and merged, of merge.rs; to be read after the definitions of column.
pub mod Calls
