-- getitems of batch.rs, by intervals each with a key; to be read after the definitions of column, slice and batch.
pub mod Calls
pub mod Workers
