-- plan_many of many.rs, and the walk over the segments of many columns; to be read after the definitions of column and plan.
pub mod Calls
pub mod Workers
