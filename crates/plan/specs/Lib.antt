-- The calls of plan.rs, and the segments that plan, the zips and the many_way calls walk over; to be read after the definitions of column.
pub mod Calls
pub mod Workers
