-- How the check of ends goes; the questions themselves are the definitions of column.
pub mod Workers
