-- `Steps`: the rounds and the schedule, one more at a time.
pub mod Steps
