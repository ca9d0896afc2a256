-- `Sums`: the laws of the field's sum and of doubling. `Solver`: equations between sums of doublings, decided by computing.
-- `Entries`: the rules of the tables at every entry. `Columns`: the two matrices undo each other. `States`: what each step of a
-- round keeps, and what takes it back. `Undo`: each cipher undoes the other. `Schedule`: the key expansion word by word. `Steps`:
-- what a turn of a loop adds. `Words`: words as their bytes. `Shares`: the tables of products, and a column from its bytes' shares.
-- `Equivalent`: a round with its key added last, in both ciphers.
pub mod Sums
pub mod Solver
pub mod Entries
pub mod Columns
pub mod States
pub mod Undo
pub mod Schedule
pub mod Steps
pub mod Words
pub mod Shares
pub mod Equivalent
