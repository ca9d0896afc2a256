-- `Algorithms`: what the table of algorithms says of an AlgID and of a key size. `Laws`: what a stream that breaks no rule satisfies, by
-- the rules' numbers, and what a parse gives. `LaidOut`: a stream laid out from its fields gives them back.
pub mod Algorithms
pub mod Laws
pub mod LaidOut
