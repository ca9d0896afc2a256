-- `Frame`: a reversible operation makes pairs and streams each other's. `Lengths`: what the rules 13 to 16 say of lengths and room.
-- `Scheme`: the step of each scheme. `Keyed`: the frame under the key of a verdict. `Laws`: a law for each way out of opening and sealing.
-- `Pairs`: the frame, said of the calls. `Written`: what the code leaves.
pub mod Frame
pub mod Lengths
pub mod Scheme
pub mod Keyed
pub mod Laws
pub mod Pairs
mod Written
