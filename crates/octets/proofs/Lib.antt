-- `Parts`: what is in a part of a list, and what a list holds after a part was laid into it. `Below`: what keeps a list of bytes
-- one. `Numbers`: the laws of numbers of bytes, over the width. `Laid`: a number written in two halves. `Filled`: a buffer filled
-- part by part from its front. `Each`: the bytes of each number of a list. `Equal`: the test of equality.
pub mod Parts
pub mod Below
pub mod Numbers
mod Laid
pub mod Filled
pub mod Each
pub mod Equal
