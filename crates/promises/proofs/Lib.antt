-- `Demand1` to `Demand3`: our entries keep the demands (`Ended`: what a call leaves, read field by field; `Inverts`: what demand 3 comes
-- from). `Calls`: each call of an entry keeps them, `Outside`: each call from C, `EveryCall`: demand 1 of all. `OneCall`: a call is fixed by
-- what is promised of it; `OneResult`: and so is its result. `ThereAndBack`: two calls one after the other. `Cases`: every row of the table
-- P1 to P12 holds of our entries. `NewInfo`: the writer keeps its promise. `ExtraBlock`: whoever keeps demand 3 keeps that of the extra
-- block. `BlockLaw`: which blocks a block depends on. `Stretch`: a stretch keeps its promise; `Tight`: and could depend on no less. `Fixed`:
-- whoever keeps demands 1 and 2, a stretch's promise or the writer's, is the entry. `Possible`: no promise holds for want of an instance.
-- `Wrong`: the auditor's openers break a demand; `Copy`: which one lets an unencrypted copy pass.
mod Ended
mod Inverts
pub mod Demand1
pub mod Demand2
pub mod Demand3
pub mod Cases
pub mod Fixed
pub mod NewInfo
pub mod Calls
pub mod Outside
pub mod EveryCall
pub mod OneCall
pub mod OneResult
pub mod ThereAndBack
pub mod Possible
pub mod ExtraBlock
pub mod BlockLaw
pub mod Stretch
pub mod Tight
pub mod Rescue
pub mod Wrong
pub mod Copy
