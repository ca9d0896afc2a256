-- `Units`: the units of a stream, and what grows by a unit at a time. `Made`: so what opening and sealing make, unit by unit, and what it
-- depends on. `Ranges`: opening from a unit on, a stretch, a stream that is cut short. `Alike`: which units a stretch depends on.
-- `Inverse`: sealing and opening undo each other. `Ecb`: each block by itself. `Chained`: blocks chained in segments. `Turns`: a turn of a
-- loop that lays unit after unit. `Pieces`: a stream in pieces, whatever the cutting.
pub mod Units
pub mod Made
pub mod Ranges
pub mod Alike
pub mod Inverse
pub mod Ecb
pub mod Chained
pub mod Turns
pub mod Pieces
