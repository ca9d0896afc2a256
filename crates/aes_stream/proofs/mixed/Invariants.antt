use Rattle.aes_stream.proofs.Keys.{Done}
use Rattle.aes_stream.proofs.mixed.Given as goal

abbrev pub invariant-loop-n : goal.invariant-loop-n
invariant-loop-n l = Done l.w l.n l.m
