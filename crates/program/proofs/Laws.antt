-- Whichever files were read, what they open to lies within the output. Assumes nothing.
use Rattle.std.proofs.Common.{List, ℕ, ◌≤◌, length, ap, arith}
use Rattle.answers.specs.Ended.{Reply, Left}
use Rattle.files.proofs.Laws.{size_within}
use Rattle.program.specs.Run.{OpensFiles}

pub opens_within : {r : Reply} {was is : List ℕ} → OpensFiles r was is → r.size ≤ length was
opens_within {r} {was} {is} o =
    omega (arith, ap (λ (l : Left). l.reply.size) o.left_by, size_within o.info o.password o.stream was)
