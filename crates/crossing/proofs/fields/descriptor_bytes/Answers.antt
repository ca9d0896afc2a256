-- The numbers, and each of the other fields right after the one before it.
use Rattle.crossing.proofs.Laid.{fields_laid}
use Rattle.crossing.proofs.fields.descriptor_bytes.Goals as goal

pub returns : goal.returns
returns c =
    fields_laid c.args.d _ _ _ _ _ _ c.requires c.numbers.ensures
    c.copy.ensures c.copy-2.ensures c.copy-3.ensures c.copy-4.ensures c.put_le32.ensures
