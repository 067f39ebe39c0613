use mathlib.Core.Path.{◌∙◌}
use borrow.Author.Rules.{rules}
use Rattle.record.proofs.Stores.{record-set}
use Rattle.record.proofs.bytes.write_record.Goals as goal

pub returns : goal.returns
returns c =
    c.put_value.ensures ∙ record-set c.args.room.now c.args.i c.args.r (search rules)
