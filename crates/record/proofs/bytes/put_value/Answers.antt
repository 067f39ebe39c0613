use borrow.Author.Rules.{rules}
use Rattle.record.proofs.Stores.{value_set}
use Rattle.record.proofs.bytes.put_value.Goals as goal

pub returns : goal.returns
returns c = rw c.to_le_bytes.ensures (value_set c.args.bytes.now c.args.at c.args.v (search rules))
