use mathlib.Core.Path.{refl}
use borrow.Author.Rules.{rules}
use native.Mathlib.Omega.{arith}
use Rattle.std.proofs.lemmas.Nat.{le_bytes_4}
use Rattle.record.proofs.Packing.{in-word}
use Rattle.record.proofs.word.packed.Goals as goal

pub returns : goal.returns
returns c =
    in-word c.args.r _ c.from_le_bytes-fields.result (search rules) (omega arith) (le_bytes_4 _ _ refl (search rules) c.from_le_bytes-fields.ensures)
