use mathlib.Core.Path.{◌∙◌, ap}
use mathlib.Core.List.{List}
use Prim.Native.Nat.{ℕ, ◌+◌, ◌/◌}
use Rattle.model.specs.Sizes.{word_size, values}
use Rattle.record.specs.Bytes.{with_value}
use Rattle.case.specs.Words.{with_long}
use Rattle.case.proofs.words.put_long.Goals as goal

pub returns : goal.returns
unfolding with_long
returns c =
    c.put_value-2.ensures ∙ ap (λ (l : List ℕ). with_value l (c.args.at + word_size) (c.args.v / values)) c.put_value.ensures
