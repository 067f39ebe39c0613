use mathlib.Core.Path.{◌≡◌}
use mathlib.Core.List.{List}
use Prim.Native.Nat.{ℕ, ◌≤◌}
use lib.ListN.{length}
use Rattle.model.specs.declared.record.Record.{Record}
use Rattle.litmus_model.specs.Reader.{at_heading}
use Rattle.litmus_reader.specs.Passing.{answer}
use Rattle.litmus_reader.proofs.headings.read_headings.Given as goal

abbrev pub invariant-loop-n : goal.invariant-loop-n
invariant-loop-n l =
    ((seen : List ℕ) (rs : List Record) → answer l.text l.fn.at (at_heading 0) seen rs ≡ answer l.text l.at (at_heading l.n) seen rs) × (l.n ≤ 4) × (l.fn.at ≤ l.at) × (l.at ≤ length l.text)
