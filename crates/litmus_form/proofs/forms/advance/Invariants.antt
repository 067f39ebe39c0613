use mathlib.Core.Path.{◌≡◌}
use mathlib.Core.Bool.{false}
use Prim.Native.Nat.{ℕ, ◌<◌}
use lib.ListN.{length, get_or}
use Rattle.litmus_form.specs.Flags.{alive_on}
use Rattle.litmus_form.proofs.forms.advance.Given as goal

-- the first j flags are set
abbrev pub invariant-loop-j : goal.invariant-loop-j
invariant-loop-j l = (length l.next ≡ 12) × ((k : ℕ) → k < l.j → get_or l.next k false ≡ alive_on l.alive l.mark l.at l.t k)
