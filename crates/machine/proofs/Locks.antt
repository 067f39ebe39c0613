-- The holder of the lock.
use mathlib.Core.Path.{◌≡◌, refl}
use Prim.Native.Nat.{ℕ}
use Rattle.std.specs.Prelude.{Option, Some, None}
use Rattle.model.specs.Step.{blocked}
use Rattle.machine.specs.View.{holder_of}
use Rattle.machine_rules.specs.Guards.{blocked_in}

pub blocked-is : (h : Option ℕ) (p : ℕ) → blocked (holder_of h) p ≡ blocked_in h p
unfolding blocked holder_of
blocked-is None p = refl
blocked-is (Some h) p = refl
