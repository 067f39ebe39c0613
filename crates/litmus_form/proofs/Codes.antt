-- Patterns and flags, as the code tests them.
use mathlib.Core.Path.{◌≡◌, refl}
use mathlib.Core.List.{[], ◌∷◌}
use Prim.Native.Nat.{suc}
use native.Mathlib.Omega.{arith}
use lib.ListN.{length}
use borrow.Author.Tests.{ne_eqb}
use lib.Dec.{eqb}
use Rattle.litmus_model.specs.Bytes.{Token, same}

-- no token but the empty one is the empty one
pub none_same : (t : Token) → eqb (length t) 0 ≡ same [] t
unfolding same
none_same [] = refl
none_same (x ∷ t) = ne_eqb (suc (length t)) 0 (λ e. omega (arith, e))
