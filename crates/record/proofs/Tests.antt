-- The code's tests are the model's, where a record's row of Bools is that of its kind.
use mathlib.Core.Path.{◌≡◌, refl, ap}
use mathlib.Core.Bool.{Bool, true, false, ◌||◌}
use mathlib.Core.List.{List}
use Prim.Native.Nat.{◌≤◌, ◌<◌}
use native.Mathlib.Omega.{arith}
use lib.ListN.{length}
use lib.Dec.{eqb, leb}
use borrow.Author.Tests.{eq-eqb, le-leb}
use Rattle.model.specs.declared.record.Record.{Record}
use Rattle.model.specs.Sizes.{processors, registers_each, locations}
use Rattle.model.specs.Fields.{Field}
use Rattle.model.specs.Tests.{unknown, too_large, not_zero}
use Rattle.record.specs.Fields.{row_of, too_large_by, not_zero_by}

module _ (uses : List (List Field)) (r : Record) where
  pub unknown-none : r.kind < 1 → unknown uses r ≡ true
  unfolding unknown
  unknown-none l = λ j. eq-eqb r.kind 0 (omega arith) j || leb (length uses) r.kind

  pub unknown-above : length uses ≤ r.kind → unknown uses r ≡ true
  unfolding unknown
  unknown-above l = go (eqb r.kind 0)
    where
      go : (b : Bool) → (b || leb (length uses) r.kind) ≡ true
      go true = refl
      go false = le-leb (length uses) r.kind l

module _ (uses : List (List Field)) (r : Record) (row : List Bool) (e : row ≡ row_of uses r.kind) where
  pub too-large-is : too_large_by processors registers_each locations row r ≡ too_large uses r
  unfolding row_of too_large
  too-large-is = ap (λ (u : List Bool). too_large_by processors registers_each locations u r) e

  pub not-zero-is : not_zero_by row r ≡ not_zero uses r
  unfolding row_of not_zero
  not-zero-is = ap (λ (u : List Bool). not_zero_by u r) e
