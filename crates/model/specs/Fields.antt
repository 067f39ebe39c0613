-- The fields of a record: a field that its kind uses is in range, and one that it does not use is zero (document 01, "Records").
use Rattle.std.specs.Prelude.{◌≡◌, Bool, true, false, ◌||◌, List, [], ◌∷◌, ℕ, ◌<◌, length, get_or, eqb}
use Rattle.model.specs.declared.record.Record.{Record}
use Rattle.model.specs.Sizes.{processors, registers_each, locations}

pub data Field : Type 0 where
  processor register location value : Field

abbrev pub column : Field → ℕ
column processor = 1
column register = 2
column location = 3
column value = 4

unfoldable pub among : List Field → Field → Bool
among [] f = false
among (g ∷ gs) f = eqb (column g) (column f) || among gs f

-- ---- `uses` has a row for each kind, from 0 on, which is none: the fields that the kind uses

unfoldable pub used : List (List Field) → Record → Field → Bool
unfolding among
used uses r f = among (get_or uses r.kind []) f

abbrev pub Known : List (List Field) → Record → Type 0
Known uses r = (0 < r.kind) × (r.kind < length uses)

pub record InRange (uses : List (List Field)) (r : Record) : Type 0 where
  pub processor : used uses r Field.processor ≡ true → r.processor < processors
  pub register : used uses r Field.register ≡ true → r.register < registers_each
  pub location : used uses r Field.location ≡ true → r.location < locations

pub record UnusedZero (uses : List (List Field)) (r : Record) : Type 0 where
  pub processor : used uses r Field.processor ≡ false → r.processor ≡ 0
  pub register : used uses r Field.register ≡ false → r.register ≡ 0
  pub location : used uses r Field.location ≡ false → r.location ≡ 0
  pub value : used uses r Field.value ≡ false → r.value ≡ 0

-- nothing is wrong with the record by itself
pub record Proper (uses : List (List Field)) (r : Record) : Type 0 where
  pub known : Known uses r
  pub in_range : InRange uses r
  pub unused_zero : UnusedZero uses r
