-- The model's tests of a record's fields, as the code makes them: on one row of Bools, and with the limits of its types.
use Rattle.std.specs.Prelude.{Bool, false, not, ◌&&◌, ◌||◌, List, [], ◌∷◌, ℕ, get_or, eqb, leb}
use Rattle.model.specs.declared.record.Record.{Record}
use Rattle.model.specs.Fields.{Field, processor, register, location, value, among}

-- which fields are among these
abbrev pub bools : List Field → List Bool
bools fields = among fields processor ∷ among fields register ∷ among fields location ∷ among fields value ∷ []

-- the row of a kind
unfoldable pub row_of : List (List Field) → ℕ → List Bool
unfolding among
row_of uses kind = bools (get_or uses kind [])

abbrev pub too_large_by : ℕ → ℕ → ℕ → List Bool → Record → Bool
too_large_by processors registers locations used r =
    (get_or used 0 false && leb processors r.processor) || (get_or used 1 false && leb registers r.register)
    || (get_or used 2 false && leb locations r.location)

abbrev pub not_zero_by : List Bool → Record → Bool
not_zero_by used r =
    (not (get_or used 0 false) && not (eqb r.processor 0)) || (not (get_or used 1 false) && not (eqb r.register 0))
    || (not (get_or used 2 false) && not (eqb r.location 0)) || (not (get_or used 3 false) && not (eqb r.value 0))
