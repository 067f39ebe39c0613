-- What the code's places stand for.
use Rattle.std.specs.Prelude.{Bool, true, false, cond, List, ◌∷◌, ℕ, suc, replicate, eqb}
use Rattle.model.specs.declared.record.Record.{Record}
use Rattle.litmus_model.specs.Reader.{Context, braces, row}
use Rattle.litmus_form.specs.declared.place.Place.{Place}
use Rattle.litmus_form.specs.declared.place.Place.TheVariants.{Braces, Row}

-- a cell of a row: how many there are, and which it is
abbrev pub context_of : Place → Context
context_of Braces = braces
context_of (Row c) = row c.0 c.1

abbrev pub mark_in : Place → ℕ
mark_in Braces = 59
mark_in (Row c) = cond (eqb (suc c.1) c.0) 59 124

abbrev pub flags_in : Place → List Bool
flags_in Braces = true ∷ true ∷ replicate 10 false
flags_in (Row c) = false ∷ false ∷ replicate 10 true

abbrev pub processor_in : Place → ℕ
processor_in Braces = 0
processor_in (Row c) = c.1

abbrev pub blank_in : Place → Record
blank_in place = record { kind = 0; processor = processor_in place; register = 0; location = 0; value = 0 }

-- behind a row's last cell comes the first of the next row
abbrev pub next_column : ℕ × ℕ → ℕ × ℕ
next_column c = cond (eqb (suc c.1) c.0) (c.0, 0) (c.0, suc c.1)

abbrev pub next_in : Place → Place
next_in Braces = Braces
next_in (Row c) = Row (next_column c)
