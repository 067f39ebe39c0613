-- The records of a text, as the code keeps them: the first 89, since no readable table has more than 88.
use Rattle.std.specs.Prelude.{◌≡◌, cond, List, [], ◌∷◌, ◌++◌, ℕ, length, take, eqb}
use Rattle.model.specs.declared.record.Record.{Record}
use Rattle.record.specs.Words.{records_in}
use Rattle.litmus_reader.specs.declared.records.Records.{Records}

-- how many are kept
abbrev pub most : ℕ
most = 89

-- as many records as counted, the first of them in as many words, or in all 89
pub record Keeps (k : Records) (rs : List Record) : Type 0 where
  pub first : records_in (take k.count k.words) ≡ take most rs
  pub count-is : k.count ≡ length rs

-- an empty cell gives none
abbrev pub given : Record → List Record
given r = cond (eqb r.kind 0) [] (r ∷ [])

pub record KeepsOn (k : Records) (r : Record) (after : Records) : Type 0 where
  pub each : (rs : List Record) → Keeps k rs → Keeps after (rs ++ given r)
