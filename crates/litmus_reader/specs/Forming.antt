-- What reading a form promises, and reading forms up to the token that ends them, and a whole text.
use Rattle.std.specs.Prelude.{◌≡◌, List, ◌++◌, ℕ, ◌≤◌, ◌<◌, length, Result, Ok, Err}
use Rattle.model.specs.declared.answer.Refused.{Refused}
use Rattle.model.specs.declared.record.Record.{Record}
use Rattle.model.specs.Code.{Verdict, tested_of}
use Rattle.model.specs.Reply.{number_of}
use Rattle.model.specs.Tests.{Tested, refused}
use Rattle.litmus_model.specs.Reader.{Control, beginning, within, left, forms_in, draft_in, next, read_text}
use Rattle.litmus_form.specs.declared.place.Place.{Place}
use Rattle.litmus_form.specs.Places.{context_of}
use Rattle.litmus_reader.specs.declared.records.Records.{Records}
use Rattle.litmus_reader.specs.Keeping.{Keeps, given}
use Rattle.litmus_reader.specs.Passing.{answer, onward}

-- ---- a form

-- the first token of a form is judged as one within it
abbrev pub in_form : Place → Control
in_form place = within (context_of place) (forms_in (context_of place)) (draft_in (context_of place))

-- a record, and the byte behind its form
abbrev pub Cell : Type 0
Cell = Result (Record × ℕ) Refused

abbrev pub closed : Cell → (ℕ → Record → Tested (List Record)) → Tested (List Record)
closed (Ok c) f = f c.1 c.0
closed (Err r) f = refused (number_of r.why) r.place

abbrev pub CellAhead : ℕ → List ℕ → Cell → Type 0
CellAhead at text (Ok c) = (at < c.1) × (c.1 ≤ length text)
CellAhead at text (Err r) = Unit {0}

-- a form at that place, from byte `at` on, with these letters seen before it and those after it
pub record FormRead (text : List ℕ) (at : ℕ) (place : Place) (seen : List ℕ) (out : Cell) (after : List ℕ) : Type 0 where
  pub says : (rs : List Record) → answer text at (in_form place) seen rs ≡ closed out (λ j r. answer text j (beginning (next (context_of place))) after (rs ++ given r))
  pub further : CellAhead at text out

-- ---- forms

-- from that place on, up to the token that ends the initial cells or the rows, with the records kept before and after
pub record FormsRead (text : List ℕ) (at : ℕ) (place : Place) (seen : List ℕ) (kept : Records) (out : Result ℕ Refused) (after : List ℕ) (kept_after : Records) : Type 0 where
  pub each : (rs : List Record) → Keeps kept rs
      → (all : List Record) × Keeps kept_after all × (answer text at (beginning (context_of place)) seen rs ≡ onward out (λ j. answer text j (left (context_of place)) after all))

-- ---- a whole text

abbrev pub Counts : Verdict → Records → List Record → Type 0
Counts (Ok u) kept rs = Keeps kept rs
Counts (Err r) kept rs = Unit {0}

-- the answer is the definition's, and after a pass the first of its records are kept
pub record TextRead (text : List ℕ) (out : Verdict) (kept : Records) : Type 0 where
  pub rs : List Record
  pub says : read_text text ≡ tested_of out rs
  pub counts : Counts out kept rs
