-- What the code says of a token, of a letter, and of a record under way.
use Rattle.std.specs.Prelude.{◌≡◌, List, ℕ, ◌≤◌, ◌<◌, ℤ, Option, Some, None, Result, Ok, Err}
use Rattle.std.proofs.Math.Option.{none, some}
use Rattle.model.specs.Sizes.{processors, locations}
use Rattle.model.specs.declared.record.Record.{Record}
use Rattle.model.specs.declared.answer.Refusal.{Refusal}
use Rattle.model.specs.declared.answer.Refusal.TheVariants.{TextLimit, TextConstant}
use Rattle.model.specs.Reply.{number_of}
use Rattle.litmus_model.specs.Forms.{Mention, a_processor, a_register, a_location, a_constant, stored, Draft, noted}
use Rattle.litmus_model.specs.Answers.{InRange, seen_on, number_in, record_of}
use Rattle.litmus_model.specs.Reader.{fault}
use Rattle.litmus_said.specs.declared.said.Said.{Said}
use Rattle.litmus_said.specs.declared.said.Said.TheVariants.{Nothing, Processor, Register, Letter, Value}

-- what a token says, or what is wrong with it
pub data Says : Mention → Result Said Refusal → Type 0 where
  nothing : Says Mention.nothing (Ok Nothing)
  processor : {p : ℕ} → p < processors → Says (a_processor p) (Ok (Processor p))
  processor_above : {p : ℕ} → processors ≤ p → Says (a_processor p) (Err TextLimit)
  register : {q : ℕ} → Says (a_register q) (Ok (Register q))
  letter : {x : ℕ} → Says (a_location x) (Ok (Letter x))
  value : {v : ℤ} → InRange v → Says (a_constant v) (Ok (Value (stored v)))
  out_of_range : {v : ℤ} → ¬ InRange v → Says (a_constant v) (Err TextConstant)

-- location x has the number r, with these letters seen before it and those after it; with none it is the ninth
pub data Locates (seen : List ℕ) (x : ℕ) (r : Option ℕ) (after : List ℕ) : Type 0 where
  ninth : r ≡ None → fault seen (a_location x) ≡ some 20 → Locates seen x r after
  found : (i : ℕ) → r ≡ Some i → i < locations → fault seen (a_location x) ≡ none → after ≡ seen_on seen (a_location x) → i ≡ number_in after x → Locates seen x r after

-- the record under way, where d is said of it and these letters are seen
abbrev pub underway : List ℕ → Draft → Record
underway seen d = record_of seen (record { kind = 0; draft = d })

-- m is said of the record r
pub data Notes (r : Record) (m : Mention) (seen : List ℕ) (out : Result Record Refusal) (after : List ℕ) : Type 0 where
  well : (s : Record) → out ≡ Ok s → fault seen m ≡ none → after ≡ seen_on seen m
      → ((d : Draft) → r ≡ underway seen d → s ≡ underway after (noted d m))
      → Notes r m seen out after
  wrong : (why : Refusal) → out ≡ Err why → fault seen m ≡ some (number_of why) → Notes r m seen out after
