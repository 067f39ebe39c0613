-- What is read of a text so far, and what is answered from there on.
use Rattle.std.specs.Prelude.{◌≡◌, List, [], ℕ, ◌≤◌, ◌<◌, length, Result, Ok, Err}
use Rattle.model.specs.declared.record.Record.{Record}
use Rattle.model.specs.declared.answer.Refused.{Refused}
use Rattle.model.specs.Sizes.{processors}
use Rattle.model.specs.Reply.{number_of}
use Rattle.model.specs.Tests.{Tested, refused}
use Rattle.litmus_model.specs.Reader.{Control, at_opening, beginning, at_heading, row, carried, read_text}
use Rattle.litmus_token.specs.Spans.{ahead}

-- from byte `at` on, behind the name, where the automaton is at c, these letters are seen and these records given
abbrev pub answer : List ℕ → ℕ → Control → List ℕ → List Record → Tested (List Record)
answer text at c seen rs = carried (length text) c seen rs (ahead 2 text at)

-- reading a part of a text goes on at a byte, or is refused at one
abbrev pub onward : Result ℕ Refused → (ℕ → Tested (List Record)) → Tested (List Record)
onward (Ok at) f = f at
onward (Err r) f = refused (number_of r.why) r.place

-- further on in the text
abbrev pub Ahead : ℕ → List ℕ → Result ℕ Refused → Type 0
Ahead at text (Ok j) = (at ≤ j) × (j ≤ length text)
Ahead at text (Err r) = Unit {0}

-- X86 and the name
abbrev pub Names : List ℕ → Result ℕ Refused → Type 0
Names text out = read_text text ≡ onward out (λ at. answer text at at_opening [] [])

-- so many headings, and the byte behind them
abbrev pub headed_on : Result (ℕ × ℕ) Refused → (ℕ → ℕ → Tested (List Record)) → Tested (List Record)
headed_on (Ok h) f = f h.0 h.1
headed_on (Err r) f = refused (number_of r.why) r.place

abbrev pub HeadedAhead : ℕ → List ℕ → Result (ℕ × ℕ) Refused → Type 0
HeadedAhead at text (Ok h) = (at ≤ h.1) × (h.1 ≤ length text) × (0 < h.0) × (h.0 ≤ processors)
HeadedAhead at text (Err r) = Unit {0}

pub record HeadingsRead (text : List ℕ) (at : ℕ) (out : Result (ℕ × ℕ) Refused) : Type 0 where
  pub says : (seen : List ℕ) (rs : List Record) → answer text at (at_heading 0) seen rs ≡ headed_on out (λ n j. answer text j (beginning (row n 0)) seen rs)
  pub further : HeadedAhead at text out
