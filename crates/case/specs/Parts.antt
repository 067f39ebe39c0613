-- The head of a case: its call, and the bytes of its parts.
use Rattle.std.specs.Prelude.{cond, ◌&&◌, List, ℕ, ◌*◌, ◌≤◌, leb, Result, Ok, Err}
use Rattle.model.specs.Sizes.{word_size}
use Rattle.model.specs.Record.{value_at}
use Rattle.case.specs.declared.call.NoCase.{NoCase}
use Rattle.case.specs.declared.head.Head.{Head}
use Rattle.case.specs.Calls.{no_case, call_in}

-- its parts are no longer than the room for them
abbrev pub Fits : ℕ → Head → Type 0
Fits most head = (head.table ≤ most) × (head.trace ≤ most) × (head.room ≤ most)

-- the length of a part
abbrev pub length_in : ℕ → ℕ → Result ℕ NoCase
length_in most n = cond (leb n most) (Ok n) (Err no_case)

-- of a call that there is, and of lengths up to `most`
abbrev pub head_of : ℕ → ℕ → ℕ → ℕ → ℕ → Result Head NoCase
head_of most call table trace room =
    elim (call_in call) [
      | Ok c ↦ cond (leb table most && leb trace most && leb room most) (Ok (record { call = c; table = table; trace = trace; room = room })) (Err no_case)
      | Err e ↦ Err e
    ]

-- four words
abbrev pub head_in : ℕ → List ℕ → Result Head NoCase
head_in most bytes = head_of most (value_at bytes 0) (value_at bytes word_size) (value_at bytes (2 * word_size)) (value_at bytes (3 * word_size))
