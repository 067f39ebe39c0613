-- The next token of a text, and the tokens ahead.
use Rattle.std.specs.Prelude.{◌≡◌, List, [], ◌∷◌, ℕ, suc, ◌-◌, ◌≤◌, ◌<◌, length, take, drop}
use Rattle.litmus_model.specs.Bytes.{Token}
use Rattle.litmus_model.specs.Tokens.{Placed}
use Rattle.litmus_model.specs.Splitting.{tokens_from}
use Rattle.std.specs.declared.ops.Range.{Range}

-- the tokens of a text from byte `at` on, behind k tokens
abbrev pub ahead : ℕ → List ℕ → ℕ → List Placed
ahead k text at = tokens_from k 0 at (drop at text)

abbrev pub part_of : List ℕ → Range ℕ → Token
part_of text s = take (s.end - s.start) (drop s.start text)

-- behind one token stands the name
abbrev pub Named : ℕ → Type 0
Named k = k ≡ 1

abbrev pub Unnamed : ℕ → Type 0
Unnamed k = ¬ (k ≡ 1)

-- the next token, behind such a number of tokens, is s
pub data Spans (K : ℕ → Type 0) (text : List ℕ) (at : ℕ) (s : Range ℕ) : Type 0 where
  ended : s.start ≡ length text → s.end ≡ length text → ((k : ℕ) → K k → ahead k text at ≡ []) → Spans K text at s
  token : at ≤ s.start → s.start < s.end → s.end ≤ length text
      → ((k : ℕ) → K k → ahead k text at ≡ record { at = s.start; token = part_of text s } ∷ ahead (suc k) text s.end)
      → Spans K text at s
