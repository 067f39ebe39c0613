-- What a reader of a text answers: its records, or 19, 20 or 21 and a place (document 02, order 2).
use Rattle.std.specs.Prelude.{◌≡◌, Bool, false, cond, ◌||◌, List, [], ◌∷◌, ◌++◌, map, ℕ, suc, ◌≤◌, length, eqb, ℤ, pos, negsuc}
use Rattle.std.proofs.Math.Option.{Option, none, some}
use Rattle.model.specs.declared.record.Record.{Record}
use Rattle.model.specs.Sizes.{processors, locations}
use Rattle.model.specs.Lists.{In}
use Rattle.model.specs.Tests.{Tested, passed, refused}
use Rattle.litmus_model.specs.Tokens.{Placed, Tokens}
use Rattle.litmus_model.specs.Forms.{Mention, nothing, a_processor, a_register, a_location, a_constant, Entry}
use Rattle.litmus_model.specs.Grammar.{Said, Text}

-- ---- locations, numbered by first appearance

unfoldable pub among : ℕ → List ℕ → Bool
among x [] = false
among x (y ∷ ys) = eqb y x || among x ys

-- the letters seen, one more among them
unfoldable pub seen_on : List ℕ → Mention → List ℕ
unfolding among
seen_on seen nothing = seen
seen_on seen (a_processor p) = seen
seen_on seen (a_register r) = seen
seen_on seen (a_location x) = cond (among x seen) seen (seen ++ (x ∷ []))
seen_on seen (a_constant v) = seen

unfoldable pub seen_all : List ℕ → List Said → List ℕ
unfolding seen_on
seen_all seen [] = seen
seen_all seen (s ∷ ss) = seen_all (seen_on seen s.says) ss

-- the locations that tokens mention, in order of first appearance
abbrev pub letters : List Said → List ℕ
letters ss = seen_all [] ss

unfoldable pub number_in : List ℕ → ℕ → ℕ
number_in [] x = 0
number_in (y ∷ ys) x = cond (eqb y x) 0 (suc (number_in ys x))

-- ---- records

unfoldable pub numbered : List ℕ → Option ℕ → ℕ
unfolding number_in
numbered seen none = 0
numbered seen (some x) = number_in seen x

unfoldable pub record_of : List ℕ → Entry → Record
unfolding numbered
record_of seen e = record { kind = e.kind; processor = e.draft.processor; register = e.draft.register; location = numbered seen e.draft.letter; value = e.draft.value }

unfoldable pub records_of : List Said → List Entry → List Record
unfolding record_of seen_all
records_of ss es = map (record_of (letters ss)) es

-- ---- 20 and 21

-- from -2147483648 up to 4294967295
abbrev pub InRange : ℤ → Type 0
InRange (pos n) = n ≤ 4294967295
InRange (negsuc n) = suc n ≤ 2147483648

-- what is wrong with what a token says, where these letters are seen before it
pub data Wrong (seen : List ℕ) : Mention → ℕ → Type 0 where
  processor_above : {p : ℕ} → processors ≤ p → Wrong seen (a_processor p) 20
  ninth : {x : ℕ} → ¬ In x seen → locations ≤ length seen → Wrong seen (a_location x) 20
  out_of_range : {v : ℤ} → ¬ InRange v → Wrong seen (a_constant v) 21

-- nothing is wrong, where these letters are seen before
abbrev pub Faultless : List ℕ → List Said → Type 0
Faultless seen [] = Unit {0}
Faultless seen (s ∷ ss) = ((n : ℕ) → ¬ Wrong seen s.says n) × Faultless (seen_on seen s.says) ss

-- ---- the answer

-- the tokens that are read
abbrev pub Spells : List Said → List Placed → Type 0
Spells [] [] = Unit {0}
Spells [] (t ∷ ts) = ⊥
Spells (s ∷ ss) [] = ⊥
Spells (s ∷ ss) (t ∷ ts) = (s.token ≡ t.token) × Spells ss ts

-- a text of the grammar begins so
pub record Begins (ss : List Said) : Type 0 where
  pub rest : List Said
  pub entries : List Entry
  pub whole : Text (ss ++ rest) entries

-- nothing is wrong before the next token
pub record Fine (ss : List Said) (before : List Placed) : Type 0 where
  pub spells : Spells ss before
  pub begins : Begins ss
  pub faultless : Faultless [] ss

-- a text of that size, with these tokens
pub data Answers (size : ℕ) (ts : List Placed) : Tested (List Record) → Type 0 where
  -- the text is in the grammar
  inside : {ss : List Said} {es : List Entry}
      → Fine ss ts → Text ss es
      → Answers size ts (passed (records_of ss es))
  -- the first token that cannot stand there: no text of the grammar begins with it behind those before it
  outside : {ss : List Said} (before after : List Placed) (t : Placed)
      → ts ≡ before ++ t ∷ after → Fine ss before → ((us : List Said) → Spells us (before ++ t ∷ []) → ¬ Begins us)
      → Answers size ts (refused 19 t.at)
  -- the text ends too early
  unended : {ss : List Said}
      → Fine ss ts → ((us : List Said) (es : List Entry) → Spells us ts → ¬ Text us es)
      → Answers size ts (refused 19 size)
  -- it can stand there, and is wrong
  wrong : {ss : List Said} {m : Mention} {n : ℕ} (before after : List Placed) (t : Placed)
      → ts ≡ before ++ t ∷ after → Fine ss before → Begins (ss ++ record { token = t.token; says = m } ∷ []) → Wrong (letters ss) m n
      → Answers size ts (refused n t.at)

-- a text, given as its bytes
pub record Gives (text : List ℕ) (a : Tested (List Record)) : Type 0 where
  pub split : List Placed
  pub tokens : Tokens text split
  pub answer : Answers (length text) split a
