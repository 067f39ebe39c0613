-- What a token says at its pattern, and what that makes of the record under way.
use mathlib.Core.Path.{◌≡◌, refl, ap, sym, ◌∙◌, subst, subst⁻¹}
use mathlib.Core.Bool.{Bool, true, false, cond, ◌||◌}
use mathlib.Core.Option.{Option, none, some}
use mathlib.Core.Logic.{◌⊎◌, inl, inr}
use mathlib.Core.List.{List, [], ◌∷◌}
use Prim.Native.Nat.{ℕ, ◌≤◌, ◌<◌}
use native.Mathlib.Omega.{arith}
use lib.ListN.{length, get_or}
use lib.Dec.{eqb}
use lib.IntN.{ℤ}
use mir.Syntax.{w64}
use mir.Val.{to_z, of_z}
use borrow.Author.Tests.{le-leb, lt-leb}
use Rattle.std.specs.Prelude as std
use Rattle.std.specs.Prelude.{Result, Ok, Err}
use Rattle.model.specs.declared.record.Record.{Record}
use Rattle.model.specs.declared.answer.Refusal.{Refusal}
use Rattle.model.specs.declared.answer.Refusal.TheVariants.{TextLimit, TextConstant}
use Rattle.model.specs.Reply.{number_of}
use Rattle.litmus_model.specs.Bytes.{Token, same, is_register}
use Rattle.litmus_model.specs.Forms.{fits, Mention, a_processor, a_register, a_location, a_constant, mention, stored, noted}
use Rattle.litmus_model.specs.Answers.{InRange, seen_on, record_of}
use Rattle.litmus_model.specs.Reader.{in_range, fault}
use Rattle.litmus_model.proofs.Bools.{false-true, and_right, or_cases, same_true}
use Rattle.litmus_model.proofs.Faults.{range-in, in-range}
use Rattle.litmus_form.specs.declared.patterns.Pattern as code
use Rattle.litmus_form.specs.declared.patterns.Pattern.TheVariants as arm
use Rattle.litmus_form.specs.Patterns.{pattern_of}
use Rattle.litmus_said.specs.declared.said.Said.{Said}
use Rattle.litmus_said.specs.declared.said.Said.TheVariants.{Nothing, Processor, Register, Letter, Value}
use Rattle.litmus_said.specs.Values.{capped, capped_z}
use Rattle.litmus_said.specs.Saying.{Says, nothing, processor, processor_above, register, letter, value, out_of_range, Locates, ninth, found, underway, Notes, well, wrong}
use Rattle.litmus_said.proofs.Values.{capped-least, capped_small}
use Rattle.litmus_said.proofs.Constants.{read_back, range-capped, capped-in}

-- ---- processors and constants

pub says-above : (n v : ℕ) → v ≡ capped n → 3 < v → Says (a_processor n) (Err TextLimit)
says-above n v e h = let c = capped-least n in processor_above {p = n} (omega arith)

pub says-processor : (n v : ℕ) → v ≡ capped n → v < 4 → Says (a_processor n) (Ok (Processor v))
says-processor n v e h =
    let c : v ≡ n = e ∙ capped_small n (omega arith) in
    subst⁻¹ (λ (k : ℕ). Says (a_processor n) (Ok (Processor k))) c (processor {p = n} (omega arith))

-- w is the constant, cut off; b whether the code finds it in range
judged : (v w : ℤ) (b : Bool) → w ≡ capped_z v → b ≡ in_range (to_z w64 (of_z w64 w)) → b ≡ in_range v
judged v w b e t = t ∙ ap in_range (read_back v w e) ∙ range-capped v

pub says-out : (v w : ℤ) (b : Bool) → w ≡ capped_z v → b ≡ in_range (to_z w64 (of_z w64 w)) → b ≡ false → Says (a_constant v) (Err TextConstant)
says-out v w b e t h = out_of_range (λ r. false-true (sym h ∙ judged v w b e t ∙ in-range v r))

inside : (v w : ℤ) (b : Bool) → w ≡ capped_z v → b ≡ in_range (to_z w64 (of_z w64 w)) → b ≡ true → InRange v
inside v w b e t h = range-in v (sym (judged v w b e t) ∙ h)

pub held : (v w : ℤ) (b : Bool) → w ≡ capped_z v → b ≡ in_range (to_z w64 (of_z w64 w)) → b ≡ true → InRange (to_z w64 (of_z w64 w))
held v w b e t h = let r = inside v w b e t h in subst⁻¹ InRange (read_back v w e ∙ capped-in v r) r

pub says-value : (v w : ℤ) (b : Bool) (n : ℕ) → w ≡ capped_z v → b ≡ in_range (to_z w64 (of_z w64 w)) → b ≡ true → n ≡ stored (to_z w64 (of_z w64 w)) → Says (a_constant v) (Ok (Value n))
says-value v w b n e t h s =
    let r = inside v w b e t h in
    subst⁻¹ (λ (k : ℕ). Says (a_constant v) (Ok (Value k))) (s ∙ ap stored (read_back v w e ∙ capped-in v r)) (value r)

-- ---- what a token is that fits

-- the pattern that an arm knows
at-arm : (p q : code.Pattern) (t : Token) → p ≡ q → fits (pattern_of p) t ≡ true → fits (pattern_of q) t ≡ true
at-arm p q t e f = subst (λ (k : code.Pattern). fits (pattern_of k) t ≡ true) e f

pub location-long : (p : code.Pattern) (t : Token) → p ≡ arm.Location → fits (pattern_of p) t ≡ true → 0 < length t
unfolding fits pattern_of
location-long p t e f = go t (at-arm p arm.Location t e f)
  where
    go : (l : Token) → fits (pattern_of arm.Location) l ≡ true → 0 < length l
    go [] h = false-true h
    go (b ∷ l) h = omega arith

-- a register's letter
abbrev pub Lettered : Token → Type 0
Lettered t = (1 < length t) × (65 ≤ get_or t 1 0)

of_word : (x : ℕ) (t : Token) → 65 ≤ x → same (69 ∷ x ∷ 88 ∷ []) t ≡ true → Lettered t
of_word x t h e = subst Lettered (same_true (69 ∷ x ∷ 88 ∷ []) t e) (omega arith, h)

a-register : (t : Token) → is_register t ≡ true → Lettered t
unfolding is_register
a-register t f = one (or_cases (same (69 ∷ 65 ∷ 88 ∷ []) t || same (69 ∷ 66 ∷ 88 ∷ []) t || same (69 ∷ 67 ∷ 88 ∷ []) t) _ f)
  where
    three : (same (69 ∷ 65 ∷ 88 ∷ []) t ≡ true) ⊎ (same (69 ∷ 66 ∷ 88 ∷ []) t ≡ true) → Lettered t
    three (inl e) = of_word 65 t (omega arith) e
    three (inr e) = of_word 66 t (omega arith) e

    two : (same (69 ∷ 65 ∷ 88 ∷ []) t || same (69 ∷ 66 ∷ 88 ∷ []) t ≡ true) ⊎ (same (69 ∷ 67 ∷ 88 ∷ []) t ≡ true) → Lettered t
    two (inl e) = three (or_cases (same (69 ∷ 65 ∷ 88 ∷ []) t) _ e)
    two (inr e) = of_word 67 t (omega arith) e

    one : (same (69 ∷ 65 ∷ 88 ∷ []) t || same (69 ∷ 66 ∷ 88 ∷ []) t || same (69 ∷ 67 ∷ 88 ∷ []) t ≡ true) ⊎ (same (69 ∷ 68 ∷ 88 ∷ []) t ≡ true) → Lettered t
    one (inl e) = two (or_cases (same (69 ∷ 65 ∷ 88 ∷ []) t || same (69 ∷ 66 ∷ 88 ∷ []) t) _ e)
    one (inr e) = of_word 68 t (omega arith) e

pub register-long : (p : code.Pattern) (t : Token) → p ≡ arm.Register → fits (pattern_of p) t ≡ true → Lettered t
unfolding fits pattern_of
register-long p t e f = a-register t (at-arm p arm.Register t e f)

pub dollar-long : (p : code.Pattern) (t : Token) → p ≡ arm.Dollar → fits (pattern_of p) t ≡ true → 1 < length t
unfolding fits pattern_of
dollar-long p t e f = go t (at-arm p arm.Dollar t e f)
  where
    go : (l : Token) → fits (pattern_of arm.Dollar) l ≡ true → 1 < length l
    go [] h = false-true h
    go (b ∷ []) h = false-true (and_right (eqb b 36) false h)
    go (b ∷ d ∷ l) h = omega arith

-- ---- what it says

pub said_at : (p q : code.Pattern) (t : Token) (s : Result Said Refusal) → p ≡ q → Says (mention (pattern_of q) t) s → Says (mention (pattern_of p) t) s
said_at p q t s e h = subst⁻¹ (λ (k : code.Pattern). Says (mention (pattern_of k) t) s) e h

pub says_nothing : (p : code.Pattern) (t : Token) → ¬ (p ≡ arm.Location) → ¬ (p ≡ arm.Register) → ¬ (p ≡ arm.Processor) → ¬ (p ≡ arm.Constant) → ¬ (p ≡ arm.Dollar)
    → Says (mention (pattern_of p) t) (Ok Nothing)
unfolding mention pattern_of
says_nothing arm.Location t a b c d e = absurd (a refl)
says_nothing arm.Register t a b c d e = absurd (b refl)
says_nothing arm.Processor t a b c d e = absurd (c refl)
says_nothing arm.Constant t a b c d e = absurd (d refl)
says_nothing arm.Dollar t a b c d e = absurd (e refl)
says_nothing p t a b c d e = nothing

-- ---- what the code learns

-- what is said, by what the code says of it
abbrev Heard : Mention → Result Said Refusal → Type 0
Heard m (Ok Nothing) = m ≡ Mention.nothing
Heard m (Ok (Processor p)) = (m ≡ a_processor p) × (p < 4)
Heard m (Ok (Register q)) = m ≡ a_register q
Heard m (Ok (Letter x)) = m ≡ a_location x
Heard m (Ok (Value n)) = (v : ℤ) × (m ≡ a_constant v) × InRange v × (n ≡ stored v)
Heard m (Err why) = (seen : List ℕ) → fault seen m ≡ some (number_of why)

heard : {m : Mention} {s : Result Said Refusal} → Says m s → Heard m s
unfolding fault
heard nothing = refl
heard (processor h) = (refl, h)
heard (processor_above {p = p} h) = λ seen. rw (le-leb 4 p h)
heard register = refl
heard letter = refl
heard (value {v = v} r) = (v, refl, r, refl)
heard (out_of_range {v = v} n) = λ seen. go (in_range v) refl
  where
    go : (b : Bool) → in_range v ≡ b → cond {A = Option ℕ} b none (some 21) ≡ some 21
    go true e = absurd (n (range-in v e))
    go false e = refl

-- ---- the record under way

abbrev with_processor : Record → ℕ → Record
with_processor r p = record { kind = r.kind; processor = p; register = r.register; location = r.location; value = r.value }

abbrev with_register : Record → ℕ → Record
with_register r q = record { kind = r.kind; processor = r.processor; register = q; location = r.location; value = r.value }

abbrev with_location : Record → ℕ → Record
with_location r i = record { kind = r.kind; processor = r.processor; register = r.register; location = i; value = r.value }

abbrev with_value : Record → ℕ → Record
with_value r v = record { kind = r.kind; processor = r.processor; register = r.register; location = r.location; value = v }

module _ (r : Record) (m : Mention) (s : Result Said Refusal) (seen : List ℕ) (says : Says m s) where
  told : (s₁ : Result Said Refusal) → s ≡ s₁ → Heard m s₁
  told s₁ e = subst (Heard m) e (heard says)

  pub notes-nothing : s ≡ Ok Nothing → Notes r m seen (Ok r) seen
  unfolding fault seen_on record_of noted
  notes-nothing e = subst⁻¹ (λ (k : Mention). Notes r k seen (Ok r) seen) (told (Ok Nothing) e) (well r refl refl refl (λ d h. h))

  pub notes-processor : (p : ℕ) → s ≡ Ok (Processor p) → Notes r m seen (Ok (with_processor r p)) seen
  unfolding fault seen_on record_of noted
  notes-processor p e =
      let k = told (Ok (Processor p)) e in
      subst⁻¹ (λ (k : Mention). Notes r k seen (Ok (with_processor r p)) seen) k.0
      (well (with_processor r p) refl (rw (lt-leb 4 p k.1)) refl (λ d h. ap (λ (q : Record). with_processor q p) h))

  pub notes-register : (q : ℕ) → s ≡ Ok (Register q) → Notes r m seen (Ok (with_register r q)) seen
  unfolding fault seen_on record_of noted
  notes-register q e =
      subst⁻¹ (λ (k : Mention). Notes r k seen (Ok (with_register r q)) seen) (told (Ok (Register q)) e)
      (well (with_register r q) refl refl refl (λ d h. ap (λ (u : Record). with_register u q) h))

  pub notes-value : (n : ℕ) → s ≡ Ok (Value n) → Notes r m seen (Ok (with_value r n)) seen
  unfolding fault seen_on record_of noted
  notes-value n e =
      let k = told (Ok (Value n)) e in
      subst⁻¹ (λ (k : Mention). Notes r k seen (Ok (with_value r n)) seen) k.1
      (well (with_value r n) refl (rw (in-range k.0 k.2)) refl (λ d h. ap (λ (u : Record). with_value u n) h ∙ ap (with_value (underway seen d)) k.3))

  pub notes-wrong : (why : Refusal) → s ≡ Err why → (after : List ℕ) → Notes r m seen (Err why) after
  notes-wrong why e after = wrong why refl (told (Err why) e seen)

  pub notes-ninth : (x : ℕ) (i : std.Option ℕ) (after : List ℕ) → s ≡ Ok (Letter x) → Locates seen x i after → i ≡ std.None → Notes r m seen (Err TextLimit) after
  notes-ninth x i after e l h = subst⁻¹ (λ (k : Mention). Notes r k seen (Err TextLimit) after) (told (Ok (Letter x)) e) (go l)
    where
      go : Locates seen x i after → Notes r (a_location x) seen (Err TextLimit) after
      go (ninth k f) = wrong TextLimit refl f
      go (found j k b f a n) = let z : ◌≡◌ {A = std.Option ℕ} std.None (std.Some j) = sym h ∙ k in cc

  pub letter-few : (x i : ℕ) (o : std.Option ℕ) (after : List ℕ) → Locates seen x o after → o ≡ std.Some i → i < 8
  letter-few x i o after (ninth k f) h = let z : ◌≡◌ {A = std.Option ℕ} std.None (std.Some i) = sym k ∙ h in cc
  letter-few x i o after (found j k b f a n) h = let z : ◌≡◌ {A = std.Option ℕ} (std.Some j) (std.Some i) = sym k ∙ h in let same : j ≡ i = cc in omega arith

  pub notes-letter : (x i : ℕ) (o : std.Option ℕ) (after : List ℕ) → s ≡ Ok (Letter x) → Locates seen x o after → o ≡ std.Some i → Notes r m seen (Ok (with_location r i)) after
  unfolding record_of noted
  notes-letter x i o after e l h = subst⁻¹ (λ (k : Mention). Notes r k seen (Ok (with_location r i)) after) (told (Ok (Letter x)) e) (go l)
    where
      go : Locates seen x o after → Notes r (a_location x) seen (Ok (with_location r i)) after
      go (ninth k f) = let z : ◌≡◌ {A = std.Option ℕ} std.None (std.Some i) = sym k ∙ h in cc
      go (found j k b f a n) =
          let z : ◌≡◌ {A = std.Option ℕ} (std.Some i) (std.Some j) = sym h ∙ k in
          let same : i ≡ j = cc in
          well (with_location r i) refl f a (λ d q. ap (λ (u : Record). with_location u i) q ∙ ap (with_location (underway seen d)) (same ∙ n))
