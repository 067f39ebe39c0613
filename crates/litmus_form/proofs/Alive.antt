-- A form that is alive, and its pattern that comes next.
use mathlib.Core.Path.{◌≡◌, refl, ap, sym, ◌∙◌, subst}
use mathlib.Core.Bool.{Bool, true, false, cond, ◌&&◌}
use mathlib.Core.Logic.{inl}
use mathlib.Core.List.{List, [], ◌∷◌, ◌++◌, map}
use Prim.Native.Nat.{ℕ, zero, suc, ◌-◌, ◌≤◌, ◌<◌}
use native.Mathlib.Omega.{arith}
use lib.ListN.{length, get_or, drop, replicate, length-drop}
use Rattle.model.specs.Lists.{All, In}
use Rattle.litmus_model.specs.Bytes.{Token, same}
use Rattle.litmus_model.specs.Forms.{Pattern, exactly, fits, Form, form}
use Rattle.litmus_model.specs.Reader.{advance}
use Rattle.litmus_model.proofs.Bools.{false-true, and_left, and_right}
use Rattle.litmus_model.proofs.Forms.{in_right}
use Rattle.std.specs.Prelude.{Option, Some, None}
use Rattle.litmus_form.specs.Patterns.{pattern_of}
use Rattle.litmus_form.specs.Flags.{patterns, form_at, code_at, alive_on, Advanced, all_forms, alives, First}
use Rattle.litmus_form.proofs.Alives.{padded, row-of, none, twelve, pattern-at, same-in-table, alive-forms}

-- ---- which are alive

pub alive-in : (fs : List Form) (alive : List Bool) (at j : ℕ) → length alive ≡ length fs → j < length fs → get_or alive j false ≡ true
    → In (form (get_or fs j none).kind (drop at (get_or fs j none).patterns)) (alives fs alive at)
unfolding alives
alive-in [] alive at j l h e = absurd (omega arith)
alive-in (f ∷ fs) [] at j l h e = absurd (omega arith)
alive-in (f ∷ fs) (x ∷ alive) at zero l h e = subst (λ (y : Bool). In (form f.kind (drop at f.patterns)) (cond y (form f.kind (drop at f.patterns) ∷ []) [] ++ alives fs alive at)) (sym e) (inl refl)
alive-in (f ∷ fs) (x ∷ alive) at (suc j) l h e = in_right _ (cond x (form f.kind (drop at f.patterns) ∷ []) []) (alives fs alive at) (alive-in fs alive at j (omega arith) (omega arith) e)

none-of-them : (fs : List Form) (alive : List Bool) (at : ℕ) → length alive ≡ length fs → ((k : ℕ) → k < length fs → get_or alive k false ≡ false) → alives fs alive at ≡ []
unfolding alives
none-of-them [] alive at l b = refl
none-of-them (f ∷ fs) [] at l b = absurd (omega arith)
none-of-them (f ∷ fs) (x ∷ alive) at l b =
    ap (λ (y : Bool). cond y (form f.kind (drop at f.patterns) ∷ []) [] ++ alives fs alive at) (b 0 (omega arith)) ∙ none-of-them fs alive at (omega arith) (λ k i. b (suc k) (omega arith))

-- ---- what is left of one of them

left_at : (ps : List Pattern) (n at : ℕ) (p : Pattern) (b : ℕ) (t : Token) → get_or (ps ++ replicate n (exactly [])) at (exactly []) ≡ p → fits p (b ∷ t) ≡ true → drop at ps ≡ p ∷ drop (suc at) ps
unfolding fits same
left_at [] zero zero p b t e h = false-true (ap (λ (q : Pattern). fits q (b ∷ t)) e ∙ h)
left_at [] zero (suc at) p b t e h = false-true (ap (λ (q : Pattern). fits q (b ∷ t)) e ∙ h)
left_at [] (suc n) zero p b t e h = false-true (ap (λ (q : Pattern). fits q (b ∷ t)) e ∙ h)
left_at [] (suc n) (suc at) p b t e h = absurd (empty (left_at [] n at p b t e h))
  where
    nothing : (k : ℕ) → ◌≡◌ {A = List Pattern} (drop k []) []
    nothing zero = refl
    nothing (suc k) = refl

    empty : drop at [] ≡ p ∷ drop (suc at) [] → ⊥
    empty k = let z : ◌≡◌ {A = List Pattern} [] (p ∷ drop (suc at) []) = sym (nothing at) ∙ k in let w : ◌≡◌ {A = ℕ} 0 1 = cc in omega arith
left_at (q ∷ ps) n zero p b t e h = ap (λ (r : Pattern). r ∷ ps) e
left_at (q ∷ ps) n (suc at) p b t e h = left_at ps n at p b t e h

pub record Alive (mark j at : ℕ) (forms : List Form) (t : Token) : Type 0 where
  pub kind : ℕ
  pub rest : List Pattern
  pub is-kind : kind ≡ (get_or (all_forms mark) j none).kind
  pub is-rest : rest ≡ drop (suc at) (get_or (all_forms mark) j none).patterns
  pub more : at < length (get_or (all_forms mark) j none).patterns
  pub among : In (form kind (pattern_of (code_at mark j at) ∷ rest)) forms
  pub fitting : fits (pattern_of (code_at mark j at)) t ≡ true

-- a form that is alive behind the token was so before, and the token fits its pattern
pub first-alive : (alive next : List Bool) (mark at j b : ℕ) (t : Token) (r : Option ℕ) → map (row-of mark) patterns ≡ map padded (all_forms mark) → length alive ≡ 12
    → Advanced alive mark at (b ∷ t) next → First next r → r ≡ Some j → Alive mark j at (alives (all_forms mark) alive at) (b ∷ t)
unfolding alive_on
first-alive alive next mark at j b t r e l x first is =
    let w = twelve mark in
    let found = first.found j is in
    let h = found.0 in
    let f = get_or (all_forms mark) j none in
    let both : get_or alive j false && fits (pattern_of (code_at mark j at)) (b ∷ t) ≡ true = sym (x.each j h) ∙ found.1 in
    let fit : fits (pattern_of (code_at mark j at)) (b ∷ t) ≡ true = and_right (get_or alive j false) _ both in
    let ahead : drop at f.patterns ≡ pattern_of (code_at mark j at) ∷ drop (suc at) f.patterns = left_at f.patterns (8 - length f.patterns) at _ b t (pattern-at mark j at e h) fit in
    record {
      kind = f.kind;
      rest = drop (suc at) f.patterns;
      is-kind = refl;
      is-rest = refl;
      more = below f.patterns ahead;
      among = subst (λ (l : List Pattern). In (form f.kind l) (alives (all_forms mark) alive at)) ahead (alive-in (all_forms mark) alive at j (omega arith) (omega arith) (and_left _ (fits (pattern_of (code_at mark j at)) (b ∷ t)) both));
      fitting = fit;
    }
  where
    below : {q : Pattern} {qs : List Pattern} (ps : List Pattern) → drop at ps ≡ q ∷ qs → at < length ps
    below ps k = let n = length-drop at ps in let m = ap length k in omega arith

-- none is alive
pub none-alive : (alive next : List Bool) (mark at b : ℕ) (t : Token) (r : Option ℕ) → map (row-of mark) patterns ≡ map padded (all_forms mark) → length alive ≡ 12 → length next ≡ 12
    → Advanced alive mark at (b ∷ t) next → First next r → r ≡ None → advance (alives (all_forms mark) alive at) (b ∷ t) ≡ []
none-alive alive next mark at b t r e la ln x f h =
    let w = twelve mark in
    alive-forms alive next mark at b t e la ln x ∙ none-of-them (all_forms mark) next (suc at) (omega arith) (λ k i. f.none h k (omega arith))

-- ---- kinds and lengths

pub kind_at : (mark j : ℕ) → j < 12 → (get_or (all_forms mark) j none).kind ≡ (form_at j).kind
unfolding all_forms
kind_at mark j h = sym (same-in-table (λ f. f.kind) (λ f. f.kind) mark j refl h)

pub length_at : (mark j : ℕ) → j < 12 → length (get_or (all_forms mark) j none).patterns ≡ (form_at j).length
unfolding all_forms
length_at mark j h = sym (same-in-table (λ f. f.length) (λ f. length f.patterns) mark j refl h)

-- no form is longer
pub length_most : (mark j : ℕ) → j < 12 → length (get_or (all_forms mark) j none).patterns ≤ 8
unfolding all_forms
length_most mark j h = let w = twelve mark in most (all_forms mark) j (omega arith) all
  where
    most : (fs : List Form) (k : ℕ) → k < length fs → All (λ (f : Form). length f.patterns ≤ 8) fs → length (get_or fs k none).patterns ≤ 8
    most [] k l a = absurd (omega arith)
    most (f ∷ fs) zero l a = a.0
    most (f ∷ fs) (suc k) l a = most fs k (omega arith) a.1

    all : All (λ (f : Form). length f.patterns ≤ 8) (all_forms mark)
    all = search arith
