-- One entry more, and one flag put up.
use mathlib.Core.Path.{◌≡◌, refl, sym, ap, ◌∙◌}
use mathlib.Core.Bool.{Bool, true, false, ◌||◌, ◌&&◌, or-false, or-true, or_assoc}
use mathlib.Core.List.{List, [], ◌∷◌, ◌++◌}
use Prim.Native.Nat.{ℕ, ◌+◌, ◌*◌, ◌<◌}
use native.Mathlib.Omega.{arith}
use lib.ListN.{length, get_or, set}
use lib.Seq.{get_or-set_same, get_or-set_other}
use lib.Dec.{eqb}
use borrow.Author.Tests.{eqb-true, eqb-false, eq-eqb, ne_eqb}
use Rattle.model.specs.Sizes.{registers_each}
use Rattle.model.specs.Machine.{Machine}
use Rattle.model.specs.Kinds.{Entry, initial_memory, initial_register, instruction}
use Rattle.model.specs.Table.{instructions_of, enter, enter_all, start}
use Rattle.model.specs.Reading.{any}
use Rattle.model.proofs.Bools.{one}
use Rattle.model.proofs.Readable.{is_of}

-- ---- one entry more

pub any-more : (f : Entry → Bool) (es : List Entry) (e : Entry) → any f (es ++ (e ∷ [])) ≡ any f es || f e
unfolding any
any-more f [] e = or-false (f e)
any-more f (a ∷ es) e = ap (λ (b : Bool). f a || b) (any-more f es e) ∙ sym (or_assoc (f a) (any f es) (f e))

pub instructions-more : (p : ℕ) (es : List Entry) (e : Entry) → instructions_of p (es ++ (e ∷ [])) ≡ instructions_of p es + one (is_of p e)
unfolding instructions_of
instructions-more p [] (initial_memory x v) = omega arith
instructions-more p [] (initial_register q r v) = omega arith
instructions-more p [] (instruction q i) = omega arith
instructions-more p (initial_memory x v ∷ es) e = instructions-more p es e
instructions-more p (initial_register q r v ∷ es) e = instructions-more p es e
instructions-more p (instruction q i ∷ es) e = omega (arith, instructions-more p es e)

enter-more : (s : Machine) (es : List Entry) (e : Entry) → enter_all s (es ++ (e ∷ [])) ≡ enter (enter_all s es) e
unfolding enter_all
enter-more s [] e = refl
enter-more s (a ∷ es) e = enter-more (enter s a) es e

pub start-more : (es : List Entry) (e : Entry) → start (es ++ (e ∷ [])) ≡ enter (start es) e
unfolding start
start-more es e = enter-more _ es e

-- ---- a flag put up

pub flag_up : (l : List Bool) (i x : ℕ) (b : Bool) → i < length l → get_or l x false ≡ b → get_or (set l i true) x false ≡ b || eqb i x
flag_up l i x b h e = go (eqb i x) refl
  where
    go : (t : Bool) → eqb i x ≡ t → get_or (set l i true) x false ≡ b || t
    go true q = ap (λ (j : ℕ). get_or (set l i true) j false) (sym (eqb-true i x q)) ∙ get_or-set_same l i true false h ∙ sym (or-true b)
    go false q = get_or-set_other l i x true false (λ z. eqb-false i x q (sym z)) ∙ e ∙ sym (or-false b)

-- two registers are one cell when processor and register are the same
pub cells-apart : (p q s t : ℕ) → q < registers_each → t < registers_each → eqb (registers_each * p + q) (registers_each * s + t) ≡ (eqb p s && eqb q t)
cells-apart p q s t h k = go (eqb p s) (eqb q t) refl refl
  where
    go : (a b : Bool) → eqb p s ≡ a → eqb q t ≡ b → eqb (registers_each * p + q) (registers_each * s + t) ≡ (a && b)
    go true true e f = let z = eqb-true p s e in let y = eqb-true q t f in eq-eqb (registers_each * p + q) (registers_each * s + t) (omega arith)
    go true false e f = let z = eqb-true p s e in ne_eqb (registers_each * p + q) (registers_each * s + t) (λ w. eqb-false q t f (omega arith))
    go false b e f = ne_eqb (registers_each * p + q) (registers_each * s + t) (λ w. eqb-false p s e (omega arith))
