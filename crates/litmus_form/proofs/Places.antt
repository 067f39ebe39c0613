-- What the code's places stand for.
use mathlib.Core.Path.{◌≡◌, refl, ap, sym, ◌∙◌}
use mathlib.Core.Bool.{Bool, true, false, cond, ◌&&◌}
use mathlib.Core.List.{[], ◌∷◌, map}
use Prim.Native.Nat.{ℕ, zero, suc}
use native.Mathlib.Omega.{arith}
use lib.Dec.{eqb}
use borrow.Author.Tests.{ne_eqb}
use Rattle.litmus_model.specs.Bytes.{Token, same}
use Rattle.litmus_model.specs.Forms.{semicolon, bar, row_forms, mark_of, is_end}
use Rattle.litmus_model.specs.Reader.{row, forms_in, next, leaves}
use Rattle.litmus_form.specs.declared.place.Place.{Place}
use Rattle.litmus_form.specs.declared.place.Place.TheVariants.{Braces, Row}
use Rattle.litmus_form.specs.Flags.{patterns, all_forms, alives}
use Rattle.litmus_form.specs.Places.{context_of, mark_in, flags_in, next_in}
use Rattle.litmus_form.proofs.Alives.{padded, row-of, table-semicolon, table-bar, begin-braces, begin-row}

-- ---- by the place that an arm knows

pub leaves-braces : (place : Place) (t : Token) (b : Bool) → place ≡ Braces → b ≡ same (125 ∷ []) t → b ≡ leaves (context_of place) t
unfolding leaves
leaves-braces place t b e h = h ∙ sym (ap (λ (q : Place). leaves (context_of q) t) e)

pub leaves-row : (place : Place) (c : ℕ × ℕ) (t : Token) (a b : Bool) → place ≡ Row c → a ≡ eqb c.1 0 → b ≡ is_end t → a && b ≡ leaves (context_of place) t
unfolding leaves
leaves-row place c t a b e z h = ap (λ (x : Bool). x && b) z ∙ at c.1 ∙ sym (ap (λ (q : Place). leaves (context_of q) t) e)
  where
    at : (q : ℕ) → eqb q 0 && b ≡ leaves (row c.0 q) t
    at zero = h
    at (suc q) = ap (λ (x : Bool). x && b) (ne_eqb (suc q) 0 (λ k. omega (arith, k)))

-- ---- what they stand for

pub next-context : (place : Place) → context_of (next_in place) ≡ next (context_of place)
unfolding next
next-context Braces = refl
next-context (Row c) = go (eqb (suc c.1) c.0)
  where
    go : (b : Bool) → context_of (Row (cond b (c.0, 0) (c.0, suc c.1))) ≡ cond b (row c.0 0) (row c.0 (suc c.1))
    go true = refl
    go false = refl

-- the forms that may begin there are alive
pub begun : (place : Place) → alives (all_forms (mark_in place)) (flags_in place) 0 ≡ forms_in (context_of place)
unfolding forms_in mark_of
begun Braces = begin-braces 59
begun (Row c) = go (eqb (suc c.1) c.0)
  where
    go : (b : Bool) → alives (all_forms (cond b 59 124)) (flags_in (Row c)) 0 ≡ row_forms (cond b semicolon bar)
    go true = begin-row 59
    go false = begin-row 124

-- and the code's table is that of the forms
pub table_of : (place : Place) → map (row-of (mark_in place)) patterns ≡ map padded (all_forms (mark_in place))
table_of Braces = table-semicolon
table_of (Row c) = go (eqb (suc c.1) c.0)
  where
    go : (b : Bool) → map (row-of (cond b 59 124)) patterns ≡ map padded (all_forms (cond b 59 124))
    go true = table-semicolon
    go false = table-bar
