-- What holds of every readable table: its records are proper, no cell is given twice, and no processor has more than 16 instructions.
use mathlib.Core.Path.{◌≡◌, refl, sym, ap, ◌∙◌, subst}
use mathlib.Core.Bool.{Bool, true, false, ◌&&◌, ◌||◌}
use mathlib.Core.List.{List, [], ◌∷◌, ◌++◌, map, append_assoc, append-nil}
use Prim.Native.Nat.{ℕ, ◌+◌, ◌≤◌}
use native.Mathlib.Omega.{arith}
use lib.Dec.{eqb}
use borrow.Author.Tests.{eqb-true}
use Rattle.model.specs.declared.record.Record.{Record}
use Rattle.model.specs.Sizes.{instructions_each}
use Rattle.model.specs.Record.{records}
use Rattle.model.specs.Fields.{Proper}
use Rattle.model.specs.Kinds.{Entry, initial_memory, initial_register, instruction, table_uses, entry_of}
use Rattle.model.specs.Table.{Twice, instructions_of, Crowded, Reads, Readable}
use Rattle.model.specs.Reading.{any, gives_memory, gives_register, again}
use Rattle.model.proofs.Bools.{one, false-true, and_left, and_right}
use Rattle.model.specs.Lists.{All}
use Rattle.model.proofs.Entries.{again-test}
use Rattle.model.proofs.Bools.{fails}
use Rattle.model.proofs.Refusals.{passes-proper, passes-once, passes-few}

-- ---- counting

unfoldable pub count : (Entry → Bool) → List Entry → ℕ
count f [] = 0
count f (e ∷ es) = one (f e) + count f es

count-snoc : (f : Entry → Bool) (before : List Entry) (e : Entry) → count f (before ++ (e ∷ [])) ≡ count f before + one (f e)
unfolding count
count-snoc f [] e = omega arith
count-snoc f (d ∷ before) e = omega (arith, count-snoc f before e)

none-counted : (f : Entry → Bool) (es : List Entry) → any f es ≡ false → count f es ≡ 0
unfolding any count
none-counted f [] h = refl
none-counted f (e ∷ es) h = go (f e) h (none-counted f es)
  where
    go : (b : Bool) → (b || any f es) ≡ false → (any f es ≡ false → count f es ≡ 0) → one b + count f es ≡ 0
    go true k ih = false-true (sym k)
    go false k ih = omega (arith, ih k)

-- an instruction of processor p
abbrev pub is_of : ℕ → Entry → Bool
is_of p (initial_memory x v) = false
is_of p (initial_register q r v) = false
is_of p (instruction q i) = eqb q p

pub instructions-counted : (p : ℕ) (es : List Entry) → instructions_of p es ≡ count (is_of p) es
unfolding instructions_of count
instructions-counted p [] = refl
instructions-counted p (initial_memory x v ∷ es) = omega (arith, instructions-counted p es)
instructions-counted p (initial_register q r v ∷ es) = omega (arith, instructions-counted p es)
instructions-counted p (instruction q i ∷ es) = omega (arith, instructions-counted p es)

-- ---- one more entry

pub record Once (entries : List Entry) : Type 0 where
  pub memory : (x : ℕ) → count (gives_memory x) entries ≤ 1
  pub register : (p r : ℕ) → count (gives_register p r) entries ≤ 1
  pub few : (p : ℕ) → count (is_of p) entries ≤ instructions_each

-- one more that is like this: there was none before
once_more : (b : Bool) (n : ℕ) → n ≤ 1 → (b ≡ true → n ≡ 0) → n + one b ≤ 1
once_more true n l h = omega (arith, h refl)
once_more false n l h = omega arith

memory-more : (before : List Entry) (e : Entry) (x : ℕ) → count (gives_memory x) before ≤ 1 → again before e ≡ false → count (gives_memory x) before + one (gives_memory x e) ≤ 1
unfolding again
memory-more before (initial_memory y v) x l a = once_more (eqb y x) _ l (λ t. none-counted (gives_memory x) before (ap (λ (z : ℕ). any (gives_memory z) before) (sym (eqb-true y x t)) ∙ a))
memory-more before (initial_register p r v) x l a = omega arith
memory-more before (instruction p i) x l a = omega arith

register-more : (before : List Entry) (e : Entry) (p r : ℕ) → count (gives_register p r) before ≤ 1 → again before e ≡ false
    → count (gives_register p r) before + one (gives_register p r e) ≤ 1
unfolding again
register-more before (initial_memory x v) p r l a = omega arith
register-more before (initial_register q s v) p r l a =
    once_more (eqb q p && eqb s r) _ l
    (λ t. none-counted (gives_register p r) before
    ((λ k. any (gives_register (sym (eqb-true q p (and_left (eqb q p) (eqb s r) t)) k) (sym (eqb-true s r (and_right (eqb q p) (eqb s r) t)) k)) before) ∙ a))
register-more before (instruction q i) p r l a = omega arith

few-more : (before : List Entry) (e : Entry) (p : ℕ) → count (is_of p) before ≤ instructions_each → ¬ Crowded before e → count (is_of p) before + one (is_of p e) ≤ instructions_each
few-more before (initial_memory x v) p l c = omega arith
few-more before (initial_register q r v) p l c = omega arith
few-more before (instruction q i) p l c = go (eqb q p) refl
  where
    go : (b : Bool) → eqb q p ≡ b → count (is_of p) before + one b ≤ instructions_each
    go true t =
        let n : ¬ (instructions_each ≤ instructions_of p before) = subst (λ (z : ℕ). ¬ (instructions_each ≤ instructions_of z before)) (eqb-true q p t) c in
        omega (arith, instructions-counted p before)
    go false t = omega arith

once-on : (before : List Entry) (e : Entry) → Once before → ¬ Twice before e → ¬ Crowded before e → Once (before ++ (e ∷ []))
once-on before e o t c = let a = fails (again before e) (again-test before e) t in record {
  memory = λ x. rw (count-snoc (gives_memory x) before e) (memory-more before e x (o.memory x) a);
  register = λ p r. rw (count-snoc (gives_register p r) before e) (register-more before e p r (o.register p r) a);
  few = λ p. rw (count-snoc (is_of p) before e) (few-more before e p (o.few p) c);
}

-- ---- all of them

pub record Sound (rs : List Record) (before entries : List Entry) : Type 0 where
  pub proper : All (Proper table_uses) rs
  pub given : entries ≡ before ++ map entry_of rs
  pub once : Once entries

sound : (before : List Entry) (rs : List Record) (entries : List Entry) → Once before → Reads before rs entries → Sound rs before entries
sound before [] entries o h = record { proper = tt; given = sym h ∙ sym (append-nil before); once = subst Once h o }
sound before (r ∷ rs) entries o h =
    let e = sound (before ++ (entry_of r ∷ [])) rs entries (once-on before (entry_of r) o (passes-once before r h.0) (passes-few before r h.0)) h.1 in
    record { proper = (passes-proper before r h.0, e.proper); given = e.given ∙ append_assoc before (entry_of r ∷ []) (map entry_of rs); once = e.once }

none_yet : Once []
unfolding count
none_yet = record { memory = λ x. omega arith; register = λ p r. omega arith; few = λ p. omega arith }

pub readable-sound : (table : List ℕ) (entries : List Entry) → Readable table entries → Sound (records table) [] entries
readable-sound table entries r = sound [] (records table) entries none_yet r.1
