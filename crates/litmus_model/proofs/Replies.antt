-- What a caller gets from a text: which numbers can come, the lent room, and a readable table.
use mathlib.Core.Path.{◌≡◌, refl, sym, ap, ◌∙◌, subst}
use mathlib.Core.Logic.{◌⊎◌, inl, inr}
use mathlib.Core.Bool.{Bool, true, false, not, ◌&&◌, ◌||◌}
use mathlib.Core.List.{List, [], ◌∷◌, ◌++◌, map, append_assoc, append-nil}
use Prim.Native.Nat.{ℕ, zero, suc, ◌*◌, ◌<◌}
use native.Mathlib.Omega.{arith}
use lib.ListN.{length, take, drop, length-append, length-drop}
use lib.Seq.{take-append_seam}
use lib.Dec.{eqb, ltb}
use borrow.Author.Tests.{eqb-true, eqb-false, not-true}
use Rattle.model.specs.declared.record.Record.{Record}
use Rattle.model.specs.Sizes.{record_size}
use Rattle.model.specs.Lists.{All, In}
use Rattle.model.specs.Record.{records, file_of}
use Rattle.model.specs.Fields.{Proper}
use Rattle.model.specs.Kinds.{Entry, table_uses, table_rows, entry_of}
use Rattle.model.specs.Table.{Late, Refuses, Reads, Readable}
use Rattle.model.specs.Tests.{Tested, passed, refused}
use Rattle.model.specs.Reading.{any, is_instruction, late, reading}
use Rattle.model.specs.Reply.{Reply, done}
use Rattle.model.specs.Promises.{Lent}
use Rattle.model.proofs.Tests.{passed-refused}
use Rattle.model.proofs.Entries.{late-test}
use Rattle.model.proofs.Given.{table-number}
use Rattle.model.proofs.Words.{file-length}
use Rattle.model.proofs.Bytes.{Small, records-file}
use Rattle.model.proofs.Reading.{readable-exactly}
use Rattle.litmus_model.specs.Tokens.{Placed}
use Rattle.litmus_model.specs.Forms.{Mention}
use Rattle.litmus_model.specs.Answers.{Wrong, processor_above, ninth, out_of_range, Answers, inside, outside, unended, wrong, Gives}
use Rattle.litmus_model.specs.Imports.{Imports, text_refused, table_refused, too_small, imported}
use Rattle.litmus_model.proofs.Bools.{false-true, and_left, and_right}
use Rattle.litmus_model.proofs.Drafts.{agree, agree-true, is_initial}
use Rattle.litmus_model.proofs.Tables.{InitialFirst, Table, gives-table}

-- ---- no initial record stands after an instruction

-- f holds of the numbers below n
unfoldable all_below : ℕ → (ℕ → Bool) → Bool
all_below zero f = true
all_below (suc n) f = f n && all_below n f

below_at : (n : ℕ) (f : ℕ → Bool) → all_below n f ≡ true → (k : ℕ) → k < n → f k ≡ true
unfolding all_below
below_at zero f e k l = absurd (omega arith)
below_at (suc n) f e k l = go (eqb k n) refl (below_at n f (and_right (f n) (all_below n f) e) k)
  where
    go : (b : Bool) → eqb k n ≡ b → (k < n → f k ≡ true) → f k ≡ true
    go true h on = ap f (eqb-true k n h) ∙ and_left (f n) (all_below n f) e
    go false h on = let ne : ¬ (k ≡ n) = eqb-false k n h in on (omega arith)

-- the kinds of a table from 3 on are instructions, and those below are not
kinds-tell : (p r x v : ℕ) → all_below table_rows (λ k. agree (is_instruction (entry_of (record { kind = k; processor = p; register = r; location = x; value = v }))) (not (ltb k 3))) ≡ true
unfolding all_below agree entry_of table_uses
kinds-tell p r x v = refl

kind-tells : (r : Record) → Proper table_uses r → is_instruction (entry_of r) ≡ not (is_initial r)
kind-tells r p = agree-true _ _ (below_at table_rows _ (kinds-tell r.processor r.register r.location r.value) r.kind p.known.1)

-- so behind an instruction there is an instruction
behind : (before after : List Record) (r : Record) → All (Proper table_uses) (before ++ r ∷ after) → InitialFirst (before ++ r ∷ after)
    → any is_instruction (map entry_of before) ≡ true → is_instruction (entry_of r) ≡ true
unfolding any
behind [] after r p o e = false-true e
behind (q ∷ before) after r p o e = go (is_instruction (entry_of q)) refl e (behind before after r p.1 o.1)
  where
    at : (rs : List Record) → All (Proper table_uses) (rs ++ r ∷ after) → All (λ (q : Record). is_initial q ≡ false) (rs ++ r ∷ after) → is_instruction (entry_of r) ≡ true
    at [] p a = kind-tells r p.0 ∙ ap not a.0
    at (s ∷ rs) p a = at rs p.1 a.1

    go : (b : Bool) → is_instruction (entry_of q) ≡ b → (b || any is_instruction (map entry_of before)) ≡ true → (any is_instruction (map entry_of before) ≡ true → is_instruction (entry_of r) ≡ true)
        → is_instruction (entry_of r) ≡ true
    go true h k on = at before p.1 (o.0 (not-true (is_initial q) (sym (kind-tells q p.0) ∙ h)))
    go false h k on = on k

-- what records that are read give
reads-given : (before : List Entry) (rs : List Record) (entries : List Entry) → Reads before rs entries → entries ≡ before ++ map entry_of rs
reads-given before [] entries x = sym x ∙ sym (append-nil before)
reads-given before (r ∷ rs) entries x = reads-given (before ++ (entry_of r ∷ [])) rs entries x.1 ∙ append_assoc before (entry_of r ∷ []) (map entry_of rs)

not_late : (before after : List Record) (r : Record) → Table (before ++ r ∷ after) → ¬ Late (map entry_of before) (entry_of r)
unfolding late
not_late before after r t l =
    let e : not (is_instruction (entry_of r)) && any is_instruction (map entry_of before) ≡ true = (late-test (map entry_of before) (entry_of r)).1 l in
    let i = behind before after r t.proper t.initial_first (and_right (not (is_instruction (entry_of r))) _ e) in
    false-true (ap not (sym i) ∙ and_left _ (any is_instruction (map entry_of before)) e)

-- ---- the numbers

own-proper : (before after : List Record) (r : Record) → All (Proper table_uses) (before ++ r ∷ after) → Proper table_uses r
own-proper [] after r p = p.0
own-proper (q ∷ before) after r p = own-proper before after r p.1

-- of the table's numbers only 6 and 7 can come
pub six-or-seven : (text : List ℕ) (before after : List Record) (r : Record) (entries : List Entry) (n : ℕ)
    → Gives text (passed (before ++ r ∷ after)) → Reads [] before entries → Refuses entries r n → (n ≡ 6) ⊎ (n ≡ 7)
six-or-seven text before after r entries n g x w = go w
  where
    table : Table (before ++ r ∷ after)
    table = gives-table text (before ++ r ∷ after) g

    p : Proper table_uses r
    p = own-proper before after r table.proper

    go : {m : ℕ} → Refuses entries r m → (m ≡ 6) ⊎ (m ≡ 7)
    go (Refuses.kind_unknown k) = absurd (k p.known)
    go (Refuses.too_large k f) = absurd (f p.in_range)
    go (Refuses.not_zero k f z) = absurd (z p.unused_zero)
    go (Refuses.late q l) = absurd (not_late before after r table (subst (λ (es : List Entry). Late es (entry_of r)) (reads-given [] before entries x) l))
    go (Refuses.twice q l t) = inl refl
    go (Refuses.crowded q l t c) = inr refl

wrong-number : {seen : List ℕ} {m : Mention} {n : ℕ} → Wrong seen m n → In n (19 ∷ 20 ∷ 21 ∷ [])
wrong-number (processor_above l) = inr (inl refl)
wrong-number (ninth i l) = inr (inl refl)
wrong-number (out_of_range o) = inr (inr (inl refl))

answer-number : {size : ℕ} {ts : List Placed} {a : Tested (List Record)} (n i : ℕ) → Answers size ts a → a ≡ refused n i → In n (19 ∷ 20 ∷ 21 ∷ [])
answer-number n i (inside f x) e = passed-refused e
answer-number n i (outside before after t q f h) e = inl cc
answer-number n i (unended f h) e = inl cc
answer-number n i (wrong {n = k} before after t q f b w) e = let same : k ≡ n = cc in subst (λ (j : ℕ). In j (19 ∷ 20 ∷ 21 ∷ [])) same (wrong-number w)

-- of the text's
pub text-number : (text : List ℕ) (n i : ℕ) → Gives text (refused n i) → In n (19 ∷ 20 ∷ 21 ∷ [])
text-number text n i g = answer-number n i g.answer refl

-- all the numbers that can come
pub numbers : (text room : List ℕ) (r : Reply) → Imports text room r → In r.number (0 ∷ 6 ∷ 7 ∷ 13 ∷ 19 ∷ 20 ∷ 21 ∷ [])
numbers text room r (text_refused {n} {i} g) = inr (inr (inr (inr (text-number text n i g))))
numbers text room r (table_refused {n} {r = q} entries before after g x w) = go (six-or-seven text before after q entries n g x w)
  where
    go : (n ≡ 6) ⊎ (n ≡ 7) → In n (0 ∷ 6 ∷ 7 ∷ 13 ∷ 19 ∷ 20 ∷ 21 ∷ [])
    go (inl e) = inr (inl (sym e))
    go (inr e) = inr (inr (inl (sym e)))
numbers text room r (too_small entries rs g x l) = inr (inr (inr (inl refl)))
numbers text room r (imported entries rs g x l) = inl refl

-- ---- the room

-- a refusal leaves it unchanged, and no reply changes its length
pub imports-lends : (text room : List ℕ) (r : Reply) → Imports text room r → Lent room r
imports-lends text room r (text_refused g) = record { unchanged = λ above. refl; long = refl }
imports-lends text room r (table_refused entries before after g x w) = record { unchanged = λ above. refl; long = refl }
imports-lends text room r (too_small entries rs g x l) = record { unchanged = λ above. refl; long = refl }
imports-lends text room r (imported entries rs g x l) = record { unchanged = λ above. absurd (above refl); long = fills }
  where
    fills : length (file_of rs ++ drop (record_size * length rs) room) ≡ length room
    fills = simp (length-append, length-drop) (omega (arith, file-length rs))

-- ---- what is written is a readable table: it means what the text's records mean

-- these n records of the text, in these bytes
pub record Written (text : List ℕ) (n : ℕ) (bytes : List ℕ) : Type 0 where
  pub rs : List Record
  pub gives : Gives text (passed rs)
  pub count : length rs ≡ n
  pub back : records bytes ≡ rs
  pub readable : Readable bytes (map entry_of rs)

file-readable : (rs : List Record) (entries : List Entry) → All Small rs → Reads [] rs entries → Readable (file_of rs) (map entry_of rs)
file-readable rs entries small x = (
  let l = file-length rs in omega arith,
  subst (λ (l : List Record). Reads [] l (map entry_of rs)) (sym (records-file rs small)) (subst (Reads [] rs) (reads-given [] rs entries x) x),
)

zero-not : {n : ℕ} (l : List ℕ) → n ≡ 0 → In n l → All (λ k. 0 < k) l → ⊥
zero-not [] e i a = i
zero-not (k ∷ l) e (inl h) a = let p : 0 < k = a.0 in omega arith
zero-not (k ∷ l) e (inr i) a = zero-not l e i a.1

pub written-table : (text room : List ℕ) (r : Reply) → Imports text room r → r.number ≡ 0 → Written text r.place (take (record_size * r.place) r.room)
written-table text room r (text_refused {n} {i} g) e = absurd (zero-not (19 ∷ 20 ∷ 21 ∷ []) e (text-number text n i g) (omega arith, (omega arith, (omega arith, tt))))
written-table text room r (table_refused {n} {r = q} entries before after g x w) e = let k = table-number entries q n w in absurd (omega arith)
written-table text room r (too_small entries rs g x l) e = absurd (omega arith)
written-table text room r (imported entries rs g x l) e =
    subst (Written text (length rs)) (sym taken)
    (record { rs = rs; gives = g; count = refl; back = records-file rs small; readable = file-readable rs entries small x })
  where
    small : All Small rs
    small = (gives-table text rs g).small

    taken : take (record_size * length rs) (file_of rs ++ drop (record_size * length rs) room) ≡ file_of rs
    taken = ap (λ (k : ℕ). take k (file_of rs ++ drop (record_size * length rs) room)) (sym (file-length rs)) ∙ take-append_seam (file_of rs) (drop (record_size * length rs) room)

-- so the table's own reader takes it
pub written-readable : (text room : List ℕ) (n : ℕ) (after : List ℕ) → Imports text room (done n after)
    → (rs : List Record) × Gives text (passed rs) × (length rs ≡ n) × (reading (take (record_size * n) after) ≡ passed (map entry_of rs))
written-readable text room n after x =
    let w = written-table text room (done n after) x refl in
    (w.rs, w.gives, w.count, (readable-exactly (take (record_size * n) after) (map entry_of w.rs)).1 w.readable)
