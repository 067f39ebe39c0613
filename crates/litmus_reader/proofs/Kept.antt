-- The records that are kept, with one more.
use mathlib.Core.Path.{◌≡◌, ap, sym, ◌∙◌, subst}
use mathlib.Core.Bool.{Bool, cond}
use mathlib.Core.List.{List, [], ◌∷◌, ◌++◌, append-nil, map-append}
use Prim.Native.Nat.{ℕ, ◌+◌, ◌≤◌, ◌<◌}
use native.Mathlib.Numerals.{add-one}
use native.Mathlib.Omega.{arith}
use lib.ListN.{length, take, set, length-append}
use lib.Seq.{take_all, take-append-le, take-suc-set}
use borrow.Author.Tests.{eq-eqb, ne_eqb}
use Rattle.model.specs.declared.record.Record.{Record}
use Rattle.record.specs.Words.{record_in, records_in}
use Rattle.litmus_reader.specs.declared.records.Records.{Records}
use Rattle.litmus_reader.specs.Keeping.{most, Keeps, given, KeepsOn}

given-none : (r : Record) → r.kind ≡ 0 → given r ≡ []
given-none r e = ap (λ (b : Bool). cond b [] (r ∷ [])) (eq-eqb r.kind 0 e)

given-one : (r : Record) → (r.kind ≡ 0 → ⊥) → given r ≡ r ∷ []
given-one r e = ap (λ (b : Bool). cond b [] (r ∷ [])) (ne_eqb r.kind 0 e)

pub keeps-none : (k : Records) (r : Record) → r.kind ≡ 0 → KeepsOn k r k
keeps-none k r e = record { each = λ rs h. subst (Keeps k) (sym (ap (λ (l : List Record). rs ++ l) (given-none r e) ∙ append-nil rs)) h }

-- k with these words, and one more
abbrev more : Records → List ℕ → Records
more k words = record { words = words; count = k.count + 1 }

on_one : (k : Records) (words : List ℕ) (r : Record) → (r.kind ≡ 0 → ⊥) → ((rs : List Record) → Keeps k rs → records_in (take (k.count + 1) words) ≡ take most (rs ++ (r ∷ []))) → KeepsOn k r (more k words)
on_one k words r e h =
    record {
      each = λ rs held.
          let l = length-append rs (r ∷ []) in
          let c = held.count-is in
          subst (λ (g : List Record). Keeps (more k words) (rs ++ g)) (sym (given-one r e)) (record { first = h rs held; count-is = omega arith });
    }

pub keeps-full : (k : Records) (r : Record) → length k.words ≡ most → (r.kind ≡ 0 → ⊥) → most ≤ k.count → KeepsOn k r (more k k.words)
keeps-full k r long e m =
    let n = k.count in
    let words = k.words in
    on_one k words r e
    (λ rs held.
    let c = held.count-is in
    ap records_in (take_all (n + 1) words (omega arith) ∙ sym (take_all n words (omega arith))) ∙ held.first ∙ sym (take-append-le most rs (r ∷ []) (omega arith)))

pub keeps-room : (k : Records) (w : ℕ) (r : Record) → length k.words ≡ most → record_in w ≡ r → (r.kind ≡ 0 → ⊥) → k.count < most → KeepsOn k r (more k (set k.words k.count w))
keeps-room k w r long is e m =
    let n = k.count in
    let words = k.words in
    on_one k (set words n w) r e
    (λ rs held.
    let c = held.count-is in
    let l = length-append rs (r ∷ []) in
    ap records_in (ap (λ (i : ℕ). take i (set words n w)) (add-one n) ∙ take-suc-set words n w (omega arith))
    ∙ map-append record_in (take n words) (w ∷ [])
    ∙ (λ i. (held.first ∙ take_all most rs (omega arith)) i ++ (is i ∷ []))
    ∙ sym (take_all most (rs ++ (r ∷ [])) (omega arith)))
