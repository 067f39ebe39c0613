-- The tests of a table record, in turn, give a number exactly where document 01 refuses the record with it.
use mathlib.Core.Path.{◌≡◌, refl, sym, ◌∙◌, subst}
use mathlib.Core.Logic.{◌↔◌}
use mathlib.Core.Bool.{Bool, true, false, cond, false≢true}
use mathlib.Core.Option.{Option, none, some}
use mathlib.Core.List.{List}
use Prim.Native.Nat.{ℕ}
use Rattle.model.specs.declared.record.Record.{Record}
use Rattle.model.specs.Fields.{Known, InRange, UnusedZero, Proper}
use Rattle.model.specs.Kinds.{Entry, table_uses, entry_of}
use Rattle.model.specs.Table.{Late, Twice, Crowded, Refuses}
use Rattle.model.specs.Tests.{first, unknown, too_large, not_zero}
use Rattle.model.specs.Reading.{late, again, crowded, table_tests}
use Rattle.model.proofs.Tests.{some_inj, none-some}
use Rattle.model.proofs.Bools.{met, not-met, failed, fails}
use Rattle.model.proofs.Fields.{known-test, range-test, zero_test}
use Rattle.model.proofs.Entries.{late-test, again-test, crowded-test}

-- ---- both ways

module _ (before : List Entry) (r : Record) where
  kind-known : (unknown table_uses r ≡ false) ↔ Known table_uses r
  kind-known = known-test table_uses r

  in-range : (too_large table_uses r ≡ false) ↔ InRange table_uses r
  in-range = range-test table_uses r

  unused-zero : (not_zero table_uses r ≡ false) ↔ UnusedZero table_uses r
  unused-zero = zero_test table_uses r

  refuses-first : (n : ℕ) → Refuses before r n → first (table_tests before r) ≡ some n
  unfolding table_tests first
  refuses-first n (Refuses.kind_unknown k) = rw (met _ kind-known k)
  refuses-first n (Refuses.too_large k f) = rw (kind-known.1 k, met _ in-range f)
  refuses-first n (Refuses.not_zero k f z) = rw (kind-known.1 k, in-range.1 f, met _ unused-zero z)
  refuses-first n (Refuses.late p l) =
      rw (kind-known.1 p.known, in-range.1 p.in_range, unused-zero.1 p.unused_zero, (late-test before (entry_of r)).1 l)
  refuses-first n (Refuses.twice p l t) =
      rw (kind-known.1 p.known, in-range.1 p.in_range, unused-zero.1 p.unused_zero, fails _ (late-test before (entry_of r)) l, (again-test before (entry_of r)).1 t)
  refuses-first n (Refuses.crowded p l t c) =
      rw (kind-known.1 p.known, in-range.1 p.in_range, unused-zero.1 p.unused_zero, fails _ (late-test before (entry_of r)) l, fails _ (again-test before (entry_of r)) t, (crowded-test before (entry_of r)).1 c)

  first-refuses : (n : ℕ) → first (table_tests before r) ≡ some n → Refuses before r n
  unfolding table_tests first
  first-refuses n h =
      go (unknown table_uses r) refl (too_large table_uses r) refl (not_zero table_uses r) refl (late before (entry_of r)) refl (again before (entry_of r)) refl (crowded before (entry_of r)) refl h
    where
      proper : unknown table_uses r ≡ false → too_large table_uses r ≡ false → not_zero table_uses r ≡ false → Proper table_uses r
      proper k f z = record { known = kind-known.0 k; in_range = in-range.0 f; unused_zero = unused-zero.0 z }

      go : (b2 : Bool) → unknown table_uses r ≡ b2 → (b3 : Bool) → too_large table_uses r ≡ b3 → (b4 : Bool) → not_zero table_uses r ≡ b4
          → (b5 : Bool) → late before (entry_of r) ≡ b5 → (b6 : Bool) → again before (entry_of r) ≡ b6 → (b7 : Bool) → crowded before (entry_of r) ≡ b7
          → cond b2 (some 2) (cond b3 (some 3) (cond b4 (some 4) (cond b5 (some 5) (cond b6 (some 6) (cond b7 (some 7) none))))) ≡ some n → Refuses before r n
      go true k b3 f b4 z b5 l b6 t b7 c e = subst (Refuses before r) (some_inj e) (Refuses.kind_unknown (not-met _ kind-known k))
      go false k true f b4 z b5 l b6 t b7 c e = subst (Refuses before r) (some_inj e) (Refuses.too_large (kind-known.0 k) (not-met _ in-range f))
      go false k false f true z b5 l b6 t b7 c e = subst (Refuses before r) (some_inj e) (Refuses.not_zero (kind-known.0 k) (in-range.0 f) (not-met _ unused-zero z))
      go false k false f false z true l b6 t b7 c e = subst (Refuses before r) (some_inj e) (Refuses.late (proper k f z) ((late-test before (entry_of r)).0 l))
      go false k false f false z false l true t b7 c e =
          subst (Refuses before r) (some_inj e) (Refuses.twice (proper k f z) (failed _ (late-test before (entry_of r)) l) ((again-test before (entry_of r)).0 t))
      go false k false f false z false l false t true c e =
          subst (Refuses before r) (some_inj e)
          (Refuses.crowded (proper k f z) (failed _ (late-test before (entry_of r)) l) (failed _ (again-test before (entry_of r)) t) ((crowded-test before (entry_of r)).0 c))
      go false k false f false z false l false t false c e = none-some e

  pub refuses-exactly : (n : ℕ) → (first (table_tests before r) ≡ some n) ↔ Refuses before r n
  refuses-exactly n = (first-refuses n, refuses-first n)

  -- no number exactly where none is refused
  pub passes-exactly : (first (table_tests before r) ≡ none) ↔ ((n : ℕ) → ¬ Refuses before r n)
  passes-exactly = (λ h n f. none-some (sym h ∙ refuses-first n f), go (first (table_tests before r)) refl)
    where
      go : (o : Option ℕ) → first (table_tests before r) ≡ o → ((n : ℕ) → ¬ Refuses before r n) → first (table_tests before r) ≡ none
      go none h f = h
      go (some n) h f = absurd (f n (first-refuses n h))

  -- so a record that is not refused is proper, and none of 5, 6, 7 holds of its entry
  pub passes-proper : ((n : ℕ) → ¬ Refuses before r n) → Proper table_uses r
  passes-proper f = record { known = known; in_range = range; unused_zero = zero }
    where
      settle : {T : Type 0} (b : Bool) → (b ≡ false) ↔ T → ¬ ¬ T → T
      settle true d n = absurd (n (λ t. false≢true (sym (d.1 t))))
      settle false d n = d.0 refl

      known : Known table_uses r
      known = settle (unknown table_uses r) kind-known (λ k. f 2 (Refuses.kind_unknown k))

      range : InRange table_uses r
      range = settle (too_large table_uses r) in-range (λ k. f 3 (Refuses.too_large known k))

      zero : UnusedZero table_uses r
      zero = settle (not_zero table_uses r) unused-zero (λ k. f 4 (Refuses.not_zero known range k))

  pub passes-on-time : ((n : ℕ) → ¬ Refuses before r n) → ¬ Late before (entry_of r)
  passes-on-time f l = f 5 (Refuses.late (passes-proper f) l)

  pub passes-once : ((n : ℕ) → ¬ Refuses before r n) → ¬ Twice before (entry_of r)
  passes-once f t = f 6 (Refuses.twice (passes-proper f) (passes-on-time f) t)

  pub passes-few : ((n : ℕ) → ¬ Refuses before r n) → ¬ Crowded before (entry_of r)
  passes-few f c = f 7 (Refuses.crowded (passes-proper f) (passes-on-time f) (passes-once f) c)
