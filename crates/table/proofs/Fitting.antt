-- A program with one instruction more: it fits as before, and one count is higher.
use mathlib.Core.Path.{◌≡◌, refl, sym, ap, ◌∙◌, subst, subst⁻¹}
use mathlib.Core.Bool.{Bool, true, false}
use Prim.Native.Nat.{ℕ, suc, ◌+◌, ◌*◌, ◌≤◌, ◌<◌}
use native.Mathlib.Omega.{arith}
use lib.ListN.{length-set}
use lib.Dec.{eqb}
use borrow.Author.Tests.{eqb-true, eqb-false}
use Rattle.model.specs.declared.record.Record.{Record}
use Rattle.model.specs.Sizes.{processors, instructions_each}
use Rattle.model.specs.Kinds.{entry_of}
use Rattle.model.specs.Reading.{is_instruction}
use Rattle.model.specs.Code.{Columns, count_in, instruction_at, Fit, Fits}
use Rattle.model.proofs.Bools.{one}
use Rattle.model.proofs.Lists.{each}
use Rattle.table_record.specs.Given.{Formed}
use Rattle.table_record.specs.Enter.{with_instruction}
use Rattle.table.proofs.Entering.{count-own, count-other, at_own, at_before, at-elsewhere}

pub fits_more : (g : Columns) (r : Record) → Formed r → Fits g → count_in g r.processor < instructions_each → is_instruction (entry_of r) ≡ true → Fits (with_instruction g r)
fits_more g r f fits room k = record {
  kinds = length-set g.kinds at r.kind ∙ fits.kinds;
  registers = length-set g.registers at r.register ∙ fits.registers;
  locations = length-set g.locations at r.location ∙ fits.locations;
  values = length-set g.values at r.value ∙ fits.values;
  counts = length-set g.counts p (n + 1) ∙ fits.counts;
  few = each 0 (λ q m. m ≤ instructions_each) g.counts p (n + 1) fits.few (omega (arith, room));
  each = λ q a h l. any_fit q a h l (eqb q p) refl;
}
  where
    p : ℕ
    p = r.processor

    n : ℕ
    n = count_in g p

    at : ℕ
    at = instructions_each * p + n

    own-fit : (a : ℕ) → a < suc n → p < processors → (b : Bool) → eqb a n ≡ b → Fit (instruction_at (with_instruction g r) p a)
    own-fit a l h true e =
        subst⁻¹ Fit (ap (instruction_at (with_instruction g r) p) (eqb-true a n e) ∙ at_own g r f fits room)
        (record { kind = f.known.1; instruction = k; register = f.register; location = f.location })
    own-fit a l h false e =
        let o = eqb-false a n e in
        let m : a < n = omega arith in
        subst⁻¹ Fit (at_before g r f fits room a m) (fits.each p a h m)

    any_fit : (q a : ℕ) → q < processors → a < count_in (with_instruction g r) q → (b : Bool) → eqb q p ≡ b → Fit (instruction_at (with_instruction g r) q a)
    any_fit q a h l true e =
        let z = eqb-true q p e in
        subst⁻¹ (λ (o : ℕ). Fit (instruction_at (with_instruction g r) o a)) z
        (own-fit a (subst (λ (m : ℕ). a < m) (ap (count_in (with_instruction g r)) z ∙ count-own g r f fits room) l) f.processor (eqb a n) refl)
    any_fit q a h l false e =
        let o = eqb-false q p e in
        let m : a < count_in g q = subst (λ (j : ℕ). a < j) (count-other g r f fits room q o) l in
        subst⁻¹ Fit (at-elsewhere g r f fits room q a o m) (fits.each q a h m)

pub count-up : (g : Columns) (r : Record) (f : Formed r) (fits : Fits g) (room : count_in g r.processor < instructions_each) (q : ℕ)
    → count_in (with_instruction g r) q ≡ count_in g q + one (eqb r.processor q)
count-up g r f fits room q = go (eqb r.processor q) refl
  where
    go : (b : Bool) → eqb r.processor q ≡ b → count_in (with_instruction g r) q ≡ count_in g q + one b
    go true e = let z = eqb-true r.processor q e in subst (λ (o : ℕ). count_in (with_instruction g r) o ≡ count_in g o + 1) z (count-own g r f fits room ∙ omega arith)
    go false e = count-other g r f fits room q (λ z. eqb-false r.processor q e (sym z)) ∙ omega arith
