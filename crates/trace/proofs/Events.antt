-- The tests of a trace record, as the code makes them.
use mathlib.Core.Path.{◌≡◌, refl, sym, ap, ◌∙◌}
use mathlib.Core.Bool.{Bool, true, false, ◌||◌}
use mathlib.Core.List.{List, [], ◌∷◌}
use mathlib.Core.Logic.{◌⊎◌, inl, inr}
use Prim.Native.Nat.{ℕ, ◌<◌}
use native.Mathlib.Omega.{arith}
use lib.ListN.{length}
use Rattle.model.specs.declared.record.Record.{Record}
use Rattle.model.specs.declared.answer.Refusal.TheVariants.{StepKind, StepField}
use Rattle.std.specs.Prelude.{Ok, Err, Some, None}
use Rattle.model.specs.Reply.{refusal_at}
use Rattle.model.specs.Sizes.{processors, registers_each, locations}
use Rattle.model.specs.Fields.{Known, among}
use Rattle.model.specs.Kinds.{step_uses}
use Rattle.model.specs.Tests.{unknown, too_large, not_zero}
use Rattle.model.specs.Code.{Gives}
use Rattle.model.specs.Calls.{step_tests}
use Rattle.model.proofs.Fields.{known-test}
use Rattle.model.proofs.Verdicts.{met, past, none_left}
use Rattle.record.specs.Fields.{row_of, too_large_by, not_zero_by}
use Rattle.record.proofs.Tests.{too-large-is, not-zero-is}
use Rattle.machine_rules.specs.declared.program.Step.{Step}
use Rattle.machine_rules.specs.declared.program.Step.TheVariants.{Read, Write, Drain, Fence, Lock, Unlock, Local}
use Rattle.machine_rules.specs.Steps.{step_of, code_of}
use Rattle.machine_rules.proofs.Codes.{no_step, code-is}

rows : length step_uses ≡ 8
unfolding step_uses
rows = refl

module _ (i : ℕ) (e : Record) where
  -- ---- the kinds, by the steps that have them

  -- e is of kind k, which uses what the row says
  abbrev Uses : List Bool → Type 0
  Uses row = Known step_uses e × (row ≡ row_of step_uses e.kind)

  uses : (row : List Bool) (s : Step) → step_of e.kind ≡ Some s → (n : ℕ) → code_of s ≡ n → 0 < n → n < 8 → row ≡ row_of step_uses n → Uses row
  uses row s z n q l h r =
      let k : e.kind ≡ n = sym (code-is s e.kind (sym z)) ∙ q in
      ((omega arith, rw rows (omega arith)), r ∙ ap (row_of step_uses) (sym k))

  pub located : (s : Step) → step_of e.kind ≡ Some s → (s ≡ Read) ⊎ (s ≡ Write) ⊎ (s ≡ Drain) → Uses (true ∷ false ∷ true ∷ true ∷ [])
  unfolding row_of step_uses among
  located s z (inl p) = uses _ s z 1 (ap code_of p) (omega arith) (omega arith) refl
  located s z (inr (inl p)) = uses _ s z 2 (ap code_of p) (omega arith) (omega arith) refl
  located s z (inr (inr p)) = uses _ s z 3 (ap code_of p) (omega arith) (omega arith) refl

  pub bare : (s : Step) → step_of e.kind ≡ Some s → (s ≡ Fence) ⊎ (s ≡ Lock) ⊎ (s ≡ Unlock) ⊎ (s ≡ Local) → Uses (true ∷ false ∷ false ∷ false ∷ [])
  unfolding row_of step_uses among
  bare s z (inl p) = uses _ s z 4 (ap code_of p) (omega arith) (omega arith) refl
  bare s z (inr (inl p)) = uses _ s z 5 (ap code_of p) (omega arith) (omega arith) refl
  bare s z (inr (inr (inl p))) = uses _ s z 6 (ap code_of p) (omega arith) (omega arith) refl
  bare s z (inr (inr (inr p))) = uses _ s z 7 (ap code_of p) (omega arith) (omega arith) refl

  pub unknown-kind : step_of e.kind ≡ None → Gives (Err (refusal_at StepKind i)) (step_tests e) i
  unfolding step_tests
  unknown-kind z = met StepKind i _ _ _ refl (go (unknown step_uses e) refl)
    where
      go : (b : Bool) → unknown step_uses e ≡ b → b ≡ true
      go true q = refl
      go false q = let k = (known-test step_uses e).0 q in absurd (no_step e.kind k.0 (rw rows at k.1) z)

  -- l, z are what the two tests gave
  module _ (is_Known : Known step_uses e) (l z : Bool) (row : List Bool) (r : row ≡ row_of step_uses e.kind)
      (fl : l ≡ too_large_by processors registers_each locations row e) (fz : z ≡ not_zero_by row e) where
    fields : (l || z) ≡ (too_large step_uses e || not_zero step_uses e)
    fields = λ j. (fl ∙ too-large-is step_uses e row r) j || (fz ∙ not-zero-is step_uses e row r) j

    pub wrong-field : (l || z) ≡ true → Gives (Err (refusal_at StepField i)) (step_tests e) i
    unfolding step_tests
    wrong-field y = past _ _ i _ _ _ refl ((known-test step_uses e).1 is_Known) (met StepField i (l || z) _ _ fields y)

    pub well-formed : (l || z) ≡ false → Gives (Ok tt) (step_tests e) i
    unfolding step_tests
    well-formed y = past _ _ i _ _ _ refl ((known-test step_uses e).1 is_Known) (past _ _ i (l || z) _ _ fields y (none_left i))
