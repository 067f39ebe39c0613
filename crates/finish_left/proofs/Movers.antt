-- The processor that the code moves is the one that the model moves.
use mathlib.Core.Path.{◌≡◌, refl, sym, ap, ◌∙◌}
use mathlib.Core.Bool.{Bool, true, false, cond}
use Prim.Native.Nat.{ℕ, zero, suc, ◌+◌, ◌≤◌, ◌<◌}
use native.Mathlib.Omega.{arith}
use lib.Dec.{lit<}
use Rattle.std.specs.Prelude.{Option, Some, None}
use Rattle.std.specs.Option.{MatchOption, option_or, unwrap_or}
use Rattle.model.specs.Sizes.{processors}
use Rattle.model.specs.Finish.{first_busy, mover}
use Rattle.model.specs.Code.{Columns, four}
use Rattle.model.proofs.Bools.{false-true}
use Rattle.machine_state.specs.State.{State}
use Rattle.machine_state.specs.Finished.{done_at}
use Rattle.machine.specs.View.{processor_of, holder_of, machine_of}
use Rattle.machine.specs.Ready.{Ready}
use Rattle.machine.proofs.Ends.{done-is}
use Rattle.finish_left.specs.Mover.{first_busy_from, mover_in}

-- ---- the search for the first processor that is not done

module _ (done : ℕ → Bool) where
  none-busy : (p n : ℕ) → ((k : ℕ) → p ≤ k → k < p + n → done k ≡ true) → None ≡ first_busy_from done p n
  unfolding first_busy_from
  none-busy p zero all = refl
  none-busy p (suc n) all = rw (all p (omega arith) (omega arith)) (none-busy (suc p) n (λ k low high. all k (omega arith) (omega arith)))

  some-busy : (p n i : ℕ) → p ≤ i → i < p + n → done i ≡ false → ((k : ℕ) → p ≤ k → k < i → done k ≡ true) → Some i ≡ first_busy_from done p n
  unfolding first_busy_from
  some-busy p zero i low high busy others = absurd (omega arith)
  some-busy p (suc n) i low high busy others = go (some-busy (suc p) n i) (done p) refl
    where
      go : (suc p ≤ i → i < suc p + n → done i ≡ false → ((k : ℕ) → suc p ≤ k → k < i → done k ≡ true) → Some i ≡ first_busy_from done (suc p) n)
          → (b : Bool) → done p ≡ b → Some i ≡ cond b (first_busy_from done (suc p) n) (Some p)
      go later true e =
          let apart : ¬ (i ≡ p) = λ z. false-true (sym busy ∙ ap done z ∙ e) in
          later (omega arith) (omega arith) busy (λ k l h. others k (omega arith) h)
      go later false e =
          let none : ¬ (p < i) = λ l. false-true (sym e ∙ others p (omega arith) l) in
          let same : i ≡ p = omega arith in
          ap Some same

  pub found : (r : Option ℕ) → MatchOption r ((k : ℕ) → 0 ≤ k → k < processors → done k ≡ true)
      (λ i. (0 ≤ i) × (i < processors) × (done i ≡ false) × ((k : ℕ) → 0 ≤ k → k < i → done k ≡ true))
      → r ≡ first_busy_from done 0 processors
  found None all = none-busy 0 processors all
  found (Some i) f = some-busy 0 processors i f.0 f.1 f.2 f.3

-- ---- it is the model's

four-busy : (a b c d : Bool) → cond a (suc (cond b (suc (cond c (suc (cond d (suc 0) 0)) 0)) 0)) 0
    ≡ unwrap_or (cond a (cond b (cond c (cond d None (Some 3)) (Some 2)) (Some 1)) (Some 0)) 4
four-busy false b c d = refl
four-busy true false c d = refl
four-busy true true false d = refl
four-busy true true true false = refl
four-busy true true true true = refl

module _ (g : Columns) (m : State) (ready : Ready g m) where
  abbrev done : ℕ → Bool
  done p = done_at g m p

  first-busy : first_busy (four (processor_of g m)) ≡ unwrap_or (first_busy_from done 0 processors) processors
  unfolding first_busy first_busy_from
  first-busy =
      (λ j. first_busy_of (done-is g m ready 0 (lit< tt) j) (done-is g m ready 1 (lit< tt) j) (done-is g m ready 2 (lit< tt) j) (done-is g m ready 3 (lit< tt) j))
      ∙ four-busy (done 0) (done 1) (done 2) (done 3)
    where
      first_busy_of : Bool → Bool → Bool → Bool → ℕ
      first_busy_of a b c d = cond a (suc (cond b (suc (cond c (suc (cond d (suc 0) 0)) 0)) 0)) 0

  -- with no mover the model has the number past the processors
  pub mover-is : mover (machine_of g m).holder (machine_of g m).processors ≡ unwrap_or (mover_in g m) processors
  unfolding mover machine_of holder_of mover_in
  mover-is = go m.holder
    where
      go : (h : Option ℕ) → mover (holder_of h) (four (processor_of g m)) ≡ unwrap_or (option_or h (first_busy_from done 0 processors)) processors
      go None = first-busy
      go (Some p) = refl
