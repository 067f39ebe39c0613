-- What a proper event is known to have.
use mathlib.Core.Path.{◌≡◌, refl, ap, ◌∙◌}
use mathlib.Core.Bool.{false}
use Prim.Native.Nat.{ℕ, zero, suc, ◌<◌}
use native.Mathlib.Omega.{arith}
use lib.ListN.{get_or}
use mathlib.Core.List.{[]}
use Rattle.model.specs.Sizes.{processors, locations}
use Rattle.model.specs.Fields.{Field, Proper, among, used}
use Rattle.model.specs.Kinds.{step_uses}
use Rattle.model.specs.Rules.{Event, event}
use Rattle.model.proofs.Fields.{proper-fields}
use Rattle.model.proofs.Rows.{below}

-- neither location nor value
pub record Bare (e : Event) : Type 0 where
  pub location : e.location ≡ 0
  pub value : e.value ≡ 0

module _ (e : Event) (proper : Proper step_uses e) where
  pub some-kind : 0 < e.kind
  some-kind = proper.known.0

  pub low-kind : e.kind < 8
  unfolding step_uses
  low-kind = proper.known.1

  pub low-processor : e.processor < processors
  low-processor = (proper-fields step_uses e proper).0

  pub low-location : e.location < locations
  low-location = (proper-fields step_uses e proper).2

  pub no_register : e.register ≡ 0
  unfolding used among step_uses
  no_register = proper.unused_zero.register (go e.kind)
    where
      go : (k : ℕ) → among (get_or step_uses k []) Field.register ≡ false
      go zero = refl
      go (suc zero) = refl
      go (suc (suc zero)) = refl
      go (suc (suc (suc zero))) = refl
      go (suc (suc (suc (suc zero)))) = refl
      go (suc (suc (suc (suc (suc zero))))) = refl
      go (suc (suc (suc (suc (suc (suc zero)))))) = refl
      go (suc (suc (suc (suc (suc (suc (suc zero))))))) = refl
      go (suc (suc (suc (suc (suc (suc (suc (suc k)))))))) = refl

  -- by a kind that uses neither
  pub bare : (k : ℕ) → e.kind ≡ k → among (get_or step_uses k []) Field.location ≡ false → among (get_or step_uses k []) Field.value ≡ false → Bare e
  unfolding used
  bare k z l v = record {
    location = proper.unused_zero.location (ap (λ (n : ℕ). among (get_or step_uses n []) Field.location) z ∙ l);
    value = proper.unused_zero.value (ap (λ (n : ℕ). among (get_or step_uses n []) Field.value) z ∙ v);
  }

  -- a fence, a lock, an unlock, a local step
  pub as-bare : 3 < e.kind → e ≡ event e.kind e.processor 0 0
  unfolding among step_uses
  as-bare l = λ j. record { kind = e.kind; processor = e.processor; register = no_register j; location = none.location j; value = none.value j }
    where
      of : (k : ℕ) → among (get_or step_uses k []) Field.location ≡ false → among (get_or step_uses k []) Field.value ≡ false → 3 < k → e.kind ≡ k → Bare e
      of k x v l z = bare k z x v

      none : Bare e
      none =
          below 8 (λ k. 3 < k → e.kind ≡ k → Bare e)
          (λ l. absurd (omega arith), (λ l. absurd (omega arith), (λ l. absurd (omega arith), (λ l. absurd (omega arith), (of 4 refl refl, (of 5 refl refl, (of 6 refl refl, (of 7 refl refl, tt))))))))
          e.kind low-kind l refl
