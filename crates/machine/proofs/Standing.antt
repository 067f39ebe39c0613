-- Where a processor stands.
use mathlib.Core.Path.{◌≡◌, refl, sym, ap, ◌∙◌, subst}
use mathlib.Core.List.{[], ◌∷◌}
use Prim.Native.Nat.{ℕ, zero, suc, ◌<◌}
use native.Mathlib.Omega.{arith}
use lib.ListN.{get_or}
use Rattle.std.specs.Prelude.{Some}
use borrow.Author.Tests.{lt-ltb}
use Rattle.model.specs.declared.record.Record.{Record}
use Rattle.model.specs.Sizes.{processors, instructions_each}
use Rattle.model.specs.Kinds.{table_rows}
use Rattle.model.specs.Rules.{Event}
use Rattle.model.specs.Step.{origin_in}
use Rattle.model.specs.Code.{Columns, instruction_at, count_in}
use Rattle.machine_rules.specs.Guards.{nobody}
use Rattle.machine_rules.specs.Steps.{step_kind}
use Rattle.machine_rules.specs.Programs.{fetched, Fetched}
use Rattle.machine_rules.proofs.Instructions.{fetched-is}
use Rattle.machine_state.specs.State.{State}
use Rattle.machine_store.specs.Stores.{Issuable, Onward}
use Rattle.machine_take.specs.Takes.{LogOf}
use Rattle.machine.specs.Stores.{carried_out}
use Rattle.machine_store.specs.Stores.{assigned_in, received_in, counted_in, wrote_in, held_in}
use Rattle.machine.specs.View.{waiting_in}
use Rattle.machine.specs.Ready.{Ready}
use Rattle.machine.proofs.Offered.{room}

-- n stands where m does
abbrev pub Stays : State → State → Type 0
Stays m n = (n.at ≡ m.at) × (n.phase ≡ m.phase)

-- no program step moves a processor
pub stays : (m : State) (i : Record) (e : Event) → Stays m (carried_out m i e)
unfolding carried_out
stays m i e = go e.kind
  where
    go : (k : ℕ) → Stays m (get_or
        (m ∷ counted_in (received_in m i e.value) (origin_in (waiting_in m i.processor) i.location) ∷ wrote_in m i e ∷ m ∷ m ∷ held_in m (Some i.processor) ∷ held_in m nobody ∷ assigned_in m i i.value ∷ [])
        k m)
    go zero = (refl, refl)
    go (suc zero) = (refl, refl)
    go (suc (suc zero)) = (refl, refl)
    go (suc (suc (suc zero))) = (refl, refl)
    go (suc (suc (suc (suc zero)))) = (refl, refl)
    go (suc (suc (suc (suc (suc zero))))) = (refl, refl)
    go (suc (suc (suc (suc (suc (suc zero)))))) = (refl, refl)
    go (suc (suc (suc (suc (suc (suc (suc zero))))))) = (refl, refl)
    go (suc (suc (suc (suc (suc (suc (suc (suc k)))))))) = (refl, refl)

-- ---- with or without an instruction

module _ (g : Columns) (m : State) (ready : Ready g m) (p : ℕ) (h : p < processors) where
  abbrev any : Record
  any = fetched g p (get_or m.at p 0)

  any_here : Fetched g p (get_or m.at p 0) any
  any_here = fetched-is g p (get_or m.at p 0) ready.fits h any refl

  pub any-whose : p ≡ any.processor
  any-whose = sym any_here.processor

  pub any-low : any.processor < processors
  any-low = rw (sym any-whose) h

  pub any-own : Fetched g any.processor (get_or m.at any.processor 0) any
  any-own = subst (λ (q : ℕ). Fetched g q (get_or m.at q 0) any) any-whose any_here

module _ (g : Columns) (m : State) (ready : Ready g m) (p : ℕ) (h : p < processors) where
  pub log : LogOf m p
  log =
      let all = ready.each p h in
      let order = all.order in
      let w = all.room in
      record { part = record { processor = h; order = omega arith; few = omega arith }; locations = ready.long.log_locations; values = ready.long.log_values }

  -- at an instruction

  module _ (inside : get_or m.at p 0 < count_in g p) where
    pub below : get_or m.at p 0 < instructions_each
    below = let few = ready.fits.few p in omega arith

    module _ (i : Record) (read : i ≡ instruction_at g p (get_or m.at p 0)) where
      standing : Fetched g p (get_or m.at p 0) i
      unfolding fetched
      standing = fetched-is g p (get_or m.at p 0) ready.fits h i (rw (lt-ltb (get_or m.at p 0) (count_in g p) inside) read)

      pub its : i.processor ≡ p
      its = standing.processor

      pub own-low : i.processor < processors
      own-low = rw its h

      pub here : Fetched g i.processor (get_or m.at i.processor 0) i
      here = subst (λ (q : ℕ). Fetched g q (get_or m.at q 0) i) (sym its) standing

      pub known : i.kind < table_rows
      known = standing.kind

      -- the kind of its next program step, as the code finds it
      pub kind-is : step_kind i.kind (get_or m.phase p 0) ≡ step_kind i.kind (get_or m.phase i.processor 0)
      kind-is = ap (λ (q : ℕ). step_kind i.kind (get_or m.phase q 0)) (sym its)

      pub issuable : step_kind i.kind (get_or m.phase p 0) ≡ 2 → Issuable m i.processor
      issuable z =
          let w = room g m ready i here own-low (subst (λ (q : ℕ). get_or m.at q 0 < count_in g q) (sym its) inside) (sym kind-is ∙ z) in
          record { processor = own-low; few = omega arith }

      -- it may go on where it stands after the step
      pub onwards : (n : State) → Stays m n → Onward n i
      onwards n unmoved =
          let s = (ready.each p h).stands in
          let few = ready.fits.few p in
          let at = s.at in
          let low = s.phase in
          let a : get_or n.at i.processor 0 ≡ get_or m.at p 0 = (λ j. get_or (unmoved.0 j) (its j) 0) in
          let f : get_or n.phase i.processor 0 ≡ get_or m.phase p 0 = (λ j. get_or (unmoved.1 j) (its j) 0) in
          record { processor = own-low; known = known; at = omega arith; low = omega arith }
