-- The code's finishing step, from its parts to its promise.
use mathlib.Core.Path.{◌≡◌, sym, ◌∙◌, subst}
use Prim.Native.Nat.{ℕ, ◌<◌}
use native.Mathlib.Omega.{arith}
use lib.ListN.{get_or}
use Rattle.std.specs.Prelude.{Some, None}
use Rattle.model.specs.declared.record.Record.{Record}
use Rattle.model.specs.Sizes.{instructions_each, phases}
use Rattle.model.specs.Rules.{Event}
use Rattle.model.specs.Code.{Columns, count_in, instruction_at}
use Rattle.machine_rules.specs.declared.program.Step.{Step}
use Rattle.machine_rules.specs.Steps.{step_kind, step_of, code_of, next_step}
use Rattle.machine_rules.specs.Programs.{Fetched}
use Rattle.machine_rules.proofs.Codes.{no_step, code-is}
use Rattle.machine_rules.proofs.Table.{rows, in_rows}
use Rattle.machine_state.specs.State.{State}
use Rattle.machine_store.specs.Stores.{advanced_in, Onward}
use Rattle.machine.specs.Ready.{Ready}
use Rattle.machine.proofs.Standing as standing
use Rattle.machine.proofs.Standing.{Stays, stays}
use Rattle.machine.proofs.Todo.{by_kind}
use Rattle.finish_left.specs.Mover.{mover_in}
use Rattle.finish_step.specs.Moves.{MayDrainOldest, DrainsOldest, MayCarryOut, CarriesOut}
use Rattle.finish_step.specs.Finishing.{HasMore, HasMover, FinishesBy}
use Rattle.finish_step.proofs.Chosen as chosen

module _ (g : Columns) (m : State) (u : HasMore g m) where
  pub some-mover : ¬ (None ≡ mover_in g m)
  some-mover = chosen.some-mover g m u

  pub one-moves : (p : ℕ) → Some p ≡ mover_in g m → HasMover g m p
  one-moves p moves = record { more = u; mover = moves; low = chosen.low g m u p moves }

module _ (g : Columns) (m : State) (p : ℕ) (t : HasMover g m p) where
  ready : Ready g m
  ready = t.more.underway.ready

  -- ---- a write waits

  module _ (w : ¬ (get_or m.drained p 0 ≡ get_or m.issued p 0)) where
    pub can-drain : MayDrainOldest m p
    can-drain =
        let r = ready.each p t.low in
        let o = r.order in
        let f = r.room in
        record { processor = t.low; location = ready.in_log _; few = omega (arith, w) }

    pub drains-it : (e : Event) (n : State) → DrainsOldest m p e n → FinishesBy g m e n
    drains-it = chosen.finishes-drained g m t.more p t.mover w

  -- ---- none waits

  module _ (w : get_or m.drained p 0 ≡ get_or m.issued p 0) where
    within : get_or m.at p 0 < count_in g p
    within = chosen.within g m t.more p t.mover w

    pub below : get_or m.at p 0 < instructions_each
    below = standing.below g m ready p t.low within

    module _ (i : Record) (read : i ≡ instruction_at g p (get_or m.at p 0)) where
      its : i.processor ≡ p
      its = standing.its g m ready p t.low within i read

      here : Fetched g i.processor (get_or m.at i.processor 0) i
      here = standing.here g m ready p t.low within i read

      pub known-kind : (i.kind < rows) × (get_or m.phase p 0 < phases)
      known-kind = (in_rows here.kind, (ready.each p t.low).stands.phase)

      -- a program step is left
      abbrev Left : ℕ → Type 0
      Left k = ¬ (step_of k ≡ None) × ¬ (k ≡ 3)

      left : Left (step_kind i.kind (get_or m.phase p 0))
      left =
          by_kind Left (left-step 1 (omega arith) (omega arith) (omega arith)) (left-step 2 (omega arith) (omega arith) (omega arith))
          (left-step 4 (omega arith) (omega arith) (omega arith)) (left-step 5 (omega arith) (omega arith) (omega arith))
          (left-step 6 (omega arith) (omega arith) (omega arith)) (left-step 7 (omega arith) (omega arith) (omega arith))
          i.kind (get_or m.phase p 0) here.kind (rw read ((ready.each p t.low).stands.inside within))
        where
          left-step : (k : ℕ) → 0 < k → k < 8 → ¬ (k ≡ 3) → Left k
          left-step k some low other = (no_step k some low, other)

      pub some-next : ¬ (None ≡ next_step i.kind (get_or m.phase p 0))
      some-next z = left.0 (sym z)

      module _ (next : Step) (offered : Some next ≡ next_step i.kind (get_or m.phase p 0)) where
        is : code_of next ≡ step_kind i.kind (get_or m.phase p 0)
        is = code-is next _ offered

        pub may-carry-out : MayCarryOut m i next
        may-carry-out = record {
          own = record { processor = standing.own-low g m ready p t.low within i read; register = here.register };
          location = here.location;
          dry = rw its w;
          program = λ z. left.1 (sym is ∙ z);
          write = λ z. standing.issuable g m ready p t.low within i read (sym is ∙ z);
        }

        module _ (e : Event) (n : State) (c : CarriesOut m i next e n) where
          pub onwards : Onward n i
          onwards = standing.onwards g m ready p t.low within i read n (subst (Stays m) (sym c.after) (stays m i e))

          pub carries-it : FinishesBy g m e (advanced_in n i)
          carries-it =
              chosen.carried-by g m t.more i here (standing.own-low g m ready p t.low within i read) (chosen.is-mover g m t.more p t.mover ∙ sym its)
              (subst (λ (q : ℕ). get_or m.drained q 0 ≡ get_or m.issued q 0) (sym its) w) next (is ∙ standing.kind-is g m ready p t.low within i read) e n c
