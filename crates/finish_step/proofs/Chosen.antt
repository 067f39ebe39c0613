-- The step that is chosen, a drain or else a program step, is the finishing step.
use mathlib.Core.Path.{◌≡◌, refl, sym, ap, ◌∙◌, subst}
use mathlib.Core.Bool.{Bool, true, false, cond}
use mathlib.Core.Option.{none, some}
use mathlib.Core.List.{List, [], ◌∷◌}
use Prim.Native.Nat.{ℕ, zero, suc, ◌<◌}
use native.Mathlib.Omega.{arith}
use lib.ListN.{get_or}
use lib.Dec.{eqb, lit<}
use borrow.Author.Tests.{eqb-false, eq-eqb, ne_eqb}
use Rattle.std.specs.Prelude.{Option, Some, None}
use Rattle.std.specs.Option.{unwrap_or}
use Rattle.model.specs.declared.record.Record.{Record}
use Rattle.model.specs.Sizes.{processors}
use Rattle.model.specs.Machine as model
use Rattle.model.specs.Machine.{WaitingWrite, processor}
use Rattle.model.specs.Rules.{Event}
use Rattle.model.specs.Code.{Columns, count_in}
use Rattle.model.specs.Step.{Move, is_empty, move, drain_move, next_move}
use Rattle.model.specs.Left.{Done, Mover}
use Rattle.model.specs.Finish.{mover, drain_or_next, finishing_move}
use Rattle.model.proofs.Tests.{some_inj, none-some}
use Rattle.model.proofs.Movers.{mover-moves, mover-busy}
use Rattle.model.proofs.Finish.{Finisher, finisher}
use Rattle.machine_rules.specs.declared.program.Step.{Step}
use Rattle.machine_rules.specs.Steps.{step_kind, code_of}
use Rattle.machine_rules.specs.Programs.{fetched, Fetched}
use Rattle.machine_rules.specs.Offers.{oldest_in, offered_in}
use Rattle.machine_state.specs.State.{State}
use Rattle.machine.specs.View.{machine_of}
use Rattle.machine.specs.Arrays.{is_dry, next_of, offered_of}
use Rattle.machine.specs.Stores.{after_event}
use Rattle.machine_store.specs.Stores.{advanced_in}
use Rattle.machine.specs.Ready.{Ready}
use Rattle.machine_store.specs.Stores.{Own}
use Rattle.machine.proofs.Moves.{offer, empty-is, oldest-offer}
use Rattle.machine.proofs.Sim.{next-offer}
use Rattle.machine.proofs.Standing.{any-whose, any-low, any-own}
use Rattle.machine.proofs.Offered.{next-fields, inside, not-drain}
use Rattle.machine.proofs.Taken.{offered-taken}
use Rattle.finish_left.specs.Mover.{mover_in}
use Rattle.finish_left.proofs.Movers.{mover-is}
use Rattle.finish_step.specs.Moves.{oldest_drain, DrainsOldest, CarriesOut}
use Rattle.finish_step.specs.Finishing.{HasMore, FinishesBy}

by-waiting : (s : model.Machine) (p : ℕ) (ws : List WaitingWrite) → drain_or_next s p ws ≡ cond (is_empty ws) (next_move s p (processor s p).todo) (drain_move s p ws)
unfolding drain_or_next is_empty
by-waiting s p [] = refl
by-waiting s p (w ∷ ws) = refl

module _ (g : Columns) (m : State) (u : HasMore g m) where
  abbrev M : model.Machine
  M = machine_of g m

  ready : Ready g m
  ready = u.underway.ready

  -- ---- where the processor that moves stands at the instruction i

  module _ (i : Record) (here : Fetched g i.processor (get_or m.at i.processor 0) i) (h : i.processor < processors) (moves : mover M.holder M.processors ≡ i.processor) where
    abbrev q : ℕ
    q = i.processor

    own : Own i
    own = record { processor = h; register = here.register }

    -- the drain where a write waits, or else the next program step
    abbrev offered : Event
    offered = offered_of m i (cond (is_dry m i) 0 3)

    either : (b : Bool) → cond b (next_move M q (processor M q).todo) (drain_move M q (processor M q).waiting) ≡ offer g m i (offered_of m i (cond b 0 3))
    unfolding offered_in
    either true = next-offer g m ready i here h
    either false = oldest-offer g m ready i own

    move-is : finishing_move M ≡ offer g m i offered
    unfolding finishing_move
    move-is =
        ap (λ (r : ℕ). drain_or_next M r (processor M r).waiting) moves ∙ by-waiting M q (processor M q).waiting
        ∙ ap (λ (b : Bool). cond b (next_move M q (processor M q).todo) (drain_move M q (processor M q).waiting)) (empty-is g m ready i own)
        ∙ either (is_dry m i)

    -- a move is offered
    record Given (o : Move) : Type 0 where
      some-kind : 0 < offered.kind
      event : o.event ≡ offered
      after : o.after ≡ machine_of g (after_event m i offered)

    given : (o : Move) → offer g m i offered ≡ some o → Given o
    given o = go (eqb offered.kind 0) refl
      where
        go : (b : Bool) → eqb offered.kind 0 ≡ b → cond b none (move offered (machine_of g (after_event m i offered))) ≡ some o → Given o
        go true z w = absurd (none-some w)
        go false z w = record { some-kind = let n = eqb-false offered.kind 0 z in omega arith; event = ap (λ (o : Move). o.event) (sym (some_inj w)); after = ap (λ (o : Move). o.after) (sym (some_inj w)) }

    chosen : Finisher M
    chosen = finisher M u.underway.orderly u.more

    it : Given chosen.move
    it = given chosen.move (sym move-is ∙ chosen.given)

    finishes : FinishesBy g m offered (after_event m i offered)
    finishes = record { step = rw (it.event, it.after) at chosen.finishes; ready = offered-taken g m ready i here h (cond (is_dry m i) 0 3) it.some-kind }

    finishes-by : (e : Event) → e ≡ offered → (n : State) → n ≡ after_event m i e → FinishesBy g m e n
    finishes-by e is n f = subst (λ (o : Event). n ≡ after_event m i o → FinishesBy g m o n) (sym is) (λ f. rw f finishes) f

    -- ---- a write waits

    module _ (w : ¬ (get_or m.drained q 0 ≡ get_or m.issued q 0)) where
      is-drain : oldest_drain m q ≡ offered
      unfolding offered_in oldest_in
      is-drain = rw (ne_eqb (get_or m.drained q 0) (get_or m.issued q 0) w)

      drained-by : (e : Event) (n : State) → DrainsOldest m q e n → FinishesBy g m e n
      unfolding after_event
      drained-by e n t = finishes-by e (t.says ∙ is-drain) n (rw (ap (λ (o : Event). o.kind) t.says) t.after)

    -- ---- none waits

    module _ (w : get_or m.drained q 0 ≡ get_or m.issued q 0) where
      abbrev kind : ℕ
      kind = step_kind i.kind (get_or m.phase q 0)

      is-next : next_of m i kind ≡ offered
      unfolding offered_in
      is-next = rw (eq-eqb (get_or m.drained q 0) (get_or m.issued q 0) w)

      -- so it stands inside its program
      stands-inside : get_or m.at q 0 < count_in g q
      stands-inside = inside g m ready i here h (rw (next-fields g m ready i here h kind).0 at (subst (λ (o : Event). 0 < o.kind) (sym is-next) it.some-kind))

      pub carried-by : (next : Step) → code_of next ≡ kind → (e : Event) (n : State) → CarriesOut m i next e n → FinishesBy g m e (advanced_in n i)
      unfolding after_event
      carried-by next is e n t =
          let known : e ≡ next_of m i kind = t.says ∙ ap (next_of m i) is in
          let other : ¬ (e.kind ≡ 3) = λ z. not-drain g m ready i here h stands-inside (sym (next-fields g m ready i here h kind).0 ∙ sym (ap (λ (o : Event). o.kind) known) ∙ z) in
          finishes-by e (known ∙ is-next) _ (rw (ne_eqb e.kind 3 other) (ap (λ (c : State). advanced_in c i) t.after))

  -- ---- who moves

  -- only the four processors have something to do
  busy-low : (q : ℕ) → ¬ Done (processor M q) → q < processors
  unfolding processor machine_of model.idle
  busy-low zero n = lit< tt
  busy-low (suc zero) n = lit< tt
  busy-low (suc (suc zero)) n = lit< tt
  busy-low (suc (suc (suc zero))) n = lit< tt
  busy-low (suc (suc (suc (suc q)))) n = absurd (n (refl, refl))

  low-mover : (q : ℕ) → mover M.holder M.processors ≡ q → q < processors
  low-mover q is = busy-low q (mover-busy M q u.underway.orderly (subst (Mover M) is (mover-moves M u.more)))

  mover-by : (o : Option ℕ) → o ≡ mover_in g m → mover M.holder M.processors ≡ unwrap_or o processors
  mover-by o is = mover-is g m ready ∙ ap (λ (o : Option ℕ). unwrap_or o processors) (sym is)

  pub some-mover : ¬ (None ≡ mover_in g m)
  some-mover z = absurd (omega (arith, low-mover processors (mover-by None z)))

  module _ (p : ℕ) (moves : Some p ≡ mover_in g m) where
    pub is-mover : mover M.holder M.processors ≡ p
    is-mover = mover-by (Some p) moves

    pub low : p < processors
    low = low-mover p is-mover

    -- with or without an instruction
    whose : p ≡ (fetched g p (get_or m.at p 0)).processor
    whose = any-whose g m ready p low

    pub finishes-drained : ¬ (get_or m.drained p 0 ≡ get_or m.issued p 0) → (e : Event) (n : State) → DrainsOldest m p e n → FinishesBy g m e n
    finishes-drained w e n t =
        drained-by _ (any-own g m ready p low) (any-low g m ready p low) (is-mover ∙ whose) (subst (λ (q : ℕ). ¬ (get_or m.drained q 0 ≡ get_or m.issued q 0)) whose w) e n
        (subst (λ (q : ℕ). DrainsOldest m q e n) whose t)

    pub within : get_or m.drained p 0 ≡ get_or m.issued p 0 → get_or m.at p 0 < count_in g p
    within w =
        subst (λ (q : ℕ). get_or m.at q 0 < count_in g q) (sym whose)
        (stands-inside _ (any-own g m ready p low) (any-low g m ready p low) (is-mover ∙ whose) (subst (λ (q : ℕ). get_or m.drained q 0 ≡ get_or m.issued q 0) whose w))
