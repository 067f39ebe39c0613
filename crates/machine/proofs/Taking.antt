-- The code's step, from its parts to its promise.
use mathlib.Core.Path.{◌≡◌, refl, sym, ap, ◌∙◌, subst}
use mathlib.Core.Bool.{Bool, true, false, cond, not}
use mathlib.Core.Option.{Option, none, some}
use Prim.Native.Nat.{ℕ, ◌+◌, ◌≤◌, ◌<◌}
use native.Mathlib.Nat.{add-zero}
use native.Mathlib.Omega.{arith}
use lib.ListN.{get_or}
use lib.Dec.{eqb}
use borrow.Author.Tests.{eqb-true, ne_eqb, not-false}
use Rattle.std.specs.Prelude.{Ok, Err, Some, None}
use Rattle.model.specs.declared.answer.Condition.{Condition}
use Rattle.model.specs.declared.answer.Condition.TheVariants.{AnotherKind, NothingWaits, LockHeld, NotRight}
use Rattle.model.specs.declared.record.Record.{Record}
use Rattle.model.specs.Sizes.{processors, instructions_each, phases, longest_trace}
use Rattle.model.specs.Fields.{Proper}
use Rattle.model.specs.Kinds.{step_uses}
use Rattle.model.specs.Lists.{All}
use Rattle.model.specs.Rules.{Event, event, conditions}
use Rattle.model.specs.Code.{Columns, Attempt, place_at, instruction_at, count_in, taken, judged}
use Rattle.model.specs.Step.{same, first_met, took, stepped, after_move, step, served_own}
use Rattle.model.proofs.Bools.{false-true, same_true}
use Rattle.model.proofs.Conditions.{unmet}
use Rattle.model.proofs.Rows.{below as number-by-number}
use Rattle.machine_rules.specs.Guards.{blocked_in}
use Rattle.machine_rules.specs.declared.program.Step.{Step}
use Rattle.machine_rules.specs.Steps.{steps_of_kind, step_kind, step_of, code_of, next_step}
use Rattle.machine_rules.proofs.Codes.{no_step, code-is}
use Rattle.machine_rules.specs.Programs.{fetched, Fetched}
use Rattle.machine_rules.specs.Offers.{oldest_in, offered_in}
use Rattle.machine_rules.proofs.Table.{rows, in_rows}
use Rattle.machine_state.specs.State.{State}
use Rattle.machine_store.specs.Stores.{MayCount, Onward}
use Rattle.machine_take.specs.Takes.{names, LogOf}
use Rattle.machine_drain.specs.Drains.{MayDrain, Drains}
use Rattle.machine.specs.Arrays.{is_dry, oldest_of, next_of, offered_of}
use Rattle.machine.specs.Stores.{carried_out, after_event}
use Rattle.machine_store.specs.Stores.{after_drain, advanced_in}
use Rattle.machine.specs.View.{machine_of}
use Rattle.machine.specs.Next.{MayTake, met_of, found_of, attempted_of, TakesNext}
use Rattle.machine.specs.Ready.{Ready, Steps}
use Rattle.model.proofs.Events.{some-kind, low-kind, low-processor, low-location, no_register, as-bare}
use Rattle.machine.proofs.Moves.{offer}
use Rattle.machine.proofs.Sim.{is_none, step_is, offered-after}
use Rattle.machine.proofs.Standing as standing
use Rattle.machine.proofs.Standing.{Stays, stays}
use Rattle.machine.proofs.Offered.{next-fields, bare-next}
use Rattle.machine.proofs.Counts.{offered-counts, offered-less}
use Rattle.machine.proofs.Taken.{offered-taken}
use Rattle.machine.proofs.Nexts.{same_names}

-- ---- where the processor of e stands at the instruction i

module _ (g : Columns) (m : State) (ready : Ready g m) (e : Event) (proper : Proper step_uses e) (i : Record)
    (here : Fetched g i.processor (get_or m.at i.processor 0) i) (h : i.processor < processors) (whose : e.processor ≡ i.processor) where
  abbrev q : ℕ
  q = i.processor

  abbrev o : Event
  o = offered_of m i e.kind

  -- ---- what is taken is the step that is offered

  -- a read, a write, a drain
  by_names : not (same e o) ≡ false → e ≡ o
  by_names z = same_true e o (not-false (same e o) z)

  -- a fence, a lock, an unlock, a local step
  by_kind : 3 < e.kind → not (eqb e.kind o.kind) ≡ false → e ≡ o
  unfolding offered_in
  by_kind l z =
      let kind : ℕ = step_kind i.kind (get_or m.phase q 0) in
      let next : o ≡ next_of m i kind = rw (ne_eqb e.kind 3 (λ w. omega arith)) refl in
      let same : e.kind ≡ kind = eqb-true e.kind o.kind (not-false (eqb e.kind o.kind) z) ∙ ap (λ (r : Event). r.kind) next ∙ (next-fields g m ready i here h kind).0 in
      as-bare e proper l ∙ (λ j. event (same j) (whose j) 0 0) ∙ sym (bare-next g m ready i here h kind (λ w. omega arith) (λ w. omega arith)) ∙ sym next

  is-offered : found_of m i o e ≡ none → e ≡ o
  unfolding conditions
  is-offered t =
      number-by-number 8 (λ k. e.kind ≡ k → All (λ c. met_of m i o e c ≡ false) (conditions k) → e ≡ o) (
        λ z u. absurd (omega (arith, some-kind e proper)),
        (
          λ z u. by_names u.1.1.0,
          (
            λ z u. by_names u.1.0,
            (
              λ z u. by_names u.1.1.0,
              (
                λ z u. by_kind (omega arith) u.0,
                (
                  λ z u. by_kind (omega arith) u.0,
                  (
                    λ z u. by_kind (omega arith) u.0,
                    (
                      λ z u. by_kind (omega arith) u.0,
                      tt,
                    ),
                  ),
                ),
              ),
            ),
          ),
        ),
      )
      e.kind (low-kind e proper) refl (unmet (met_of m i o e) (conditions e.kind) t)

  -- ---- so an attempt that comes to what the conditions say is the machine's step

  settled : (r : Attempt) → r ≡ attempted_of m i o e → (n : State) → n ≡ cond (taken r) (after_event m i e) m → Steps g m e r n
  settled r z n f = subst (λ (r : Attempt). Steps g m e r n) (sym z) (go (found_of m i o e) refl (f ∙ ap (λ (r : Attempt). cond (taken r) (after_event m i e) m) z))
    where
      is : (c : Option Condition) → found_of m i o e ≡ c → step (machine_of g m) e ≡ stepped c (after_move (machine_of g m) (offer g m i o))
      is c y = step_is g m ready i here h e (some-kind e proper) whose ∙ ap (λ (c : Option Condition). stepped c (after_move (machine_of g m) (offer g m i o))) y

      go : (c : Option Condition) → found_of m i o e ≡ c → n ≡ cond (taken (judged c)) (after_event m i e) m → Steps g m e (judged c) n
      go none y f =
          let same : e ≡ o = is-offered y in
          let some : 0 < o.kind = subst (λ (u : Event). 0 < u.kind) same (some-kind e proper) in
          let after : n ≡ after_event m i o = f ∙ ap (after_event m i) same in
          record {
            says = is none y ∙ ap took (offered-after g m ready i here h o some ∙ ap (machine_of g) (sym after));
            ready = rw after (offered-taken g m ready i here h e.kind some);
            own = ap (λ (s : State). s.own) after ∙ offered-counts g m ready i here h e.kind some ∙ ap (λ (u : Event). m.own + served_own (machine_of g m) u) (sym same);
            kept = λ w. false-true (sym w);
          }
      go (some c) y f = record { says = is (some c) y; ready = rw f ready; own = ap (λ (s : State). s.own) f ∙ sym (add-zero m.own); kept = λ w. f }

  -- ---- a drain

  -- the write after d of n drained ones is e's
  abbrev drained-as : ℕ → ℕ → ℕ → Option Condition
  drained-as p d n =
      cond (eqb d n) (some NothingWaits)
      (cond (blocked_in m.holder p) (some LockHeld)
      (cond (not (names e (get_or m.locations (place_at p d) 0) (get_or m.values (place_at p d) 0))) (some NotRight) none))

  module _ (d : e.kind ≡ 3) where
    is-oldest : oldest_of m i ≡ o
    unfolding offered_in
    is-oldest = rw d refl

    drain-found : drained-as e.processor (get_or m.drained e.processor 0) (get_or m.issued e.processor 0) ≡ found_of m i o e
    unfolding oldest_in first_met conditions
    drain-found =
        (λ j. drained-as (whose j) (get_or m.drained (whose j) 0) (get_or m.issued (whose j) 0))
        ∙ go (is_dry m i) (get_or m.locations (place_at q (get_or m.drained q 0)) 0) (get_or m.values (place_at q (get_or m.drained q 0)) 0)
        ∙ (λ j. first_met (met_of m i (is-oldest j) e) (conditions (sym d j)))
      where
        go : (b : Bool) (x v : ℕ) → cond b (some NothingWaits) (cond (blocked_in m.holder q) (some LockHeld) (cond (not (names e x v)) (some NotRight) none))
            ≡ cond b (some NothingWaits) (cond (blocked_in m.holder q) (some LockHeld) (cond (not (same e (cond b (event 0 q 0 0) (event 3 q x v)))) (some NotRight) none))
        go true x v = refl
        go false x v = λ j. cond (blocked_in m.holder q) (some LockHeld) (cond (not (same_names e 3 q x v d whose (no_register e proper) j)) (some NotRight) none)

    drained-at : (r : Attempt) → r ≡ judged (drained-as e.processor (get_or m.drained e.processor 0) (get_or m.issued e.processor 0))
        → (n : State) → n ≡ cond (taken r) (after_drain m e) m → Steps g m e r n
    unfolding after_event
    drained-at r z n f = settled r (z ∙ ap judged drain-found) n (rw d f)

  -- ---- a program step

  module _ (n : ¬ (e.kind ≡ 3)) where
    next-kind : o.kind ≡ step_kind i.kind (get_or m.phase q 0)
    unfolding offered_in
    next-kind = rw (ne_eqb e.kind 3 n) (next-fields g m ready i here h (step_kind i.kind (get_or m.phase q 0))).0

    -- its rule tests first that its kind is the next one
    kind-first : met_of m i o e AnotherKind ≡ true → some AnotherKind ≡ found_of m i o e
    unfolding first_met conditions
    kind-first t =
        number-by-number 8 (λ k. ¬ (k ≡ 3) → 0 < k → some AnotherKind ≡ first_met (met_of m i o e) (conditions k))
        (λ n l. absurd (omega arith), (λ n l. rw t, (λ n l. rw t, (λ n l. absurd (n refl), (λ n l. rw t, (λ n l. rw t, (λ n l. rw t, (λ n l. rw t, tt))))))))
        e.kind (low-kind e proper) n (some-kind e proper)

    other : ¬ (e.kind ≡ step_kind i.kind (get_or m.phase q 0)) → Steps g m e (Err AnotherKind) m
    other k = settled (Err AnotherKind) (ap judged (kind-first (ap not (ne_eqb e.kind o.kind (λ z. k (z ∙ next-kind)))))) m refl

    past : count_in g q ≤ get_or m.at q 0 → Steps g m e (Err AnotherKind) m
    unfolding step_kind steps_of_kind
    past l =
        let none : i.kind ≡ 0 = ap (λ (r : Record). r.kind) (is_none g m ready i here h l) in
        let x : step_kind i.kind (get_or m.phase q 0) ≡ 0 = ap (λ (k : ℕ). step_kind k (get_or m.phase q 0)) none in
        let some = some-kind e proper in
        other (λ z. absurd (omega (arith, z ∙ x)))

    module _ (k : e.kind ≡ step_kind i.kind (get_or m.phase q 0)) where
      -- there is a step left, so there may be a read to count
      countable-at : m.own < longest_trace
      countable-at = let some = some-kind e proper in omega (arith, ready.counts, offered-less g m ready i here h e.kind (rw (next-kind ∙ sym k) some))

      is-next : next_of m i e.kind ≡ o
      unfolding offered_in
      is-next = ap (next_of m i) k ∙ rw (ne_eqb e.kind 3 n) refl

      taken_at : (r : Attempt) → r ≡ attempted_of m i (next_of m i e.kind) e → (s : State) → s ≡ cond (taken r) (advanced_in (carried_out m i e) i) m → Steps g m e r s
      unfolding after_event
      taken_at r z s f = settled r (z ∙ ap (λ (u : Event). attempted_of m i u e) is-next) s (rw (ne_eqb e.kind 3 n) f)

-- ---- the code's branches

module _ (g : Columns) (m : State) (ready : Ready g m) (e : Event) (proper : Proper step_uses e) where
  abbrev p : ℕ
  p = e.processor

  h : p < processors
  h = low-processor e proper

  -- with or without an instruction
  whose : p ≡ (fetched g p (get_or m.at p 0)).processor
  whose = standing.any-whose g m ready p h

  -- ---- a drain

  pub can-drain : MayDrain m e
  can-drain = record { log = standing.log g m ready p h; location = low-location e proper }

  pub drains-it : e.kind ≡ 3 → (r : Attempt) (n : State) → Drains m e r n → Steps g m e r n
  unfolding first_met conditions
  drains-it k r n t = drained-at g m ready e proper _ (standing.any-own g m ready p h) (standing.any-low g m ready p h) whose k r t.says n t.after

  -- ---- a program step

  pub at-the-end : ¬ (e.kind ≡ 3) → count_in g p ≤ get_or m.at p 0 → Steps g m e (Err AnotherKind) m
  at-the-end n l =
      past g m ready e proper _ (standing.any-own g m ready p h) (standing.any-low g m ready p h) whose n (subst (λ (q : ℕ). count_in g q ≤ get_or m.at q 0) whose l)

  module _ (inside : get_or m.at p 0 < count_in g p) where
    pub below : get_or m.at p 0 < instructions_each
    below = standing.below g m ready p h inside

    module _ (i : Record) (read : i ≡ instruction_at g p (get_or m.at p 0)) where
      its : i.processor ≡ p
      its = standing.its g m ready p h inside i read

      here : Fetched g i.processor (get_or m.at i.processor 0) i
      here = standing.here g m ready p h inside i read

      own-low : i.processor < processors
      own-low = standing.own-low g m ready p h inside i read

      pub known-kind : (i.kind < rows) × (get_or m.phase p 0 < phases)
      known-kind = (in_rows here.kind, (ready.each p h).stands.phase)

      kind-is : step_kind i.kind (get_or m.phase p 0) ≡ step_kind i.kind (get_or m.phase i.processor 0)
      kind-is = standing.kind-is g m ready p h inside i read

      another : ¬ (e.kind ≡ 3) → ¬ (e.kind ≡ step_kind i.kind (get_or m.phase p 0)) → Steps g m e (Err AnotherKind) m
      another n z = other g m ready e proper i here own-low (sym its) n (λ w. z (w ∙ sym kind-is))

      pub none-left : ¬ (e.kind ≡ 3) → None ≡ next_step i.kind (get_or m.phase p 0) → Steps g m e (Err AnotherKind) m
      none-left n z = another n (λ w. no_step e.kind (some-kind e proper) (low-kind e proper) (ap step_of w ∙ sym z))

      pub not-so : ¬ (e.kind ≡ 3) → (next : Step) → Some next ≡ next_step i.kind (get_or m.phase p 0) → ¬ (code_of next ≡ e.kind) → Steps g m e (Err AnotherKind) m
      not-so n next z k = another n (λ w. k (code-is next _ z ∙ sym w))

      module _ (n : ¬ (e.kind ≡ 3)) (step : Step) (offered : Some step ≡ next_step i.kind (get_or m.phase p 0)) (is : code_of step ≡ e.kind) where
        next : e.kind ≡ step_kind i.kind (get_or m.phase p 0)
        next = sym is ∙ code-is step _ offered

        countable : MayCount m
        countable = countable-at g m ready e proper i here own-low (sym its) n (next ∙ kind-is)

        pub may-take : MayTake m i step e
        may-take = record {
          proper = proper;
          kind = is;
          program = n;
          whose = its;
          own = record { processor = own-low; register = here.register };
          log = subst (LogOf m) (sym its) (standing.log g m ready p h);
          count = countable;
          location = here.location;
          write = λ z. standing.issuable g m ready p h inside i read (sym next ∙ z);
        }

        module _ (r : Attempt) (s : State) (t : TakesNext m i e r s) where
          pub onwards : Onward s i
          onwards = standing.onwards g m ready p h inside i read s (subst (Stays m) (sym t.after) (go r))
            where
              go : (a : Attempt) → Stays m (cond (taken a) (carried_out m i e) m)
              go (Ok u) = stays m i e
              go (Err c) = (refl, refl)

          after : (a : Attempt) → r ≡ a → s ≡ cond (taken a) (carried_out m i e) m
          after a y = t.after ∙ ap (λ (a : Attempt). cond (taken a) (carried_out m i e) m) y

          pub takes-it : r ≡ Ok tt → (u : State) → u ≡ advanced_in s i → Steps g m e (Ok tt) u
          takes-it y u f =
              taken_at g m ready e proper i here own-low (sym its) n (next ∙ kind-is) (Ok tt) (sym y ∙ t.says) u
              (f ∙ ap (λ (s : State). advanced_in s i) (after (Ok tt) y))

          pub turns-it : (why : Condition) → r ≡ Err why → Steps g m e (Err why) s
          turns-it why y = taken_at g m ready e proper i here own-low (sym its) n (next ∙ kind-is) (Err why) (sym y ∙ t.says) s (after (Err why) y)
