-- A program step keeps what holds of a state at every step.
use mathlib.Core.Path.{◌≡◌, refl, sym, ap}
use mathlib.Core.Bool.{Bool, true, false, cond}
use mathlib.Core.List.{List, ◌∷◌}
use Prim.Native.Nat.{ℕ, suc, ◌+◌, ◌≤◌, ◌<◌}
use native.Mathlib.Omega.{arith}
use lib.Dec.{eqb}
use lib.ListN.{get_or, set}
use lib.Seq.{get_or-set_same, get_or-set_other}
use borrow.Author.Tests.{eqb-true, eqb-false}
use Rattle.model.specs.declared.record.Record.{Record}
use Rattle.model.specs.Program.{ProgramStep}
use Rattle.model.specs.Sizes.{processors, locations, longest_trace}
use Rattle.model.specs.Left.{writes, left as left_of}
use Rattle.model.specs.Code.{Columns, instruction_at, count_in, acts_of}
use Rattle.model.proofs.Lists.{each}
use Rattle.machine.specs.View.{todo_in, machine_of}
use Rattle.machine_rules.specs.Steps.{step_kind, step_count}
use Rattle.machine.specs.Arrays.{next_of}
use Rattle.machine_rules.specs.Offers.{next_in}
use Rattle.machine.specs.Stores.{carried_out}
use Rattle.machine_store.specs.Stores.{next_place, is_last, next_at, next_phase, advanced_in, assigned_in, held_in}
use Rattle.machine.specs.Ready.{Long, Stands, ReadyAt, Ready}
use Rattle.machine_rules.specs.Programs.{Fetched}
use Rattle.machine.proofs.Todo.{step_for, by_kind, stands-next}
use Rattle.machine.proofs.Changes.{at_next, at_other}
use Rattle.machine.proofs.Sim.{is-instruction, rest, todo-next, goes_on}
use Rattle.machine.proofs.Lengths.{set_long, either-long, stored-long, advanced-long}
use Rattle.std.specs.Prelude.{Option, Some, None}
use Rattle.machine_state.specs.State.{State}

module _ (g : Columns) (m : State) (ready : Ready g m) (i : Record) (here : Fetched g i.processor (get_or m.at i.processor 0) i) (h : i.processor < processors) where
  abbrev p : ℕ
  p = i.processor

  abbrev a : ℕ
  a = get_or m.at p 0

  abbrev f : ℕ
  f = get_or m.phase p 0

  abbrev n : ℕ
  n = get_or m.issued p 0

  at : ReadyAt g m p
  at = ready.each p h

  module _ (l : a < count_in g p) where
    abbrev left : List ProgramStep
    left = rest g m ready i here h l

    -- the state c before the program goes on
    pub record Carried (c : State) : Type 0 where
      pub at : c.at ≡ m.at
      pub phase : c.phase ≡ m.phase
      pub drained : c.drained ≡ m.drained
      pub long : Long c
      pub in_log : (x : ℕ) → get_or c.locations x 0 < locations
      pub others : (q : ℕ) → ¬ (q ≡ p) → get_or c.issued q 0 ≡ get_or m.issued q 0
      pub more : n ≤ get_or c.issued p 0
      pub room : get_or c.issued p 0 + writes left ≡ n + writes (todo_in g m p)

    still : (c : State) → c.at ≡ m.at → c.phase ≡ m.phase → c.drained ≡ m.drained → Long c → c.locations ≡ m.locations → c.issued ≡ m.issued → writes (todo_in g m p) ≡ writes left → Carried c
    still c ea ef ed lc ex en w = record {
      at = ea;
      phase = ef;
      drained = ed;
      long = lc;
      in_log = rw ex ready.in_log;
      others = λ q x. ap (λ (l : List ℕ). get_or l q 0) en;
      more = rw en (omega arith);
      room = rw (en, w);
    }

    abbrev Carries : ℕ → Type 0
    Carries k = todo_in g m p ≡ step_for i k ∷ left → Carried (carried_out m i (next_of m i k))

    carries-read : Carries 1
    unfolding carried_out next_in writes
    carries-read e =
        still _ refl refl refl
        (stored-long m ready.long _ _ _ _ _ _ _ (either-long (acts_of i.kind).loads _ _ 16 (set_long m.registers _ _ 16 ready.long.registers) ready.long.registers)
        (either-long (acts_of i.kind).loads _ _ 4 ready.long.kept (set_long m.kept _ _ 4 ready.long.kept))
        ready.long.log_locations ready.long.log_values ready.long.issued)
        refl refl (ap writes e)

    carries-write : Carries 2
    unfolding carried_out next_in writes
    carries-write e =
        let w : writes (todo_in g m p) ≡ suc (writes left) = ap writes e in
        let own : get_or (set m.issued p (n + 1)) p 0 ≡ n + 1 = get_or-set_same m.issued p (n + 1) 0 (rw ready.long.issued h) in
        record {
          at = refl;
          phase = refl;
          drained = refl;
          long =
              stored-long m ready.long _ _ _ _ _ _ _ (either-long (acts_of i.kind).exchanges _ _ 16 (set_long m.registers _ _ 16 ready.long.registers) ready.long.registers)
              ready.long.kept (set_long m.locations _ _ 64 ready.long.log_locations) (set_long m.values _ _ 64 ready.long.log_values) (set_long m.issued _ _ 4 ready.long.issued);
          in_log = each 0 (λ k x. x < locations) m.locations (next_place m.issued p) i.location ready.in_log here.location;
          others = λ q x. get_or-set_other m.issued p q (n + 1) 0 x;
          more = rw own (omega arith);
          room = rw (own, w) (omega arith);
        }

    held-long : (holder : Option ℕ) → Long (held_in m holder)
    held-long holder = stored-long m ready.long _ _ _ _ _ holder m.own ready.long.registers ready.long.kept ready.long.log_locations ready.long.log_values ready.long.issued

    carries-fence : Carries 4
    unfolding carried_out next_in writes
    carries-fence e = still m refl refl refl ready.long refl refl (ap writes e)

    carries-lock : Carries 5
    unfolding carried_out next_in writes
    carries-lock e = still (held_in m (Some p)) refl refl refl (held-long (Some p)) refl refl (ap writes e)

    carries-unlock : Carries 6
    unfolding carried_out next_in writes
    carries-unlock e = still (held_in m None) refl refl refl (held-long None) refl refl (ap writes e)

    carries-local : Carries 7
    unfolding carried_out next_in writes
    carries-local e =
        still (assigned_in m i i.value) refl refl refl
        (stored-long m ready.long _ _ _ _ _ _ _ (set_long m.registers _ _ 16 ready.long.registers) ready.long.kept ready.long.log_locations ready.long.log_values ready.long.issued)
        refl refl (ap writes e)

    pub carries : Carried (carried_out m i (next_of m i (step_kind i.kind f)))
    carries =
        by_kind Carries carries-read carries-write carries-fence carries-lock carries-unlock carries-local i.kind f here.kind
        (rw (ap (λ (r : Record). r.kind) (is-instruction g m ready i here h l)) (at.stands.inside l)) (todo-next g m ready i here h l)

    -- ---- and the program goes on

    module _ (c : State) (k : Carried c) where
      abbrev last : Bool
      last = is_last m.phase i.kind p

      at-is : get_or (next_at c.at c.phase i.kind p) p 0 ≡ cond last (a + 1) a
      at-is = rw (k.at, k.phase) (at_next g m.at m.phase i (rw ready.long.at h))

      phase-is : get_or (next_phase c.phase i.kind p) p 0 ≡ cond last 0 (f + 1)
      phase-is = rw k.phase (get_or-set_same m.phase p (cond last 0 (f + 1)) 0 (rw ready.long.phase h))

      kind-is : i.kind ≡ (instruction_at g p a).kind
      kind-is = ap (λ (r : Record). r.kind) (is-instruction g m ready i here h l)

      stands : Stands g p (cond last (a + 1) a) (cond last 0 (f + 1))
      stands = stands-next g p a f ready.fits h at.stands l last (ap (λ (k : ℕ). eqb (f + 1) (step_count k)) (sym kind-is))

      ready-own : ReadyAt g (advanced_in c i) p
      ready-own =
          let o = at.order in
          let r = k.room in
          let w = at.room in
          let u = k.more in
          record {
            order = rw k.drained (omega arith);
            room = rw (goes_on g m ready i here h l c k.at k.phase) (omega arith);
            stands = rw (at-is, phase-is) stands;
          }

      todo-other : (q : ℕ) → ¬ (q ≡ p) → todo_in g (advanced_in c i) q ≡ todo_in g m q
      unfolding todo_in
      todo-other q x = rw (k.at, k.phase, at_other g m.at m.phase i q x, get_or-set_other m.phase p q (cond last 0 (f + 1)) 0 x)

      ready-other : (q : ℕ) → q < processors → ¬ (q ≡ p) → ReadyAt g (advanced_in c i) q
      ready-other q o x =
          let y = ready.each q o in
          let ea : get_or (next_at c.at c.phase i.kind p) q 0 ≡ get_or m.at q 0 = rw (k.at, k.phase) (at_other g m.at m.phase i q x) in
          let ef : get_or (next_phase c.phase i.kind p) q 0 ≡ get_or m.phase q 0 = rw k.phase (get_or-set_other m.phase p q (cond last 0 (f + 1)) 0 x) in
          record {
            order = rw (k.drained, k.others q x) y.order;
            room = rw (k.others q x, todo-other q x) y.room;
            stands = rw (ea, ef) y.stands;
          }

      pub ready-advanced : c.own + left_of (machine_of g (advanced_in c i)) ≤ longest_trace → Ready g (advanced_in c i)
      ready-advanced counts = record { fits = ready.fits; long = advanced-long c k.long i; in_log = k.in_log; each = λ q o. go q o (eqb q p) refl; counts = counts }
        where
          go : (q : ℕ) → q < processors → (b : Bool) → eqb q p ≡ b → ReadyAt g (advanced_in c i) q
          go q o true e = rw (eqb-true q p e) ready-own
          go q o false e = ready-other q o (eqb-false q p e)
