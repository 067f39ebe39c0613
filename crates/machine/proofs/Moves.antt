-- What the code offers is the model's move: its event, and the machine after it.
use mathlib.Core.Path.{◌≡◌, refl, sym, ap, ◌∙◌}
use mathlib.Core.Bool.{Bool, true, false, cond}
use mathlib.Core.Option.{Option, none}
use mathlib.Core.List.{List, [], ◌∷◌, ◌++◌}
use Prim.Native.Nat.{ℕ, suc, ◌+◌, ◌*◌, ◌≤◌, ◌<◌}
use native.Mathlib.Omega.{arith}
use lib.ListN.{get_or, set}
use lib.Dec.{eqb}
use borrow.Author.Tests.{eqb-true, eqb-false}
use Rattle.model.specs.Code.{Columns, place_at, register_of, acts_of}
use Rattle.model.specs.declared.record.Record.{Record}
use Rattle.model.specs.Sizes.{processors, registers_each, instructions_each}
use Rattle.model.specs.Program.{ProgramStep, write, into, aside}
use Rattle.model.specs.Kinds.{table_rows}
use Rattle.model.specs.Machine as model
use Rattle.model.specs.Machine.{Processor, WaitingWrite, write_of, free, held, processor, issued, advanced, assigned, received, wrote, drained, with_processor, with_cell, with_holder}
use Rattle.model.specs.Rules.{Event, event, R, W, F, L, U, N}
use Rattle.model.specs.Step.{Move, move, drain_move, next_move, origin_in, seen_in, seen, is_empty}
use Rattle.model.specs.Left.{writes}
use Rattle.model.proofs.Rows.{slice_get}
use Rattle.machine.specs.View.{waiting_in, todo_in, processor_of, holder_of, machine_of}
use Rattle.machine_rules.specs.Steps.{step_kind, step_count}
use Rattle.machine.specs.Arrays.{oldest_of, next_of}
use Rattle.machine_rules.specs.Offers.{oldest_in, next_in}
use Rattle.machine.specs.Stores.{after_event}
use Rattle.machine_store.specs.Stores.{advanced_in, after_drain, assigned_in, received_in, held_in}
use Rattle.machine.specs.Ready.{ReadyAt, Ready}
use Rattle.machine_store.specs.Stores.{Own}
use Rattle.machine.proofs.Todo.{target_of, source_of, step_for, issues, exchanges-is, by_kind}
use Rattle.machine.proofs.Logs.{pushed_in, newer_in, none-waits, some-wait, waits-none}
use Rattle.machine.proofs.Changes.{Changes, same-processors, same-machine, then, processor-is, machine-is, with_register, assigned-changes, aside_in, with_kept, kept-changes, with_write, pushed-changes, drained-changes, advanced-changes}
use Rattle.std.specs.Prelude.{Some, None}
use Rattle.machine_state.specs.State.{State, parts}

-- i is the instruction that the processor stands at
abbrev pub offer : Columns → State → Record → Event → Option Move
offer g m i e = cond (eqb e.kind 0) none (move e (machine_of g (after_event m i e)))

module _ (g : Columns) (m : State) (ready : Ready g m) (i : Record) (own : Own i) where
  abbrev p : ℕ
  p = i.processor

  abbrev M : model.Machine
  M = machine_of g m

  abbrev d : ℕ
  d = get_or m.drained p 0

  abbrev n : ℕ
  n = get_or m.issued p 0

  at : ReadyAt g m p
  at = ready.each p own.processor

  few : n ≤ instructions_each
  few = let r = at.room in omega arith

  processor-here : processor M p ≡ processor_of g m p
  processor-here = processor-is g m p own.processor

  waiting-is : (processor M p).waiting ≡ waiting_in m p
  unfolding processor_of
  waiting-is = ap (λ (P : Processor). P.waiting) processor-here

  pub empty-is : is_empty (processor M p).waiting ≡ eqb d n
  empty-is = ap is_empty waiting-is ∙ waits-none m p own.processor ready.long at.order few

  -- ---- the drain

  drained-is : (x v : ℕ) → with_cell (with_processor M p (drained (processor M p) (newer_in m p))) x v ≡ machine_of g (after_event m i (event 3 p x v))
  unfolding with_cell with_processor machine_of after_event
  drained-is x v = sym (machine-is g m (after_drain m (event 3 p x v)) p _ own.processor (drained-changes g m (event 3 p x v) own.processor ready.long))

  pub oldest-offer : drain_move M p (processor M p).waiting ≡ offer g m i (oldest_of m i)
  unfolding drain_move oldest_in machine_of
  oldest-offer = rw waiting-is (go (eqb d n) refl)
    where
      x : ℕ
      x = get_or m.locations (place_at p d) 0

      v : ℕ
      v = get_or m.values (place_at p d) 0

      go : (b : Bool) → eqb d n ≡ b → drain_move M p (waiting_in m p) ≡ offer g m i (cond b (event 0 p 0 0) (event 3 p x v))
      go true e = rw (none-waits m p (eqb-true d n e))
      go false e =
          let o = at.order in
          rw (some-wait m p own.processor ready.long (omega (arith, eqb-false d n e)) few)
          (λ j. move (event 3 p x v) (drained-is x v j))

  -- ---- the machine after a program step that leaves `rest`

  module _ (rest : List ProgramStep) (goes_on : (o : State) → o.at ≡ m.at → o.phase ≡ m.phase → todo_in g (advanced_in o i) p ≡ rest) where
    -- o is the state before the program goes on
    stepped : (o : State) (F : Processor → Processor) → o.at ≡ m.at → o.phase ≡ m.phase → Changes g m o p F
        → machine_of g (advanced_in o i) ≡ record { processors = set M.processors p (advanced (F (processor M p)) rest); memory = o.memory; holder = holder_of o.holder }
    stepped o F a f c = machine-is g m (advanced_in o i) p (λ P. advanced (F P) rest) own.processor (then g c (advanced-changes g o i rest (goes_on o a f)))

    fenced : with_processor M p (advanced (processor M p) rest) ≡ machine_of g (after_event m i (F p))
    unfolding with_processor machine_of after_event
    fenced = sym (stepped m (λ P. P) refl refl (same-processors g m p m.holder))

    locked : with_holder (with_processor M p (advanced (processor M p) rest)) (held p) ≡ machine_of g (after_event m i (L p))
    unfolding with_holder with_processor machine_of holder_of after_event
    locked = sym (stepped (held_in m (Some p)) (λ P. P) refl refl (same-processors g m p (Some p)))

    unlocked : with_holder (with_processor M p (advanced (processor M p) rest)) free ≡ machine_of g (after_event m i (U p))
    unfolding with_holder with_processor machine_of holder_of after_event
    unlocked = sym (stepped (held_in m None) (λ P. P) refl refl (same-processors g m p None))

    set_is : with_processor M p (assigned (processor M p) rest i.register i.value) ≡ machine_of g (after_event m i (N p))
    unfolding with_processor machine_of after_event assigned advanced
    set_is = sym (stepped (assigned_in m i i.value) (with_register g i.register i.value) refl refl (assigned-changes g m i i.value own))

    read_is : (x v : ℕ) → with_processor M p (received (processor M p) rest (target_of i) v) ≡ machine_of g (after_event m i (R p x v))
    unfolding with_processor machine_of after_event received assigned advanced
    read_is x v = go (acts_of i.kind).loads ∙ sym (same-machine g (advanced_in (received_in m i v) i) (origin_in (waiting_in m p) i.location))
      where
        go : (b : Bool) → with_processor M p (received (processor M p) rest (cond b (into i.register) aside) v)
            ≡ machine_of g (advanced_in (parts (cond b (set m.registers (register_of i) v) m.registers) m.memory (cond b m.kept (set m.kept p v)) m.at m.phase m.locations m.values m.issued m.drained m.holder m.own) i)
        go true = sym (stepped (assigned_in m i v) (with_register g i.register v) refl refl (assigned-changes g m i v own))
        go false = sym (stepped (aside_in g m p v) (with_kept g v) refl refl (kept-changes g m p v own.processor ready.long))

    -- an exchange's write, or another's
    abbrev with_exchange : Bool → WaitingWrite → Processor → Processor
    with_exchange b w P = record {
      todo = P.todo;
      kept = P.kept;
      registers = cond b (set P.registers i.register P.kept) P.registers;
      waiting = P.waiting ++ (w ∷ []);
    }

    exchange-changes : (x v : ℕ) → Changes g m (pushed_in m p x v) p (with_write g (write_of x v))
        → Changes g m (assigned_in (pushed_in m p x v) i (get_or m.kept p 0)) p (with_exchange true (write_of x v))
    unfolding processor_of assigned
    exchange-changes x v c = let t = then g c (assigned-changes g (pushed_in m p x v) i (get_or m.kept p 0) own) in record { own = t.own; others = t.others }

    wrote-is : (x v : ℕ) → n < instructions_each → issued (processor M p) (source_of i) ≡ v → with_processor M p (wrote (processor M p) rest x (source_of i)) ≡ machine_of g (after_event m i (W p x v))
    unfolding with_processor machine_of after_event wrote advanced assigned
    wrote-is x v r e =
        ap (λ (P : Processor). with_processor M p P)
        (λ j. record { todo = rest; kept = (processor M p).kept; registers = exchanges-is i (processor M p) j; waiting = (processor M p).waiting ++ (write_of x (e j) ∷ []) })
        ∙ go (acts_of i.kind).exchanges
      where
        bounds : (q : ℕ) → q < processors → (get_or m.drained q 0 ≤ get_or m.issued q 0) × (get_or m.issued q 0 ≤ instructions_each)
        bounds q h = let t = ready.each q h in let w = t.room in (t.order, omega arith)

        pushes : Changes g m (pushed_in m p x v) p (with_write g (write_of x v))
        pushes = pushed-changes g m p x v own.processor ready.long bounds r

        go : (b : Bool) → with_processor M p (advanced (with_exchange b (write_of x v) (processor M p)) rest)
            ≡ machine_of g (advanced_in (parts (cond b (set m.registers (register_of i) (get_or m.kept p 0)) m.registers) m.memory m.kept m.at m.phase
            (set m.locations (place_at p n) x) (set m.values (place_at p n) v) (set m.issued p (n + 1)) m.drained m.holder m.own) i)
        go true = sym (stepped (assigned_in (pushed_in m p x v) i (get_or m.kept p 0)) (with_exchange true (write_of x v)) refl refl (exchange-changes x v pushes))
        go false = sym (stepped (pushed_in m p x v) (with_write g (write_of x v)) refl refl pushes)

    -- ---- the program step of each kind

    abbrev Offers : ℕ → Type 0
    Offers k = next_move M p (step_for i k ∷ rest) ≡ offer g m i (next_of m i k)

    offers-fence : Offers 4
    unfolding next_move next_in
    offers-fence = ap (move (F p)) fenced

    offers-lock : Offers 5
    unfolding next_move next_in
    offers-lock = ap (move (L p)) locked

    offers-unlock : Offers 6
    unfolding next_move next_in
    offers-unlock = ap (move (U p)) unlocked

    offers-local : Offers 7
    unfolding next_move next_in
    offers-local = ap (move (N p)) set_is

    seen-is : seen M p i.location ≡ seen_in (waiting_in m p) i.location (get_or m.memory i.location 0)
    unfolding seen machine_of
    seen-is = ap (λ (ws : List WaitingWrite). seen_in ws i.location (get_or m.memory i.location 0)) waiting-is

    offers-read : Offers 1
    unfolding next_move next_in machine_of waiting_in
    offers-read =
        let x = i.location in
        (λ j. move (R p x (seen-is j)) (with_processor M p (received (processor M p) rest (target_of i) (seen-is j))))
        ∙ ap (move (R p x (seen_in (waiting_in m p) x (get_or m.memory x 0)))) (read_is x (seen_in (waiting_in m p) x (get_or m.memory x 0)))

    issued-is : issued (processor M p) (source_of i) ≡ (acts_of i.kind).issues i.value (get_or m.kept p 0) (get_or m.registers (register_of i) 0)
    unfolding processor_of
    issued-is =
        let r = own.register in
        ap (λ (P : Processor). issued P (source_of i)) processor-here ∙ issues i (processor_of g m p)
        ∙ ap ((acts_of i.kind).issues i.value (get_or m.kept p 0)) (slice_get (registers_each * p) (registers_each * p + registers_each) i.register m.registers (omega arith))

    offers-write : n < instructions_each → Offers 2
    unfolding next_move next_in
    offers-write r = λ j. move (W p i.location (issued-is j)) (wrote-is i.location _ r issued-is j)

    -- the kind is that of the next program step
    room-to-write : todo_in g m p ≡ write i.location (source_of i) ∷ rest → n < instructions_each
    unfolding writes
    room-to-write e = let w : writes (todo_in g m p) ≡ suc (writes rest) = ap writes e in let r = at.room in omega arith

    pub offers : (k f : ℕ) → k < table_rows → f < step_count k → todo_in g m p ≡ step_for i (step_kind k f) ∷ rest → Offers (step_kind k f)
    offers =
        by_kind (λ k. todo_in g m p ≡ step_for i k ∷ rest → Offers k) (λ e. offers-read) (λ e. offers-write (room-to-write e)) (λ e. offers-fence)
        (λ e. offers-lock) (λ e. offers-unlock) (λ e. offers-local)
