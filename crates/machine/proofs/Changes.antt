-- Each store changes one processor of the machine that the state stands for.
use mathlib.Core.Path.{◌≡◌, refl, sym, ap, ◌∙◌}
use mathlib.Core.Bool.{Bool, true, false, cond}
use mathlib.Core.List.{List, [], ◌∷◌, ◌++◌}
use Prim.Native.Nat.{ℕ, ◌+◌, ◌-◌, ◌<◌}
use lib.ListN.{length, get_or, drop, set}
use Rattle.std.specs.Prelude.{Option}
use lib.Seq.{slice, get_or-set_same, get_or-set_other}
use Rattle.model.specs.declared.origin.Origin.{Origin}
use Rattle.model.specs.declared.record.Record.{Record}
use Rattle.model.specs.Sizes.{processors, registers_each, instructions_each}
use Rattle.model.specs.Program.{ProgramStep}
use Rattle.model.specs.Machine.{Processor, WaitingWrite, write_of, idle, processor, advanced, assigned, drained}
use Rattle.model.specs.Rules.{Event}
use Rattle.model.specs.Code.{Columns, place_at, row, steps_from, count_in}
use Rattle.model.proofs.Rows.{row-set, row-set-other, four-get, four-set}
use Rattle.machine_rules.specs.Offers.{writes_in}
use Rattle.machine.specs.View.{waiting_in, todo_in, processor_of, holder_of, machine_of}
use Rattle.machine_store.specs.Stores.{is_last, next_at, assigned_in, advanced_in, after_drain, held_in, counted_in}
use Rattle.machine.specs.Ready.{Long}
use Rattle.machine_store.specs.Stores.{Own}
use Rattle.machine.proofs.Logs.{pushed_in, Bounds, pushed-own, pushed-other, newer_in}
use Rattle.machine_state.specs.State.{State, parts}

-- from m to n processor p becomes what F makes of it, and no other changes
pub record Changes (g : Columns) (m n : State) (p : ℕ) (F : Processor → Processor) : Type 0 where
  pub own : processor_of g n p ≡ F (processor_of g m p)
  pub others : (q : ℕ) → q < processors → ¬ (q ≡ p) → processor_of g n q ≡ processor_of g m q

module _ (g : Columns) where
  -- who holds the lock changes no processor
  pub same-processors : (m : State) (p : ℕ) (holder : Option ℕ) → Changes g m (held_in m holder) p (λ P. P)
  unfolding processor_of todo_in waiting_in
  same-processors m p holder = record { own = refl; others = λ q h n. refl }

  -- nor does what is counted
  pub same-machine : (m : State) (from : Origin) → machine_of g (counted_in m from) ≡ machine_of g m
  unfolding machine_of processor_of todo_in waiting_in
  same-machine m from = refl

  pub then : {m n o : State} {p : ℕ} {F G : Processor → Processor} → Changes g m n p F → Changes g n o p G → Changes g m o p (λ P. G (F P))
  then {G = G} a b = record { own = b.own ∙ ap G a.own; others = λ q h n. b.others q h n ∙ a.others q h n }

  pub processor-is : (m : State) (p : ℕ) → p < processors → processor (machine_of g m) p ≡ processor_of g m p
  unfolding processor machine_of
  processor-is m p h = four-get (processor_of g m) idle p h

  -- the whole machine
  pub machine-is : (m n : State) (p : ℕ) (F : Processor → Processor) → p < processors → Changes g m n p F
      → machine_of g n ≡ record { processors = set (machine_of g m).processors p (F (processor (machine_of g m) p)); memory = n.memory; holder = holder_of n.holder }
  unfolding machine_of
  machine-is m n p F h c =
      ap (λ (Ps : List Processor). record { processors = Ps; memory = n.memory; holder = holder_of n.holder })
      (four-set (processor_of g m) (processor_of g n) p (F (processor (machine_of g m) p)) h (c.own ∙ ap F (sym (processor-is m p h))) c.others)

  -- ---- a register

  abbrev pub with_register : ℕ → ℕ → Processor → Processor
  with_register r v P = assigned P P.todo r v

  pub assigned-changes : (m : State) (i : Record) (v : ℕ) → Own i → Changes g m (assigned_in m i v) i.processor (with_register i.register v)
  unfolding processor_of todo_in waiting_in assigned
  assigned-changes m i v o = record {
    own = λ j. record {
      todo = todo_in g m i.processor;
      kept = get_or m.kept i.processor 0;
      registers = row-set registers_each i.processor i.register v m.registers o.register j;
      waiting = waiting_in m i.processor;
    };
    others = λ q h n j. record {
      todo = todo_in g m q;
      kept = get_or m.kept q 0;
      registers = row-set-other registers_each i.processor q i.register v m.registers n o.register j;
      waiting = waiting_in m q;
    };
  }

  -- ---- a value kept aside

  abbrev pub aside_in : State → ℕ → ℕ → State
  aside_in m p v = parts m.registers m.memory (set m.kept p v) m.at m.phase m.locations m.values m.issued m.drained m.holder m.own

  abbrev pub with_kept : ℕ → Processor → Processor
  with_kept v P = record { todo = P.todo; kept = v; registers = P.registers; waiting = P.waiting }

  pub kept-changes : (m : State) (p v : ℕ) → p < processors → Long m → Changes g m (aside_in m p v) p (with_kept v)
  unfolding processor_of todo_in waiting_in
  kept-changes m p v h l = record {
    own = λ j. record {
      todo = todo_in g m p;
      kept = get_or-set_same m.kept p v 0 (rw l.kept h) j;
      registers = row registers_each p m.registers;
      waiting = waiting_in m p;
    };
    others = λ q k n j. record {
      todo = todo_in g m q;
      kept = get_or-set_other m.kept p q v 0 n j;
      registers = row registers_each q m.registers;
      waiting = waiting_in m q;
    };
  }

  -- ---- the log

  abbrev pub with_write : WaitingWrite → Processor → Processor
  with_write w P = record { todo = P.todo; kept = P.kept; registers = P.registers; waiting = P.waiting ++ (w ∷ []) }

  pub pushed-changes : (m : State) (p x v : ℕ) → p < processors → Long m → ((q : ℕ) → q < processors → Bounds m q) → get_or m.issued p 0 < instructions_each
      → Changes g m (pushed_in m p x v) p (with_write (write_of x v))
  unfolding processor_of todo_in
  pushed-changes m p x v h l b r = record {
    own = λ j. record {
      todo = todo_in g m p;
      kept = get_or m.kept p 0;
      registers = row registers_each p m.registers;
      waiting = pushed-own m p x v h l (b p h).0 r j;
    };
    others = λ q k n j. record {
      todo = todo_in g m q;
      kept = get_or m.kept q 0;
      registers = row registers_each q m.registers;
      waiting = pushed-other m p q x v r n (b q k) j;
    };
  }

  -- ---- the oldest write drained

  pub drained-changes : (m : State) (e : Event) → e.processor < processors → Long m
      → Changes g m (after_drain m e) e.processor (λ P. drained P (newer_in m e.processor))
  unfolding processor_of todo_in waiting_in drained
  drained-changes m e h l =
      let p = e.processor in
      record {
        own = λ j. record {
          todo = todo_in g m p;
          kept = get_or m.kept p 0;
          registers = row registers_each p m.registers;
          waiting =
              let d = get_or-set_same m.drained p (get_or m.drained p 0 + 1) 0 (rw l.drained h) j in
              let n = get_or m.issued p 0 in
              writes_in (slice (place_at p d) (place_at p n) m.locations) (slice (place_at p d) (place_at p n) m.values);
        };
        others = λ q k n j. record {
          todo = todo_in g m q;
          kept = get_or m.kept q 0;
          registers = row registers_each q m.registers;
          waiting =
              let d = get_or-set_other m.drained p q (get_or m.drained p 0 + 1) 0 n j in
              let n = get_or m.issued q 0 in
              writes_in (slice (place_at q d) (place_at q n) m.locations) (slice (place_at q d) (place_at q n) m.values);
        };
      }

  -- ---- past a program step

  -- the two numbers of i's processor after it
  pub at_next : (at phase : List ℕ) (i : Record) → i.processor < length at
      → get_or (next_at at phase i.kind i.processor) i.processor 0 ≡ cond (is_last phase i.kind i.processor) (get_or at i.processor 0 + 1) (get_or at i.processor 0)
  at_next at phase i h = go (is_last phase i.kind i.processor)
    where
      go : (b : Bool) → get_or (cond b (set at i.processor (get_or at i.processor 0 + 1)) at) i.processor 0 ≡ cond b (get_or at i.processor 0 + 1) (get_or at i.processor 0)
      go true = get_or-set_same at i.processor (get_or at i.processor 0 + 1) 0 h
      go false = refl

  pub at_other : (at phase : List ℕ) (i : Record) (q : ℕ) → ¬ (q ≡ i.processor) → get_or (next_at at phase i.kind i.processor) q 0 ≡ get_or at q 0
  at_other at phase i q n = go (is_last phase i.kind i.processor)
    where
      go : (b : Bool) → get_or (cond b (set at i.processor (get_or at i.processor 0 + 1)) at) q 0 ≡ get_or at q 0
      go true = get_or-set_other at i.processor q (get_or at i.processor 0 + 1) 0 n
      go false = refl

  pub advanced-changes : (m : State) (i : Record) (rest : List ProgramStep) → todo_in g (advanced_in m i) i.processor ≡ rest
      → Changes g m (advanced_in m i) i.processor (λ P. advanced P rest)
  unfolding processor_of waiting_in todo_in advanced
  advanced-changes m i rest e = record {
    own = λ j. record {
      todo = e j;
      kept = get_or m.kept i.processor 0;
      registers = row registers_each i.processor m.registers;
      waiting = waiting_in m i.processor;
    };
    others = λ q k n j. record {
      todo =
          let a = at_other m.at m.phase i q n j in
          let f = get_or-set_other m.phase i.processor q (cond (is_last m.phase i.kind i.processor) 0 (get_or m.phase i.processor 0 + 1)) 0 n j in
          drop f (steps_from g q a (count_in g q - a));
      kept = get_or m.kept q 0;
      registers = row registers_each q m.registers;
      waiting = waiting_in m q;
    };
  }
