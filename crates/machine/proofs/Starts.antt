-- The state at the start: it stands for the machine of the table, and all holds of it.
use mathlib.Core.Path.{◌≡◌, refl}
use mathlib.Core.List.{[], ◌∷◌}
use Prim.Native.Nat.{ℕ, ◌+◌, ◌-◌, ◌*◌, ◌≤◌}
use native.Mathlib.Omega.{arith}
use lib.ListN.{replicate}
use lib.Dec.{lit<}
use Rattle.model.specs.declared.table.Cells.{Cells}
use Rattle.model.specs.Sizes.{registers_each, instructions_each, steps_each, longest_trace}
use Rattle.model.specs.Left.{left_of, left_in, left}
use Rattle.model.specs.Code.{Columns, row, unread, steps_from, count_in, processor_at_start, start_of, Fits, Sized}
use Rattle.model.proofs.Columns.{few-writes, few-steps}
use Rattle.model.proofs.Rows.{alike}
use Rattle.machine.specs.View.{waiting_in, todo_in, processor_of, holder_of, machine_of}
use Rattle.machine.specs.Arrays.{start_in}
use Rattle.machine.specs.Ready.{Ready}
use Rattle.machine_rules.proofs.Lookup.{part_none}
use Rattle.machine.proofs.Todo.{stands-first}

module _ (g : Columns) (c : Cells) where
  start-todo : (p : ℕ) → todo_in g (start_in c) p ≡ steps_from g p 0 (count_in g p)
  unfolding todo_in
  start-todo p = let e : count_in g p - 0 ≡ count_in g p = omega arith in rw (alike {A = ℕ} 0 4 p, e)

  start-waiting : (p : ℕ) → waiting_in (start_in c) p ≡ []
  unfolding waiting_in
  start-waiting p = rw (alike {A = ℕ} 0 4 p) (part_none (16 * p + 0) (replicate 64 0) (replicate 64 unread))

  processor-at-start : (p : ℕ) → processor_of g (start_in c) p ≡ processor_at_start g c p
  unfolding processor_of processor_at_start
  processor-at-start p = λ j. record {
    todo = start-todo p j;
    kept = alike {A = ℕ} 0 4 p j;
    registers = row registers_each p c.registers;
    waiting = start-waiting p j;
  }

  pub start_is : machine_of g (start_in c) ≡ start_of g c
  unfolding machine_of start_of holder_of
  start_is = λ j. record {
    processors = processor-at-start 0 j ∷ processor-at-start 1 j ∷ processor-at-start 2 j ∷ processor-at-start 3 j ∷ [];
    memory = c.memory;
    holder = Rattle.model.specs.Machine.free;
  }

  -- at most 320 steps
  start_left : (p : ℕ) → Fits g → left_of (processor_at_start g c p) ≤ steps_each * instructions_each
  unfolding left_of processor_at_start
  start_left p s = omega (arith, few-steps g p 0 (count_in g p), few-writes g p 0 (count_in g p), s.few p)

  few-left : Fits g → left (start_of g c) ≤ longest_trace
  unfolding left left_in start_of
  few-left s = omega (arith, start_left 0 s, start_left 1 s, start_left 2 s, start_left 3 s)

  pub start-ready : Fits g → Sized c → Ready g (start_in c)
  start-ready s z = record {
    fits = s;
    long = record { registers = z.registers; memory = z.memory; kept = refl; at = refl; phase = refl; log_locations = refl; log_values = refl; issued = refl; drained = refl };
    in_log = λ n. rw (alike {A = ℕ} 0 64 n) (lit< tt);
    each = λ p h. record {
      order = omega arith;
      room = let w = few-writes g p 0 (count_in g p) in let few = s.few p in rw (alike {A = ℕ} 0 4 p, start-todo p) (omega arith);
      stands = rw (alike {A = ℕ} 0 4 p) (stands-first g p 0 s h (omega arith));
    };
    counts = rw start_is (omega (arith, few-left s));
  }
