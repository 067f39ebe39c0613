-- No store changes the length of a list.
use mathlib.Core.Path.{◌≡◌, ◌∙◌}
use mathlib.Core.Bool.{Bool, true, false, cond}
use mathlib.Core.List.{List}
use Prim.Native.Nat.{ℕ, ◌*◌}
use lib.ListN.{length, set, length-set}
use Rattle.std.specs.Prelude.{Option}
use Rattle.model.specs.declared.record.Record.{Record}
use Rattle.model.specs.Sizes.{processors, registers_each, locations, instructions_each}
use Rattle.model.specs.Rules.{Event}
use Rattle.machine_store.specs.Stores.{is_last, advanced_in, after_drain}
use Rattle.machine.specs.Ready.{Long}
use Rattle.machine_state.specs.State.{State, parts}

pub set_long : (xs : List ℕ) (k x n : ℕ) → length xs ≡ n → length (set xs k x) ≡ n
set_long xs k x n h = length-set xs k x ∙ h

pub either-long : (b : Bool) (xs ys : List ℕ) (n : ℕ) → length xs ≡ n → length ys ≡ n → length (cond b xs ys) ≡ n
either-long true xs ys n h k = h
either-long false xs ys n h k = k

module _ (m : State) (l : Long m) where
  pub stored-long : (registers kept locations values issued : List ℕ) (holder : Option ℕ) (own : ℕ) → length registers ≡ processors * registers_each → length kept ≡ processors
      → length locations ≡ processors * instructions_each → length values ≡ processors * instructions_each → length issued ≡ processors
      → Long (parts registers m.memory kept m.at m.phase locations values issued m.drained holder own)
  stored-long registers kept locations values issued holder own r k x v n = record {
    registers = r;
    memory = l.memory;
    kept = k;
    at = l.at;
    phase = l.phase;
    log_locations = x;
    log_values = v;
    issued = n;
    drained = l.drained;
  }

  pub advanced-long : (i : Record) → Long (advanced_in m i)
  advanced-long i = record {
    registers = l.registers;
    memory = l.memory;
    kept = l.kept;
    at = either-long (is_last m.phase i.kind i.processor) _ _ processors (set_long m.at _ _ processors l.at) l.at;
    phase = set_long m.phase _ _ processors l.phase;
    log_locations = l.log_locations;
    log_values = l.log_values;
    issued = l.issued;
    drained = l.drained;
  }

  pub drained-long : (e : Event) → Long (after_drain m e)
  drained-long e = record {
    registers = l.registers;
    memory = set_long m.memory _ _ 8 l.memory;
    kept = l.kept;
    at = l.at;
    phase = l.phase;
    log_locations = l.log_locations;
    log_values = l.log_values;
    issued = l.issued;
    drained = set_long m.drained _ _ processors l.drained;
  }
