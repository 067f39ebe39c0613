-- A state as the theory speaks of it: the machine itself, with a list for each of its arrays.
use Rattle.std.specs.Prelude.{List, ℕ, Option}
use Rattle.machine_state.specs.declared.state.Machine.{Machine}

abbrev pub State : Type 0
State = Machine

abbrev pub parts : (registers memory kept at phase locations values issued drained : List ℕ) (holder : Option ℕ) (own : ℕ) → State
parts registers memory kept at phase locations values issued drained holder own = record {
  registers = registers;
  memory = memory;
  kept = kept;
  at = at;
  phase = phase;
  locations = locations;
  values = values;
  issued = issued;
  drained = drained;
  holder = holder;
  own = own;
}
