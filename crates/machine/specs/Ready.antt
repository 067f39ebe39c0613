-- What holds of a state at every step, and what a step promises.
use Rattle.std.specs.Prelude.{◌≡◌, ℕ, ◌+◌, ◌*◌, ◌≤◌, ◌<◌, false, cond, length, get_or}
use Rattle.model.specs.Sizes.{processors, registers_each, locations, instructions_each, phases, longest_trace}
use Rattle.model.specs.Left.{writes, left}
use Rattle.model.specs.Step.{step, served_own}
use Rattle.model.specs.Code.{Columns, Attempt, instruction_at, count_in, Fits, taken, stepped_of}
use Rattle.model.specs.Rules.{Event}
use Rattle.machine_rules.specs.Steps.{step_count}
use Rattle.machine.specs.View.{todo_in, machine_of}
use Rattle.machine_state.specs.State.{State}

-- ---- at every step, where g has the programs

pub record Long (m : State) : Type 0 where
  pub registers : length m.registers ≡ processors * registers_each
  pub memory : length m.memory ≡ locations
  pub kept : length m.kept ≡ processors
  pub at : length m.at ≡ processors
  pub phase : length m.phase ≡ processors
  pub log_locations : length m.locations ≡ processors * instructions_each
  pub log_values : length m.values ≡ processors * instructions_each
  pub issued : length m.issued ≡ processors
  pub drained : length m.drained ≡ processors

-- processor p may stand at instruction a, of which f program steps are taken
pub record Stands (g : Columns) (p a f : ℕ) : Type 0 where
  pub at : a ≤ count_in g p
  pub phase : f < phases
  pub inside : a < count_in g p → f < step_count (instruction_at g p a).kind

-- of processor p: the writes issued and those to come have places in the log, and it stands inside its instruction
pub record ReadyAt (g : Columns) (m : State) (p : ℕ) : Type 0 where
  pub order : get_or m.drained p 0 ≤ get_or m.issued p 0
  pub room : get_or m.issued p 0 + writes (todo_in g m p) ≤ instructions_each
  pub stands : Stands g p (get_or m.at p 0) (get_or m.phase p 0)

-- of all four; every location in the log is one of the eight; and there are no more reads to count than steps
pub record Ready (g : Columns) (m : State) : Type 0 where
  pub fits : Fits g
  pub long : Long m
  pub in_log : (n : ℕ) → get_or m.locations n 0 < locations
  pub each : (p : ℕ) → p < processors → ReadyAt g m p
  pub counts : m.own + left (machine_of g m) ≤ longest_trace

-- ---- a step

-- from the state m to the state n: the machine takes the step e, or turns it down and stays
pub record Steps (g : Columns) (m : State) (e : Event) (r : Attempt) (n : State) : Type 0 where
  pub says : step (machine_of g m) e ≡ stepped_of r (machine_of g n)
  pub ready : Ready g n
  pub own : n.own ≡ m.own + cond (taken r) (served_own (machine_of g m) e) 0
  pub kept : taken r ≡ false → n ≡ m
