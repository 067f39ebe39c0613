-- What reading a table in place promises: the verdict v, the program g, and the state m at its start, where no read is counted.
use Rattle.std.specs.Prelude.{◌≡◌, List, ℕ}
use Rattle.model.specs.Code.{Columns, Verdict, tested_of}
use Rattle.machine.specs.View.{machine_of}
use Rattle.machine.specs.Ready.{Ready}
use Rattle.machine_state.specs.State.{State}
use Rattle.table.specs.Reads.{started}

pub record Begins (table : List ℕ) (v : Verdict) (g : Columns) (m : State) : Type 0 where
  pub says : tested_of v (machine_of g m) ≡ started table
  pub none : m.own ≡ 0
  pub ready : Ready g m
