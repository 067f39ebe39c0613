-- What completing a run asks and promises, where g has the programs.
use Rattle.std.specs.Prelude.{◌≡◌, List, ◌++◌, ℕ, ◌*◌, ◌≤◌, length, drop}
use Rattle.model.specs.Sizes.{record_size}
use Rattle.model.specs.Record.{file_of}
use Rattle.model.specs.Left.{left}
use Rattle.model.specs.Finish.{completion}
use Rattle.model.specs.Code.{Columns}
use Rattle.machine_state.specs.State.{State}
use Rattle.machine.specs.View.{machine_of}
use Rattle.finish_step.specs.Finishing.{Underway}

-- k steps are left, and there is room for them
pub record Completable (g : Columns) (m : State) (k : ℕ) (room : List ℕ) : Type 0 where
  pub underway : Underway g m
  pub steps : left (machine_of g m) ≡ k
  pub fits : record_size * k ≤ length room

-- the room with the completion at its start
unfoldable pub completed_in : Columns → State → ℕ → List ℕ → List ℕ
unfolding file_of completion machine_of
completed_in g m k room = file_of (completion (machine_of g m)) ++ drop (record_size * k) room
