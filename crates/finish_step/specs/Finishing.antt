-- What the finishing step asks and promises, where g has the programs.
use Rattle.std.specs.Prelude.{◌≡◌, ℕ, ◌<◌, Some}
use Rattle.model.specs.Sizes.{processors}
use Rattle.model.specs.Rules.{Event}
use Rattle.model.specs.Left.{left, FinishingStep}
use Rattle.model.specs.Orderly.{Orderly}
use Rattle.model.specs.Code.{Columns}
use Rattle.machine_state.specs.State.{State}
use Rattle.machine.specs.View.{machine_of}
use Rattle.machine.specs.Ready.{Ready}
use Rattle.finish_left.specs.Mover.{mover_in}

-- what holds of every state m that a run reaches
pub record Underway (g : Columns) (m : State) : Type 0 where
  pub ready : Ready g m
  pub orderly : Orderly (machine_of g m)

-- and a step is left
pub record HasMore (g : Columns) (m : State) : Type 0 where
  pub underway : Underway g m
  pub more : 0 < left (machine_of g m)

-- and processor p moves
pub record HasMover (g : Columns) (m : State) (p : ℕ) : Type 0 where
  pub more : HasMore g m
  pub mover : Some p ≡ mover_in g m
  pub low : p < processors

-- from m to n by the finishing step, whose event is e
pub record FinishesBy (g : Columns) (m : State) (e : Event) (n : State) : Type 0 where
  pub step : FinishingStep (machine_of g m) e (machine_of g n)
  pub ready : Ready g n
