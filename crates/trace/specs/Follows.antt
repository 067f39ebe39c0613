-- What following a trace promises, where g has the programs: from the verdict before it, and the state s, to the verdict v and the state m.
use Rattle.std.specs.Prelude.{◌≡◌, List, ℕ}
use Rattle.model.specs.Tests.{and_then}
use Rattle.model.specs.Calls.{following}
use Rattle.model.specs.Code.{Columns, Verdict, tested_of}
use Rattle.machine.specs.View.{reached_of}
use Rattle.machine.specs.Ready.{Ready}
use Rattle.machine_state.specs.State.{State}

pub record Follows (g : Columns) (s : State) (before : Verdict) (trace : List ℕ) (v : Verdict) (m : State) : Type 0 where
  pub says : tested_of v (reached_of g m) ≡ and_then (tested_of before (reached_of g s)) (λ a. following a trace)
  pub ready : Ready g m
