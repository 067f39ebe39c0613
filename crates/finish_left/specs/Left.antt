-- k, where g has the programs. proofs/Lefts.antt proves that it is the model's.
use Rattle.std.specs.Prelude.{ℕ, zero, suc, ◌+◌, ◌-◌, ◌≤◌, ◌<◌, get_or}
use Rattle.model.specs.Sizes.{processors, instructions_each}
use Rattle.model.specs.Code.{Columns, count_in}
use Rattle.machine_state.specs.State.{State}
use Rattle.finish_left.specs.Weight.{program_left, Countable}

module _ (g : Columns) (m : State) where
  abbrev pub processor_left : ℕ → ℕ
  processor_left p = program_left g.kinds p (count_in g p) (get_or m.at p 0) (get_or m.phase p 0) + (get_or m.issued p 0 - get_or m.drained p 0)

  -- of the first n processors
  unfoldable pub left_of_first : ℕ → ℕ
  left_of_first zero = 0
  left_of_first (suc n) = left_of_first n + processor_left n

  abbrev pub left_in : ℕ
  left_in = left_of_first processors

  -- what it asks of processor p
  pub record CountableAt (p : ℕ) : Type 0 where
    pub program : Countable g.kinds p (count_in g p) (get_or m.at p 0) (get_or m.phase p 0)
    pub order : get_or m.drained p 0 ≤ get_or m.issued p 0
    pub few : get_or m.issued p 0 ≤ instructions_each

  pub record AllCountable : Type 0 where
    pub each : (p : ℕ) → p < processors → CountableAt p
