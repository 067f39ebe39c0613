-- Finished, by the lists that it depends on. `finished-is` in crate machine proves that it is the model's.
use Rattle.std.specs.Prelude.{Bool, ◌&&◌, ℕ, get_or, eqb}
use Rattle.model.specs.Code.{Columns, count_in}
use Rattle.machine_state.specs.State.{State}

-- processor at instruction `at` of `count`, of whose `issued` writes `drained` are drained
abbrev pub done_in : (at count drained issued : ℕ) → Bool
done_in at count drained issued = eqb at count && eqb drained issued

-- processor p, and all four
abbrev pub done_at : Columns → State → ℕ → Bool
done_at g m p = done_in (get_or m.at p 0) (count_in g p) (get_or m.drained p 0) (get_or m.issued p 0)

abbrev pub finished_in : Columns → State → Bool
finished_in g m = done_at g m 0 && done_at g m 1 && done_at g m 2 && done_at g m 3
