-- Who moves when a run is finished.
use Rattle.std.specs.Prelude.{Bool, cond, ℕ, zero, suc, Option, Some, None}
use Rattle.std.specs.Option.{option_or}
use Rattle.model.specs.Sizes.{processors}
use Rattle.model.specs.Code.{Columns}
use Rattle.machine_state.specs.State.{State}
use Rattle.machine_state.specs.Finished.{done_at}

-- the first of the n processors from p on that is not done
unfoldable pub first_busy_from : (ℕ → Bool) → ℕ → ℕ → Option ℕ
first_busy_from done p zero = None
first_busy_from done p (suc n) = cond (done p) (first_busy_from done (suc p) n) (Some p)

unfoldable pub mover_in : Columns → State → Option ℕ
unfolding first_busy_from
mover_in g m = option_or m.holder (first_busy_from (done_at g m) 0 processors)
