use Rattle.std.proofs.Common.{rules, ◌≡◌, ℕ}
use Rattle.std.specs.Prelude.{Option, Some, None}
use Rattle.std.specs.Option.{MatchOption, option_or}
use Rattle.model.specs.Sizes.{processors}
use Rattle.machine_state.specs.Finished.{done_at}
use Rattle.finish_left.specs.Mover.{first_busy_from, mover_in}
use Rattle.finish_left.proofs.mover.mover.Goals as goal

either : (h b r : Option ℕ) → MatchOption h (r ≡ b) (λ p. r ≡ Some p) → r ≡ option_or h b
either None b r e = e
either (Some p) b r e = e

pub returns : goal.returns
unfolding mover_in
returns c = either c.args.m.now.holder (first_busy_from (done_at c.args.program.now c.args.m.now) 0 processors) c.or_else.result (search rules)
