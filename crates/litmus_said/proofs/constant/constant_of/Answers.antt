use native.Mathlib.Omega.{arith}
use Rattle.litmus_said.proofs.Constants.{minus-fits, constant-minus, constant-none, constant-plus}
use Rattle.litmus_said.proofs.constant.constant_of.Goals as goal
use Rattle.litmus_said.proofs.constant.constant_of.Goals.{in_default-via-then-t-lt1, in_default-via-else-t-lt1+in_default-1}
use borrow.Author.Rules.{rules}

pub overflow_sub-result : goal.overflow_sub-result
overflow_sub-result c =
    minus-fits c.value_of.result c.value_of.ensures.1

pub returns-in-45 : goal.returns-in-45
returns-in-45 c = constant-minus c.args.t.now c.value_of.result c.in-45.len_at_least (omega arith) c.value_of.ensures.0 c.value_of.ensures.1

pub returns-in_default : goal.returns-in_default
returns-in_default c =
    elim c.in_default.branch [
      | in_default-via-then-t-lt1 w ↦ constant-none c.args.t.now c.value_of-in_default.result (search rules) c.value_of-in_default.ensures.0 c.value_of-in_default.ensures.1
      | in_default-via-else-t-lt1+in_default-1 w ↦ constant-plus c.args.t.now c.value_of-in_default.result (λ e. omega (arith, e)) c.value_of-in_default.ensures.0 c.value_of-in_default.ensures.1
    ]
