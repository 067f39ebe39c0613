use Rattle.std.proofs.Common.{◌+◌, ◌*◌, ◌<◌, sym, ap, subst, arith}
use Rattle.model.specs.declared.origin.Origin.{Origin}
use Rattle.model.specs.Code.{place_at}
use Rattle.model.specs.Sizes.{processors, instructions_each}
use Rattle.machine_rules.specs.Lookups.{value_at, Reaches}
use Rattle.machine_rules.proofs.waiting.value.Goals as goal

reached : (c : goal.In-Waiting) → place_at c.args.p c.args.drained + c.in-Waiting.position < processors * instructions_each
reached c =
    subst (λ (o : Origin). Reaches o (place_at c.args.p c.args.drained)) c.in-Waiting.is c.requires

pub overflow_mul-oldest : goal.overflow_mul-oldest
overflow_mul-oldest c = omega (arith, reached c)

pub overflow_add-oldest : goal.overflow_add-oldest
overflow_add-oldest c = omega (arith, reached c)

pub overflow_add-result : goal.overflow_add-result
overflow_add-result c = omega (arith, reached c)

pub offset_bounds-values-oldest : goal.offset_bounds-values-oldest
offset_bounds-values-oldest c = omega (arith, reached c)

pub returns-in-Waiting : goal.returns-in-Waiting
returns-in-Waiting c =
    ap (λ (o : Origin). value_at c.args.values.now (place_at c.args.p c.args.drained) o c.args.memory) (sym c.in-Waiting.is)
