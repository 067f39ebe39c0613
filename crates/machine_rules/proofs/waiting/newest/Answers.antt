use Rattle.std.proofs.Common.{subst, rules}
use Rattle.machine_rules.proofs.Lookup.{Passed, all_left, found_here, not-here, none_here}
use Rattle.machine_rules.proofs.waiting.newest.Goals as goal

pub loop-i-init : goal.loop-i-init
loop-i-init c = (search rules, all_left c.args.locations.now c.args.x)

pub loop-i-preserved : goal.loop-i-preserved
loop-i-preserved c =
    (search rules, not-here c.args.locations.now c.args.x c.loop-i.i c.loop-i.invariant.1 (search rules) (search rules) c.if-locations-i.false)

pub returns-then-i-eq0 : goal.returns-then-i-eq0
returns-then-i-eq0 c =
    none_here c.args.locations.now c.args.x (subst (Passed c.args.locations.now c.args.x) c.if-i-eq0.true c.loop-i.invariant.1)

pub returns-then-locations-i : goal.returns-then-locations-i
returns-then-locations-i c =
    found_here c.args.locations.now c.args.x c.loop-i.i c.loop-i.invariant.1 (search rules) (search rules) c.if-locations-i.true
