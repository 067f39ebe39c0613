use Rattle.std.proofs.Common.{rules}
use Rattle.machine_rules.proofs.Offers.{found_in}
use Rattle.machine_rules.proofs.waiting.origin.Goals as goal

pub returns : goal.returns
returns c =
    found_in c.args.locations.now c.args.issued c.args.drained c.args.p (search rules) c.requires c.args.x _ c.newest.ensures
