use mathlib.Core.Path.{sym, ap}
use Rattle.machine_store.specs.Stores.{counted_in}
use Rattle.machine_store.proofs.count.Goals as goal

pub returns-in-Waiting : goal.returns-in-Waiting
returns-in-Waiting c = ap (counted_in c.args.m.now) (sym c.in-Waiting.is)
