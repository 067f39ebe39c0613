use Rattle.model.proofs.Raised.{raised}
use Rattle.table.proofs.Beginning.{begins, stays}
use Rattle.table.proofs.in_place.read_in_place.Goals as goal

pub returns-in_err-read : goal.returns-in_err-read
returns-in_err-read c =
    rw (c.requires.1, raised c.from_residual.result c.in_err-read.field-0.0 c.from_residual.ensures.1)
    (stays c.args.table.now _ _ _ c.in_err-read.ensures)

pub returns : goal.returns
returns c = rw c.requires.1 (begins c.args.table.now _ _ c.in_ok-read.ensures)
