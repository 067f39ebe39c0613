use Rattle.model.proofs.Raised.{raised}
use Rattle.litmus.proofs.Imported.{text-refused, text-tabled}
use Rattle.litmus.proofs.litmus.litmus.Goals as goal

pub returns-in_err-read_text : goal.returns-in_err-read_text
returns-in_err-read_text c = rw (raised c.from_residual.result c.in_err-read_text.field-0.0 c.from_residual.ensures.1) (text-refused _ _ _ _ c.read_text.ensures _ c.in_err-read_text.was)

pub returns : goal.returns
returns c = text-tabled _ _ _ _ c.read_text.ensures c.in_ok-read_text.was _ _ c.tabled.ensures
