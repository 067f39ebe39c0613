use mathlib.Core.Path.{◌∙◌}
use Rattle.ambercell.proofs.ambercell_check.Goals as goal

pub returns : goal.returns
returns c = c.from.ensures _ ∙ c.check.ensures
