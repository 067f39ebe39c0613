use mathlib.Core.Path.{◌∙◌}
use Rattle.ambercell.proofs.ambercell_finish.Goals as goal

pub returns : goal.returns
returns c = c.from.ensures _ ∙ c.finish.ensures
