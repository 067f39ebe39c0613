use mathlib.Core.Path.{◌∙◌}
use Rattle.litmus_reader.proofs.Columns.{is-heading}
use Rattle.litmus_reader.proofs.headings.is_heading.Goals as goal

pub returns : goal.returns
returns c = c.same_bytes.ensures ∙ is-heading c.args.n c.args.t.now c.requires
