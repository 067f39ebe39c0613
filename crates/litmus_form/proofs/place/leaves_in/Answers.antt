use Rattle.litmus_form.proofs.Places.{leaves-braces, leaves-row}
use Rattle.litmus_form.proofs.place.leaves_in.Goals as goal

pub returns-in-Braces : goal.returns-in-Braces
returns-in-Braces c = leaves-braces _ _ _ c.in-Braces.is c.is_mark.ensures

pub returns-in-Row : goal.returns-in-Row
returns-in-Row c = leaves-row _ _ _ _ _ c.in-Row.is c.is_first.ensures c.is_end.ensures
