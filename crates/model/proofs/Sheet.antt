-- The twelve starred lines, by computation.
use mathlib.Core.Path.{refl}
use Rattle.model.specs.Sheet.{reply, SheetHolds}

pub sheet-holds : SheetHolds
unfolding reply
sheet-holds = refl
