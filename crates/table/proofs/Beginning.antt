-- From a table that is read to what the calls begin with.
use mathlib.Core.Path.{refl, ap, ◌∙◌}
use mathlib.Core.List.{List}
use Prim.Native.Nat.{ℕ}
use Rattle.std.specs.Prelude.{Ok, Err}
use Rattle.model.specs.declared.answer.Refused.{Refused}
use Rattle.model.specs.declared.table.Cells.{Cells}
use Rattle.model.specs.Machine as model
use Rattle.model.specs.Code.{Columns, tested_of}
use Rattle.machine.specs.Arrays.{start_in}
use Rattle.machine.proofs.Starts.{start_is, start-ready}
use Rattle.table.specs.Reads.{no_cells, Reads}
use Rattle.table.specs.Begins.{Begins}
use Rattle.table.proofs.Holding.{sized-none}

module _ (table : List ℕ) (g : Columns) (c : Cells) where
  pub begins : Reads table (Ok tt) g c → Begins table (Ok tt) g (start_in c)
  begins reads = record {
    says = ap (λ (m : model.Machine). tested_of (Ok tt) m) (start_is g c) ∙ reads.says;
    none = refl;
    ready = start-ready g c reads.fits reads.sized;
  }

  -- a refused table leaves the machine at its start
  pub stays : (r : Refused) → Reads table (Err r) g c → Begins table (Err r) g (start_in no_cells)
  stays r reads = record { says = reads.says; none = refl; ready = start-ready g no_cells reads.fits sized-none }
