-- From the records of a table to the table.
use mathlib.Core.Path.{◌≡◌, sym, ap, ◌∙◌, subst⁻¹}
use mathlib.Core.List.{List, []}
use Prim.Native.Nat.{ℕ, zero, suc, ◌+◌, ◌/◌, ◌<◌}
use native.Mathlib.Nat.{le_of_suc-le-suc, not-suc-le-zero}
use native.Mathlib.Omega.{arith}
use lib.ListN.{length, get_or}
use Rattle.model.specs.declared.record.Record.{Record}
use Rattle.std.specs.Prelude.{Ok, Err}
use Rattle.model.specs.declared.answer.Refusal.TheVariants.{TableLength}
use Rattle.model.specs.declared.answer.Refused.{Refused}
use Rattle.model.specs.declared.table.Cells.{Cells}
use Rattle.model.specs.Sizes.{record_size}
use Rattle.model.specs.Record.{record_at, records_from, records}
use Rattle.model.specs.Kinds.{Entry}
use Rattle.model.specs.Table.{Whole}
use Rattle.model.specs.Reply.{number_of, refusal_at}
use Rattle.model.specs.Tests.{passed, refused}
use Rattle.model.specs.Reading.{read_record, reading}
use Rattle.model.specs.Code.{Columns, Fits, Sized}
use Rattle.model.proofs.Tests.{then-passed, then-refused}
use Rattle.model.proofs.InOrder.{file-whole, file-not-whole}
use Rattle.table_record.specs.declared.given.Given.{Given}
use Rattle.table.specs.Reads.{no_program, no_cells, Reads}
use Rattle.table.proofs.Holding.{Holds, fits-none, sized-none}
use Rattle.table.proofs.Turns.{all}

-- ---- its records

from_at : (table : List ℕ) (j n i : ℕ) (o : Record) → i < n → record_at table (j + i) ≡ get_or (records_from table j n) i o
unfolding records_from
from_at table j zero i o l = absurd (not-suc-le-zero l)
from_at table j (suc n) zero o l = ap (record_at table) (omega arith)
from_at table j (suc n) (suc i) o l = ap (record_at table) (omega arith) ∙ from_at table (suc j) n i o (le_of_suc-le-suc l)

pub record-in : (table : List ℕ) (i : ℕ) (o : Record) → i < length table / record_size → record_at table i ≡ get_or (records table) i o
unfolding records
record-in table i o l = ap (record_at table) (omega arith) ∙ from_at table 0 (length table / record_size) i o l

-- ---- its verdict

refuses : (table : List ℕ) (r : Refused) {g : Columns} {c : Cells} → Fits g → Sized c → reading table ≡ refused (number_of r.why) r.place → Reads table (Err r) g c
refuses table r f z h = record { says = sym (then-refused (reading table) _ (number_of r.why) r.place h); fits = f; sized = z }

-- no multiple of 8
pub odd : (table : List ℕ) (g : Columns) (c : Cells) → (g ≡ no_program) × (c ≡ no_cells) → ¬ Whole table → Reads table (Err (refusal_at TableLength (length table / record_size))) g c
unfolding reading
odd table g c z h = refuses table _ (subst⁻¹ Fits z.0 fits-none) (subst⁻¹ Sized z.1 sized-none) (file-not-whole 1 read_record [] table h)

module _ (table : List ℕ) (whole : Whole table) {g : Columns} {c : Cells} where
  pub records-refused : (r : Refused) → (all (records table) ≡ refused (number_of r.why) r.place) × Fits g × Sized c → Reads table (Err r) g c
  unfolding reading
  records-refused r h = refuses table r h.1 h.2 (file-whole 1 read_record [] table whole ∙ h.0)

  pub records-passed : (s : Given) (es : List Entry) → Holds g c s es → all (records table) ≡ passed es → Reads table (Ok tt) g c
  unfolding reading
  records-passed s es k h =
      record { says = ap passed k.machine ∙ sym (then-passed (reading table) _ es (file-whole 1 read_record [] table whole ∙ h)); fits = k.fits; sized = k.sized }
