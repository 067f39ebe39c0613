-- The machine that a table starts: every location is one of the eight, and what holds of the table's values, and of 0, holds of every value.
use mathlib.Core.Path.{sym, subst}
use mathlib.Core.List.{List, [], ◌∷◌, map}
use Prim.Native.Nat.{ℕ, zero, suc, ◌<◌, ◌/◌}
use native.Mathlib.Omega.{arith}
use lib.ListN.{length, get_or, replicate}
use Rattle.model.specs.Sizes.{locations, record_size, values}
use Rattle.model.specs.Lists.{All}
use Rattle.model.specs.Program.{Instruction, store_constant, store_register, load, set_register, mfence, exchange, locked_exchange, exchange_add, locked_exchange_add, steps_of}
use Rattle.model.specs.Machine.{Machine, processor, idle}
use Rattle.model.proofs.Start.{empty-at}
use Rattle.model.specs.declared.record.Record.{Record}
use Rattle.model.specs.Record.{value_of, record_at, records_from, records}
use Rattle.model.specs.Fields.{Proper}
use Rattle.model.specs.Kinds.{Entry, initial_memory, initial_register, instruction, Kind, table_kinds, table_uses, entry_of}
use Rattle.model.specs.Table.{Readable, extended, enter, enter_all, empty, start}
use Rattle.model.specs.Promises.{Bytes}
use Rattle.model.proofs.Lists.{all-at, all_append}
use Rattle.model.proofs.Fields.{proper-fields}
use Rattle.model.proofs.Bytes.{Small}
use Rattle.model.proofs.Readable.{readable-sound}
use Rattle.model.proofs.Fit.{StepFits, Fits, MachineFits, assigned-fits, with-fits, cell-fits}

-- ---- a value of four bytes is below 2^32

byte : (l : List ℕ) (n : ℕ) → Bytes l → get_or l n 0 < 256
byte l n b = all-at (λ k. k < 256) l 0 n b (omega arith)

value-small : (a b c d : ℕ) → a < 256 → b < 256 → c < 256 → d < 256 → value_of a b c d < values
value-small a b c d h i j k = omega arith

pub record-small : (bytes : List ℕ) (i : ℕ) → Bytes bytes → Small (record_at bytes i)
unfolding record_at
record-small bytes i b = value-small _ _ _ _ (byte bytes _ b) (byte bytes _ b) (byte bytes _ b) (byte bytes _ b)

-- what holds of a file's record at each place holds of all its records
records-each : (K : Record → Type 0) (bytes : List ℕ) → ((i : ℕ) → K (record_at bytes i)) → (i n : ℕ) → All K (records_from bytes i n)
unfolding records_from
records-each K bytes h i zero = tt
records-each K bytes h i (suc n) = (h i, records-each K bytes h (suc i) n)

module _ (Value : ℕ → Type 0) where
  -- ---- entries that fit

  abbrev InstructionFits : Instruction → Type 0
  InstructionFits (store_constant x v) = (x < locations) × Value v
  InstructionFits (store_register r x) = x < locations
  InstructionFits (load r x) = x < locations
  InstructionFits (set_register r v) = Value v
  InstructionFits mfence = Unit {0}
  InstructionFits (exchange r x) = x < locations
  InstructionFits (locked_exchange r x) = x < locations
  InstructionFits (exchange_add r x) = x < locations
  InstructionFits (locked_exchange_add r x) = x < locations

  abbrev EntryFits : Entry → Type 0
  EntryFits (initial_memory x v) = Value v
  EntryFits (initial_register p r v) = Value v
  EntryFits (instruction p i) = InstructionFits i

  steps-fit : (i : Instruction) → InstructionFits i → All (StepFits Value) (steps_of i)
  unfolding steps_of
  steps-fit (store_constant x v) h = (h, tt)
  steps-fit (store_register r x) h = ((h, tt), tt)
  steps-fit (load r x) h = (h, tt)
  steps-fit (set_register r v) h = (h, tt)
  steps-fit mfence h = (tt, tt)
  steps-fit (exchange r x) h = (h, ((h, tt), tt))
  steps-fit (locked_exchange r x) h = (tt, (h, ((h, tt), (tt, tt))))
  steps-fit (exchange_add r x) h = (h, ((h, tt), tt))
  steps-fit (locked_exchange_add r x) h = (tt, (h, ((h, tt), (tt, tt))))

  enter-fits : (s : Machine) (a : Entry) → MachineFits Value s → EntryFits a → MachineFits Value (enter s a)
  unfolding enter extended
  enter-fits s (initial_memory x v) f h = cell-fits Value s x v f h
  enter-fits s (initial_register p r v) f h = with-fits Value s p _ f (assigned-fits Value (processor s p) (processor s p).todo r v (f.each-one p) (f.each-one p).todo h)
  enter-fits s (instruction p i) f h =
      let P = f.each-one p in
      with-fits Value s p _ f
      (record { todo = all_append (StepFits Value) (processor s p).todo (steps_of i) P.todo (steps-fit i h); kept = P.kept; registers = P.registers; waiting = P.waiting })

  enter-all-fits : (es : List Entry) (s : Machine) → MachineFits Value s → All EntryFits es → MachineFits Value (enter_all s es)
  unfolding enter_all
  enter-all-fits [] s f h = f
  enter-all-fits (e ∷ es) s f h = enter-all-fits es (enter s e) (enter-fits s e f h.0) h.1

  -- ---- the entries of a readable table fit

  abbrev KindFits : Kind → Type 0
  KindFits k = (p r x v : ℕ) → x < locations → Value v → EntryFits (k.means p r x v)

  kinds-fit : All KindFits table_kinds
  unfolding table_kinds
  kinds-fit = (
    λ p r x v a b. b,
    (λ p r x v a b. b, (λ p r x v a b. b, (λ p r x v a b. (a, b), (here, (here, (λ p r x v a b. b, (λ p r x v a b. tt, (here, (here, (here, (here, tt))))))))))),
  )
    where
      here : (p r x v : ℕ) → x < locations → Value v → x < locations
      here p r x v a b = a

  entries_fit : (rs : List Record) → All (Proper table_uses) rs → All (λ r. Value r.value) rs → All EntryFits (map entry_of rs)
  unfolding entry_of
  entries_fit [] p s = tt
  entries_fit (r ∷ rs) p s = (
    all-at KindFits table_kinds _ r.kind kinds-fit (λ p r x v a b. b) r.processor r.register r.location r.value (proper-fields table_uses r p.0).2 s.0,
    entries_fit rs p.1 s.1,
  )

  -- ---- so the machine that it starts fits, if 0 does

  module _ (naught : Value 0) where
    zeros-fit : (n r : ℕ) → Value (get_or (replicate n 0) r 0)
    zeros-fit zero r = naught
    zeros-fit (suc n) zero = naught
    zeros-fit (suc n) (suc r) = zeros-fit n r

    empty-fits : MachineFits Value empty
    unfolding empty processor idle
    empty-fits = record {
      each-one = empty-at (Fits Value) (record { todo = tt; kept = naught; registers = zeros-fit 4; waiting = tt }) (record { todo = tt; kept = naught; registers = zeros-fit 0; waiting = tt });
      memory = zeros-fit 8;
    }

    pub table_fits : (table : List ℕ) (entries : List Entry) → ((i : ℕ) → Value (record_at table i).value) → Readable table entries → MachineFits Value (start entries)
    unfolding records start
    table_fits table entries h r =
        let t = readable-sound table entries r in
        let each = records-each (λ k. Value k.value) table h 0 (length table / record_size) in
        enter-all-fits entries empty empty-fits (subst (All EntryFits) (sym t.given) (entries_fit (records table) t.proper each))
