-- What the code does to program and cells is what the model does to its machine.
use mathlib.Core.Path.{◌≡◌, refl, ap, ◌∙◌}
use mathlib.Core.List.{[], ◌++◌}
use Prim.Native.Nat.{ℕ, suc, ◌+◌, ◌*◌, ◌<◌}
use native.Mathlib.Omega.{arith}
use native.Mathlib.Numerals.{add-one}
use lib.Seq.{get_or-set_same, get_or-set_other}
use Rattle.model.specs.declared.record.Record.{Record}
use Rattle.model.specs.declared.table.Cells.{Cells}
use Rattle.model.specs.Sizes.{processors, registers_each, instructions_each}
use Rattle.model.specs.Program.{Instruction}
use Rattle.model.specs.Machine.{Processor, free, idle, processor, assigned, with_processor, with_cell}
use Rattle.model.specs.Kinds.{Entry, initial_memory, initial_register, instruction, entry_of}
use Rattle.model.specs.Table.{extended, enter}
use Rattle.model.specs.Code.{Columns, row, count_in, steps_in, instruction_at, steps_from, processor_at_start, start_of, Fits}
use Rattle.model.proofs.Rows.{row-set, row-set-other, places-apart, four-get, four-set}
use Rattle.model.proofs.Columns.{steps-more, steps-same}
use Rattle.table_record.specs.Given.{Formed}
use Rattle.table_record.specs.Enter.{cells_with, with_instruction}

-- ---- one processor replaced

own : (g : Columns) (c : Cells) (p : ℕ) → p < processors → processor (start_of g c) p ≡ processor_at_start g c p
unfolding processor start_of
own g c p h = four-get (processor_at_start g c) idle p h

placed : (g h : Columns) (c d : Cells) (p : ℕ) (P : Processor) → p < processors → d.memory ≡ c.memory → processor_at_start h d p ≡ P
    → ((q : ℕ) → q < processors → ¬ (q ≡ p) → processor_at_start h d q ≡ processor_at_start g c q) → start_of h d ≡ with_processor (start_of g c) p P
unfolding start_of with_processor
placed g h c d p P l m e o = λ i. record { processors = four-set (processor_at_start g c) (processor_at_start h d) p P l e o i; memory = m i; holder = free }

-- ---- initial memory

pub memory-entered : (g : Columns) (c : Cells) (x v : ℕ) → start_of g (cells_with c (initial_memory x v)) ≡ enter (start_of g c) (initial_memory x v)
unfolding start_of processor_at_start enter with_cell
memory-entered g c x v = refl

-- ---- initial registers

pub register-entered : (g : Columns) (c : Cells) (r : Record) → Formed r
    → start_of g (cells_with c (initial_register r.processor r.register r.value)) ≡ enter (start_of g c) (initial_register r.processor r.register r.value)
unfolding enter assigned processor_at_start
register-entered g c r f =
    let p = r.processor in
    placed g g c (cells_with c (initial_register p r.register r.value)) p _ f.processor refl
    (rw (own g c p f.processor) (λ k. record {
      todo = steps_from g p 0 (count_in g p);
      kept = 0;
      registers = row-set registers_each p r.register r.value c.registers f.register k;
      waiting = [];
    }))
    (λ q l n k. record {
      todo = steps_from g q 0 (count_in g q);
      kept = 0;
      registers = row-set-other registers_each p q r.register r.value c.registers n f.register k;
      waiting = [];
    })

-- ---- instructions

module _ (g : Columns) (r : Record) (f : Formed r) (fits : Fits g) (room : count_in g r.processor < instructions_each) where
  abbrev p : ℕ
  p = r.processor

  abbrev n : ℕ
  n = count_in g p

  abbrev g' : Columns
  g' = with_instruction g r

  pub count-own : count_in g' p ≡ suc n
  count-own = get_or-set_same g.counts p (n + 1) 0 (omega (arith, fits.counts, f.processor)) ∙ add-one n

  pub count-other : (q : ℕ) → ¬ (q ≡ p) → count_in g' q ≡ count_in g q
  count-other q o = get_or-set_other g.counts p q (n + 1) 0 o

  -- the new instruction is r
  pub at_own : instruction_at g' p n ≡ r
  unfolding instruction_at
  at_own =
      let at : instructions_each * p + n < processors * instructions_each = omega (arith, f.processor, room) in
      λ i. record {
        kind = get_or-set_same g.kinds (instructions_each * p + n) r.kind 0 (omega (arith, fits.kinds)) i;
        processor = p;
        register = get_or-set_same g.registers (instructions_each * p + n) r.register 0 (omega (arith, fits.registers)) i;
        location = get_or-set_same g.locations (instructions_each * p + n) r.location 0 (omega (arith, fits.locations)) i;
        value = get_or-set_same g.values (instructions_each * p + n) r.value 0 (omega (arith, fits.values)) i;
      }

  -- all others are kept
  at_other : (q a : ℕ) → ¬ (instructions_each * q + a ≡ instructions_each * p + n) → instruction_at g' q a ≡ instruction_at g q a
  unfolding instruction_at
  at_other q a o = λ i. record {
    kind = get_or-set_other g.kinds (instructions_each * p + n) (instructions_each * q + a) r.kind 0 o i;
    processor = q;
    register = get_or-set_other g.registers (instructions_each * p + n) (instructions_each * q + a) r.register 0 o i;
    location = get_or-set_other g.locations (instructions_each * p + n) (instructions_each * q + a) r.location 0 o i;
    value = get_or-set_other g.values (instructions_each * p + n) (instructions_each * q + a) r.value 0 o i;
  }

  pub at_before : (a : ℕ) → a < n → instruction_at g' p a ≡ instruction_at g p a
  at_before a l = at_other p a (λ e. omega arith)

  pub at-elsewhere : (q a : ℕ) → ¬ (q ≡ p) → a < count_in g q → instruction_at g' q a ≡ instruction_at g q a
  at-elsewhere q a o l = at_other q a (places-apart instructions_each p q n a o room (omega (arith, fits.few q)))

  steps-own : steps_from g' p 0 (count_in g' p) ≡ steps_from g p 0 n ++ steps_in (entry_of r)
  steps-own =
      let z : 0 + n ≡ n = omega arith in
      ap (steps_from g' p 0) count-own ∙ steps-more g' p 0 n
      ∙ (λ i. steps-same g g' p 0 n (λ a l. at_before a (omega arith)) i ++ steps_in (entry_of ((ap (instruction_at g' p) z ∙ at_own) i)))

  steps-other : (q : ℕ) → ¬ (q ≡ p) → steps_from g' q 0 (count_in g' q) ≡ steps_from g q 0 (count_in g q)
  steps-other q o = ap (steps_from g' q 0) (count-other q o) ∙ steps-same g g' q 0 (count_in g q) (λ a l. at-elsewhere q a o (omega arith))

  pub instruction-entered : (c : Cells) (i : Instruction) → entry_of r ≡ instruction p i → start_of g' c ≡ enter (start_of g c) (instruction p i)
  unfolding enter extended processor_at_start steps_in
  instruction-entered c i e =
      placed g g' c c p _ f.processor refl
      (rw (own g c p f.processor) (λ k. record {
        todo = (steps-own ∙ ap (λ (a : Entry). steps_from g p 0 n ++ steps_in a) e) k;
        kept = 0;
        registers = row registers_each p c.registers;
        waiting = [];
      }))
      (λ q l o k. record { todo = steps-other q o k; kept = 0; registers = row registers_each q c.registers; waiting = [] })
