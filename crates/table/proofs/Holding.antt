-- Program and cells hold what the entries so far give: then the code's tests are the model's, and each record that passes them keeps it so.
use mathlib.Core.Path.{◌≡◌, refl, sym, ap, ◌∙◌}
use mathlib.Core.Bool.{Bool, true, false, cond, ◌||◌, or-false, or-true}
use mathlib.Core.Option.{some, none}
use mathlib.Core.List.{List, [], ◌∷◌, ◌++◌}
use Prim.Native.Nat.{ℕ, ◌+◌, ◌*◌, ◌<◌}
use native.Mathlib.Omega.{arith}
use lib.ListN.{length, get_or, length-set}
use lib.Dec.{eqb, leb}
use borrow.Author.Tests.{leb-false}
use Rattle.model.specs.declared.record.Record.{Record}
use Rattle.model.specs.declared.table.Cells.{Cells}
use Rattle.model.specs.Sizes.{processors, registers_each, instructions_each, locations}
use Rattle.model.specs.Program.{Instruction}
use Rattle.model.specs.Machine.{Machine}
use Rattle.model.specs.Kinds.{Entry, initial_memory, initial_register, instruction, table_uses, entry_of}
use Rattle.model.specs.Table.{instructions_of, empty, enter, enter_all, start}
use Rattle.model.specs.Tests.{first, unknown, too_large, not_zero}
use Rattle.model.specs.Reading.{any, is_instruction, gives_memory, gives_register, late, again, crowded, own_tests, table_tests}
use Rattle.model.specs.Code.{Columns, register_at, register_of, count_in, steps_from, processor_at_start, start_of, Fits, Sized}
use Rattle.model.proofs.Bools.{one}
use Rattle.model.proofs.Readable.{is_of}
use Rattle.model.proofs.Rows.{alike}
use Rattle.model.proofs.Roles.{by-entry}
use Rattle.table_record.specs.declared.given.Given.{Given}
use Rattle.table_record.specs.Given.{Formed, nothing_given, crowded_in, place_tests, noted_in}
use Rattle.table_record.proofs.Forms.{formed}
use Rattle.table_record.specs.Enter.{cells_with, with_instruction, program_with}
use Rattle.table.specs.Reads.{no_program, no_cells}
use Rattle.table.proofs.Entering.{memory-entered, register-entered, instruction-entered}
use Rattle.table.proofs.Fitting.{fits_more, count-up}
use Rattle.table.proofs.More.{any-more, instructions-more, start-more, flag_up, cells-apart}

pub record Holds (g : Columns) (c : Cells) (s : Given) (es : List Entry) : Type 0 where
  pub machine : start_of g c ≡ start es
  pub fits : Fits g
  pub sized : Sized c
  pub flagged : (length s.registers ≡ processors * registers_each) × (length s.memory ≡ locations)
  pub counts : (p : ℕ) → count_in g p ≡ instructions_of p es
  pub begun : s.instruction ≡ any is_instruction es
  pub memory : (x : ℕ) → get_or s.memory x false ≡ any (gives_memory x) es
  pub registers : (p r : ℕ) → p < processors → r < registers_each → get_or s.registers (register_at p r) false ≡ any (gives_register p r) es

-- ---- at first

pub fits-none : Fits no_program
fits-none = record {
  kinds = refl;
  registers = refl;
  locations = refl;
  values = refl;
  counts = refl;
  few = λ p. omega (arith, alike {A = ℕ} 0 processors p);
  each = λ p a h l. absurd (omega (arith, alike {A = ℕ} 0 processors p));
}

pub sized-none : Sized no_cells
sized-none = record { registers = refl; memory = refl }

pub holds-none : Holds no_program no_cells nothing_given []
unfolding start_of processor_at_start steps_from start enter_all empty any instructions_of
holds-none = record {
  machine = refl;
  fits = fits-none;
  sized = sized-none;
  flagged = (refl, refl);
  counts = λ p. alike {A = ℕ} 0 processors p;
  begun = refl;
  memory = λ x. alike false locations x;
  registers = λ p r k h. alike false (processors * registers_each) (register_at p r);
}

-- ---- the code's tests are the model's

module _ (g : Columns) (c : Cells) (s : Given) (es : List Entry) (h : Holds g c s es) where
  abbrev Agrees : Entry → Type 0
  Agrees e = first (place_tests s g e) ≡ cond (late es e) (some 5) (cond (again es e) (some 6) (cond (crowded es e) (some 7) none))

  place-agrees : (r : Record) → Formed r → Agrees (entry_of r)
  unfolding first late again crowded
  place-agrees r f =
      by-entry r Agrees f.known
      (λ j. cond (h.begun j) (some 5) (cond (h.memory r.location j) (some 6) none))
      (λ j. cond (h.begun j) (some 5) (cond (h.registers r.processor r.register f.processor f.register j) (some 6) none))
      (λ i e j. cond (leb instructions_each (h.counts r.processor j)) (some 7) none)

  pub tests_agree : (r : Record) → first (own_tests r ++ place_tests s g (entry_of r)) ≡ first (table_tests es r)
  unfolding first table_tests
  tests_agree r = go (unknown table_uses r) refl (too_large table_uses r) refl (not_zero table_uses r) refl
    where
      go : (a : Bool) → unknown table_uses r ≡ a → (b : Bool) → too_large table_uses r ≡ b → (d : Bool) → not_zero table_uses r ≡ d
          → cond a (some 2) (cond b (some 3) (cond d (some 4) (first (place_tests s g (entry_of r)))))
          ≡ cond a (some 2) (cond b (some 3) (cond d (some 4) (cond (late es (entry_of r)) (some 5) (cond (again es (entry_of r)) (some 6) (cond (crowded es (entry_of r)) (some 7) none)))))
      go true u b t d z = refl
      go false u true t d z = refl
      go false u false t true z = refl
      go false u false t false z = place-agrees r (formed r u t z)

-- ---- one record more

quiet : (f : Entry → Bool) (es : List Entry) (e : Entry) → f e ≡ false → any f es ≡ any f (es ++ (e ∷ []))
quiet f es e h = sym (any-more f es e ∙ ap (λ (b : Bool). any f es || b) h ∙ or-false (any f es))

uncounted : (p : ℕ) (es : List Entry) (e : Entry) → is_of p e ≡ false → instructions_of p es ≡ instructions_of p (es ++ (e ∷ []))
uncounted p es e h = let o : one (is_of p e) ≡ 0 = ap one h in omega (arith, instructions-more p es e)

step-on : (g h : Columns) (c d : Cells) (es : List Entry) (e : Entry) → start_of g c ≡ start es → start_of h d ≡ enter (start_of g c) e → start_of h d ≡ start (es ++ (e ∷ []))
step-on g h c d es e m n = n ∙ ap (λ (s : Machine). enter s e) m ∙ sym (start-more es e)

module _ (g : Columns) (c : Cells) (s : Given) (es : List Entry) (h : Holds g c s es) (r : Record) (f : Formed r) where
  -- after the entry e
  abbrev After : Entry → Type 0
  After e = Holds (program_with g r e) (cells_with c e) (noted_in s e) (es ++ (e ∷ []))

  on-memory : After (initial_memory r.location r.value)
  on-memory =
      let x = r.location in
      let e = initial_memory x r.value in
      let low = f.location in
      record {
        machine = step-on g g c (cells_with c e) es e h.machine (memory-entered g c x r.value);
        fits = h.fits;
        sized = record { registers = h.sized.registers; memory = length-set c.memory x r.value ∙ h.sized.memory };
        flagged = (h.flagged.0, length-set s.memory x true ∙ h.flagged.1);
        counts = λ p. h.counts p ∙ uncounted p es e refl;
        begun = h.begun ∙ quiet is_instruction es e refl;
        memory = λ y. flag_up s.memory x y (any (gives_memory y) es) (omega (arith, h.flagged.1)) (h.memory y) ∙ sym (any-more (gives_memory y) es e);
        registers = λ p q k l. h.registers p q k l ∙ quiet (gives_register p q) es e refl;
      }

  on-register : After (initial_register r.processor r.register r.value)
  on-register =
      let e = initial_register r.processor r.register r.value in
      let at = register_of r in
      let low : at < 16 = omega (arith, f.processor, f.register) in
      record {
        machine = step-on g g c (cells_with c e) es e h.machine (register-entered g c r f);
        fits = h.fits;
        sized = record { registers = length-set c.registers at r.value ∙ h.sized.registers; memory = h.sized.memory };
        flagged = (length-set s.registers at true ∙ h.flagged.0, h.flagged.1);
        counts = λ p. h.counts p ∙ uncounted p es e refl;
        begun = h.begun ∙ quiet is_instruction es e refl;
        memory = λ y. h.memory y ∙ quiet (gives_memory y) es e refl;
        registers = λ p q k l.
            flag_up s.registers at (register_at p q) (any (gives_register p q) es) (omega (arith, h.flagged.0)) (h.registers p q k l)
            ∙ ap (λ (b : Bool). any (gives_register p q) es || b) (cells-apart r.processor r.register p q f.register l)
            ∙ sym (any-more (gives_register p q) es e);
      }

  on-instruction : (i : Instruction) → entry_of r ≡ instruction r.processor i → count_in g r.processor < instructions_each → After (instruction r.processor i)
  on-instruction i q room =
      let e = instruction r.processor i in
      record {
        machine = step-on g (with_instruction g r) c c es e h.machine (instruction-entered g r f h.fits room c i q);
        fits = fits_more g r f h.fits room (ap is_instruction q);
        sized = h.sized;
        flagged = h.flagged;
        counts = λ p. count-up g r f h.fits room p ∙ ap (λ (n : ℕ). n + one (eqb r.processor p)) (h.counts p) ∙ sym (instructions-more p es e);
        begun = sym (any-more is_instruction es e ∙ or-true (any is_instruction es));
        memory = λ x. h.memory x ∙ quiet (gives_memory x) es e refl;
        registers = λ p t k l. h.registers p t k l ∙ quiet (gives_register p t) es e refl;
      }

  pub next-holds : crowded_in g (entry_of r) ≡ false → After (entry_of r)
  next-holds =
      by-entry r (λ e. crowded_in g e ≡ false → After e) f.known (λ u. on-memory) (λ u. on-register)
      (λ i e u. on-instruction i e (leb-false instructions_each (count_in g r.processor) u))
