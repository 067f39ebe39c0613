-- A record tested and entered: by the tests that refuse it, or by its cell or its instruction.
use mathlib.Core.Path.{◌≡◌, refl, sym, ap, ◌∙◌}
use mathlib.Core.Bool.{Bool, true, false}
use mathlib.Core.List.{List}
use Prim.Native.Nat.{ℕ, ◌≤◌, ◌<◌}
use lib.ListN.{get_or, set}
use Rattle.std.proofs.lemmas.List.{set-get_or}
use borrow.Author.Tests.{le-leb, lt-leb}
use Rattle.std.specs.Prelude.{Ok, Err}
use Rattle.model.specs.declared.record.Record.{Record}
use Rattle.model.specs.declared.answer.Refusal.TheVariants.{InitialLate, CellTwice, Seventeenth}
use Rattle.model.specs.declared.answer.Refused.{Refused}
use Rattle.model.specs.declared.table.Cells.{Cells}
use Rattle.model.specs.Reply.{refusal_at}
use Rattle.model.specs.Sizes.{instructions_each}
use Rattle.model.specs.Program.{Instruction}
use Rattle.model.specs.Kinds.{Entry, initial_memory, initial_register, instruction, entry_of}
use Rattle.model.specs.Tests.{first}
use Rattle.model.specs.Reading.{is_instruction, own_tests}
use Rattle.model.specs.Code.{Columns, register_of, count_in, cells_of, Verdict, Gives}
use Rattle.model.proofs.Verdicts.{met, past, none_left, gives_none, then-others, stopped}
use Rattle.table_record.specs.declared.given.Given.{Given}
use Rattle.table_record.specs.Given.{Formed, flags, again_in, crowded_in, place_tests, noted_in}
use Rattle.table_record.specs.Enter.{cells_with, with_instruction, program_with, if_passed, GivesCell, EntersInstruction, EntersFormed, Enters}
use Rattle.table_record.proofs.Forms.{formed}

-- ---- a cell

module _ (cell : ℕ) (given begun : Bool) (i value : ℕ) where
  pub is-late : begun ≡ true → GivesCell cell given begun i value (Err (refusal_at InitialLate i)) cell given
  is-late b = record { gives = met InitialLate i begun begun _ refl b; cell_after = refl; given_after = refl }

  module _ (first : begun ≡ false) where
    pub is-again : given ≡ true → GivesCell cell given begun i value (Err (refusal_at CellTwice i)) cell given
    is-again t = record { gives = past _ 5 i begun begun _ refl first (met CellTwice i given _ _ refl t); cell_after = refl; given_after = refl }

    pub is-given : given ≡ false → GivesCell cell given begun i value (Ok tt) value true
    is-given t = record { gives = past _ 5 i begun begun _ refl first (past _ 6 i given _ _ refl t (none_left i)); cell_after = refl; given_after = refl }

-- ---- an instruction

module _ (g : Columns) (begun : Bool) (i : ℕ) (r : Record) where
  pub is-crowded : instructions_each ≤ count_in g r.processor → EntersInstruction instructions_each g begun i r (Err (refusal_at Seventeenth i)) g begun
  is-crowded l = record { gives = met Seventeenth i _ _ _ refl (le-leb _ _ l); program = refl; begins = refl }

  pub is-entered : count_in g r.processor < instructions_each → EntersInstruction instructions_each g begun i r (Ok tt) (with_instruction g r) true
  is-entered l = record { gives = past _ 7 i _ _ _ refl (lt-leb _ _ l) (none_left i); program = refl; begins = refl }

-- ---- a record that has passed tests 2, 3, 4

-- what a verdict leaves, seen through f
through : {A B : Type 0} (f : A → B) (v : Verdict) (new old : A) {x : A} → x ≡ if_passed v new old → f x ≡ if_passed v (f new) (f old)
through f (Ok u) new old h = ap f h
through f (Err r) new old h = ap f h

-- place k of xs becomes what the verdict leaves of it
placed : {A : Type 0} (d : A) (v : Verdict) (new : A) (xs : List A) (k : ℕ) {x : A} → x ≡ if_passed v new (get_or xs k d) → set xs k x ≡ if_passed v (set xs k new) xs
placed d (Ok u) new xs k h = ap (set xs k) h
placed d (Err r) new xs k h = ap (set xs k) h ∙ set-get_or xs k d

-- whatever the verdict, it is the same
kept : {A : Type 0} (v : Verdict) (a : A) → a ≡ if_passed v a a
kept (Ok u) a = refl
kept (Err r) a = refl

module _ (g : Columns) (c : Cells) (s : Given) (i : ℕ) (r : Record) where
  module _ (v : Verdict) (cell : ℕ) (given : Bool) where
    pub by-memory : entry_of r ≡ initial_memory r.location r.value
        → GivesCell (get_or c.memory r.location 0) (get_or s.memory r.location false) s.instruction i r.value v cell given
        → EntersFormed g c s i r v g (cells_of c.registers (set c.memory r.location cell)) (flags s.registers (set s.memory r.location given) s.instruction)
    unfolding first
    by-memory is h = rw is (record {
      gives = record { says = h.gives.says };
      program = kept v g;
      cells = through (cells_of c.registers) v _ _ (placed 0 v r.value c.memory r.location h.cell_after);
      given = through (λ (l : List Bool). flags s.registers l s.instruction) v _ _ (placed false v true s.memory r.location h.given_after);
    })

    pub by_register : entry_of r ≡ initial_register r.processor r.register r.value
        → GivesCell (get_or c.registers (register_of r) 0) (get_or s.registers (register_of r) false) s.instruction i r.value v cell given
        → EntersFormed g c s i r v g (cells_of (set c.registers (register_of r) cell) c.memory) (flags (set s.registers (register_of r) given) s.memory s.instruction)
    unfolding first
    by_register is h = rw is (record {
      gives = record { says = h.gives.says };
      program = kept v g;
      cells = through (λ (l : List ℕ). cells_of l c.memory) v _ _ (placed 0 v r.value c.registers (register_of r) h.cell_after);
      given = through (λ (l : List Bool). flags l s.memory s.instruction) v _ _ (placed false v true s.registers (register_of r) h.given_after);
    })

  pub by-instruction : (j : Instruction) → entry_of r ≡ instruction r.processor j → (v : Verdict) (h : Columns) (then : Bool)
      → EntersInstruction instructions_each g s.instruction i r v h then → EntersFormed g c s i r v h c (flags s.registers s.memory then)
  unfolding first
  by-instruction j e v h then m = rw e (record {
    gives = record { says = m.gives.says };
    program = m.program;
    cells = kept v c;
    given = through (flags s.registers s.memory) v _ _ m.begins;
  })

-- ---- any record

pub is-formed : (i : ℕ) (r : Record) (own : Verdict) → Gives own (own_tests r) i → own ≡ Ok tt → Formed r
is-formed i r own told e = let n = gives_none own (own_tests r) i told e in formed r n.0 n.1.0 n.1.1.0

module _ (g : Columns) (c : Cells) (s : Given) (i : ℕ) (r : Record) (own : Verdict) (told : Gives own (own_tests r) i) where
  pub is-malformed : (q : Refused) → own ≡ Err q → Enters g c s i r (Err q) g c s
  is-malformed q e = record { gives = stopped own (own_tests r) (place_tests s g (entry_of r)) q i told e; program = refl; cells = refl; given = refl }

  pub then-entered : own ≡ Ok tt → (v : Verdict) (h : Columns) (d : Cells) (t : Given) → EntersFormed g c s i r v h d t → Enters g c s i r v h d t
  then-entered e v h d t m = record {
    gives = then-others own v (own_tests r) (place_tests s g (entry_of r)) i told e m.gives;
    program = m.program;
    cells = m.cells;
    given = m.given;
  }
