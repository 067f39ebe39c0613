-- What the code's types stand for: verdicts, attempted steps, programs in columns, cells. Only contracts inside the repository speak of them.
use Rattle.std.specs.Prelude.{◌≡◌, Bool, true, false, List, [], ◌∷◌, ◌++◌, map, ℕ, zero, suc, ◌+◌, ◌*◌, ◌%◌, ◌≤◌, ◌<◌, length, get_or, Result, Ok, Err}
use Rattle.std.proofs.Math.Option.{Option, none, some}
use Rattle.std.proofs.Math.Seq.{slice}
use Rattle.model.specs.declared.record.Record.{Record}
use Rattle.model.specs.declared.kind.Role.{Role}
use Rattle.model.specs.declared.kind.Role.TheVariants.{Unknown, InitialMemory, InitialRegister, StoreConstant, StoreRegister, Load, SetRegister, Fence, Exchange, ExchangeAdd}
use Rattle.model.specs.declared.answer.Condition.{Condition}
use Rattle.model.specs.declared.answer.Refused.{Refused}
use Rattle.model.specs.declared.table.Cells.{Cells}
use Rattle.model.specs.declared.table.Program.{Program}
use Rattle.model.specs.Sizes as sizes
use Rattle.model.specs.Sizes.{processors, registers_each, locations, instructions_each}
use Rattle.model.specs.Program.{ProgramStep, steps_of, store_constant, store_register, load, set_register, mfence, exchange, locked_exchange, exchange_add, locked_exchange_add}
use Rattle.model.specs.Kinds.{Entry, initial_memory, initial_register, instruction, Kind, table_kinds, table_rows, entry_of}
use Rattle.model.specs.Reading.{is_instruction}
use Rattle.model.specs.Machine.{Processor, Machine, free}
use Rattle.model.specs.Reply.{number_of}
use Rattle.model.specs.Rules.{condition_number}
use Rattle.model.specs.Step.{Stepped, took, turned}
use Rattle.model.specs.Tests.{Test, first, Tested, passed, refused, unless}

-- ---- verdicts

abbrev pub Verdict : Type 0
Verdict = Result (Unit {0}) Refused

-- with what there is to go on with if it passed
abbrev pub tested_of : {A : Type 0} → Verdict → A → Tested A
tested_of (Ok u) a = passed a
tested_of (Err r) a = refused (number_of r.why) r.place

-- v is what these tests give at place i
pub record Gives (v : Verdict) (tests : List Test) (i : ℕ) : Type 0 where
  pub says : tested_of {A = Unit {0}} v tt ≡ unless (first tests) i (passed tt)

-- ---- attempted steps

abbrev pub Attempt : Type 0
Attempt = Result (Unit {0}) Condition

abbrev pub taken : Attempt → Bool
taken (Ok u) = true
taken (Err c) = false

-- a step is turned down for a condition of its rule or, with none, taken
abbrev pub judged : Option Condition → Attempt
judged none = Ok tt
judged (some c) = Err c

-- an attempt, with the machine that there is to go on with if it is taken
abbrev pub stepped_of : Attempt → Machine → Stepped
stepped_of (Ok u) t = took t
stepped_of (Err c) t = turned (condition_number c)

-- ---- roles

-- what an entry is
abbrev pub role_in : Entry → Role
role_in (initial_memory x v) = InitialMemory
role_in (initial_register p r v) = InitialRegister
role_in (instruction p (store_constant x v)) = StoreConstant
role_in (instruction p (store_register r x)) = StoreRegister
role_in (instruction p (load r x)) = Load
role_in (instruction p (set_register r v)) = SetRegister
role_in (instruction p mfence) = Fence
role_in (instruction p (exchange r x)) = Exchange
role_in (instruction p (locked_exchange r x)) = Exchange
role_in (instruction p (exchange_add r x)) = ExchangeAdd
role_in (instruction p (locked_exchange_add r x)) = ExchangeAdd

-- what a record of kind k is, whatever its fields
unfoldable pub role_of : ℕ → Role
unfolding table_kinds
role_of zero = Unknown
role_of (suc k) = get_or (map (λ (row : Kind). role_in (row.means 0 0 0 0)) table_kinds) (suc k) Unknown

-- what its read and its write do
pub record Acts : Type 0 where
  pub loads : Bool  -- the read goes into the register; otherwise it is kept aside
  pub exchanges : Bool  -- with the write the register takes the kept value
  pub issues : (constant kept register : ℕ) → ℕ

abbrev acting : Bool → Bool → ((constant kept register : ℕ) → ℕ) → Acts
acting loads exchanges issues = record { loads = loads; exchanges = exchanges; issues = issues }

abbrev pub acts : Role → Acts
acts Unknown = acting false false (λ c k r. r)
acts InitialMemory = acting false false (λ c k r. r)
acts InitialRegister = acting false false (λ c k r. r)
acts StoreConstant = acting false false (λ c k r. c)
acts StoreRegister = acting false false (λ c k r. r)
acts Load = acting true false (λ c k r. r)
acts SetRegister = acting false false (λ c k r. r)
acts Fence = acting false false (λ c k r. r)
acts Exchange = acting false true (λ c k r. r)
acts ExchangeAdd = acting false true (λ c k r. (k + r) % sizes.values)

abbrev pub acts_of : ℕ → Acts
acts_of kind = acts (role_of kind)

-- ---- arrays

-- row p of an array whose rows are w wide
abbrev pub row : ℕ → ℕ → List ℕ → List ℕ
row w p xs = slice (w * p) (w * p + w) xs

-- register r of processor p, among all registers
abbrev pub register_at : ℕ → ℕ → ℕ
register_at p r = registers_each * p + r

-- the register of a record
abbrev pub register_of : Record → ℕ
register_of r = register_at r.processor r.register

-- place n of processor p, in an array that has room for all instructions
abbrev pub place_at : ℕ → ℕ → ℕ
place_at p n = instructions_each * p + n

-- what stands where no value has been entered or issued
abbrev pub unread : ℕ
unread = 1

-- one for each processor
abbrev pub four : {A : Type 0} → (ℕ → A) → List A
four f = f 0 ∷ f 1 ∷ f 2 ∷ f 3 ∷ []

-- ---- programs

-- in columns, one of each field of the instructions' records; and how many instructions each processor has
abbrev pub Columns : Type 0
Columns = Program

abbrev pub columns : (kinds registers locations values counts : List ℕ) → Columns
columns kinds registers locations values counts = record { kinds = kinds; registers = registers; locations = locations; values = values; counts = counts }

-- an entry that is no instruction has no program steps
unfoldable pub steps_in : Entry → List ProgramStep
unfolding steps_of
steps_in (initial_memory x v) = []
steps_in (initial_register p r v) = []
steps_in (instruction p i) = steps_of i

-- an instruction of processor p
abbrev pub instruction_of : (kind p register location value : ℕ) → Record
instruction_of kind p register location value = record { kind = kind; processor = p; register = register; location = location; value = value }

-- instruction a of processor p, as its table record gave it
unfoldable pub instruction_at : Columns → ℕ → ℕ → Record
instruction_at g p a = let at = place_at p a in instruction_of (get_or g.kinds at 0) p (get_or g.registers at 0) (get_or g.locations at 0) (get_or g.values at 0)

-- the program steps of n instructions of processor p, from instruction a on
unfoldable pub steps_from : Columns → ℕ → ℕ → ℕ → List ProgramStep
unfolding steps_in instruction_at entry_of
steps_from g p a zero = []
steps_from g p a (suc n) = steps_in (entry_of (instruction_at g p a)) ++ steps_from g p (suc a) n

-- how many instructions processor p has
abbrev pub count_in : Columns → ℕ → ℕ
count_in g p = get_or g.counts p 0

-- ---- the machine at the start

unfoldable pub processor_at_start : Columns → Cells → ℕ → Processor
unfolding steps_from
processor_at_start g c p = record { todo = steps_from g p 0 (count_in g p); kept = 0; registers = row registers_each p c.registers; waiting = [] }

unfoldable pub start_of : Columns → Cells → Machine
unfolding processor_at_start
start_of g c = record { processors = four (processor_at_start g c); memory = c.memory; holder = free }

-- ---- what holds of every program and of all cells that a table gives

-- an instruction's record: its fields are in range
pub record Fit (r : Record) : Type 0 where
  pub kind : r.kind < table_rows
  pub instruction : is_instruction (entry_of r) ≡ true
  pub register : r.register < registers_each
  pub location : r.location < locations

pub record Fits (g : Columns) : Type 0 where
  pub kinds : length g.kinds ≡ processors * instructions_each
  pub registers : length g.registers ≡ processors * instructions_each
  pub locations : length g.locations ≡ processors * instructions_each
  pub values : length g.values ≡ processors * instructions_each
  pub counts : length g.counts ≡ processors
  pub few : (p : ℕ) → count_in g p ≤ instructions_each
  pub each : (p a : ℕ) → p < processors → a < count_in g p → Fit (instruction_at g p a)

abbrev pub cells_of : (registers memory : List ℕ) → Cells
cells_of registers memory = record { registers = registers; memory = memory }

pub record Sized (c : Cells) : Type 0 where
  pub registers : length c.registers ≡ processors * registers_each
  pub memory : length c.memory ≡ locations
