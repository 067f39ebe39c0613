-- The kinds of records: the fields that each uses, and what a table record means (document 01, "Records").
use Rattle.std.specs.Prelude.{List, [], ◌∷◌, map, ℕ, length, get_or}
use Rattle.model.specs.declared.record.Record.{Record}
use Rattle.model.specs.Fields.{Field, processor, register, location, value}
use Rattle.model.specs.Program.{Instruction, store_constant, store_register, load, set_register, mfence, exchange, locked_exchange, exchange_add, locked_exchange_add}

-- ---- table records

pub data Entry : Type 0 where
  initial_memory : (x v : ℕ) → Entry
  initial_register : (p r v : ℕ) → Entry
  instruction : (p : ℕ) → Instruction → Entry

-- `means` takes the processor, register, location and value of a record
pub record Kind : Type 0 where
  pub uses : List Field
  pub means : (p r x v : ℕ) → Entry

abbrev kind : List Field → ((p r x v : ℕ) → Entry) → Kind
kind uses means = record { uses = uses; means = means }

-- 0 is no kind, and no record of it is ever entered
abbrev none : Kind
none = kind [] (λ p r x v. initial_memory x v)

unfoldable pub table_kinds : List Kind
table_kinds =
    none
    ∷ kind (location ∷ value ∷ []) (λ p r x v. initial_memory x v)  -- 1
    ∷ kind (processor ∷ register ∷ value ∷ []) (λ p r x v. initial_register p r v)  -- 2
    ∷ kind (processor ∷ location ∷ value ∷ []) (λ p r x v. instruction p (store_constant x v))  -- 3
    ∷ kind (processor ∷ register ∷ location ∷ []) (λ p r x v. instruction p (store_register r x))  -- 4
    ∷ kind (processor ∷ register ∷ location ∷ []) (λ p r x v. instruction p (load r x))  -- 5
    ∷ kind (processor ∷ register ∷ value ∷ []) (λ p r x v. instruction p (set_register r v))  -- 6
    ∷ kind (processor ∷ []) (λ p r x v. instruction p mfence)  -- 7
    ∷ kind (processor ∷ register ∷ location ∷ []) (λ p r x v. instruction p (exchange r x))  -- 8
    ∷ kind (processor ∷ register ∷ location ∷ []) (λ p r x v. instruction p (locked_exchange r x))  -- 9
    ∷ kind (processor ∷ register ∷ location ∷ []) (λ p r x v. instruction p (exchange_add r x))  -- 10
    ∷ kind (processor ∷ register ∷ location ∷ []) (λ p r x v. instruction p (locked_exchange_add r x))  -- 11
    ∷ []

unfoldable pub table_uses : List (List Field)
unfolding table_kinds
table_uses = map (λ (k : Kind). k.uses) table_kinds

-- how many rows these are
abbrev pub table_rows : ℕ
table_rows = length table_uses

unfoldable pub entry_of : Record → Entry
unfolding table_kinds
entry_of r = (get_or table_kinds r.kind none).means r.processor r.register r.location r.value

-- ---- trace records

unfoldable pub step_uses : List (List Field)
step_uses =
    []  -- 0 is no kind
    ∷ (processor ∷ location ∷ value ∷ [])  -- 1 read
    ∷ (processor ∷ location ∷ value ∷ [])  -- 2 write
    ∷ (processor ∷ location ∷ value ∷ [])  -- 3 drain
    ∷ (processor ∷ [])  -- 4 fence
    ∷ (processor ∷ [])  -- 5 lock
    ∷ (processor ∷ [])  -- 6 unlock
    ∷ (processor ∷ [])  -- 7 local
    ∷ []
