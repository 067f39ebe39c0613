-- Tests in turn, as functions: the first condition that is met gives its number.
use Rattle.std.specs.Prelude.{Bool, cond, not, ◌&&◌, ◌||◌, List, [], ◌∷◌, ℕ, suc, ◌/◌, ◌%◌, length, eqb, leb}
use Rattle.std.proofs.Math.Option.{Option, none, some}
use Rattle.model.specs.declared.record.Record.{Record}
use Rattle.model.specs.Sizes.{processors, registers_each, locations, record_size}
use Rattle.model.specs.Record.{records}
use Rattle.model.specs.Fields.{Field, processor, register, location, value, used}

-- ---- tests

-- a number, and the condition under which it is given
pub record Test : Type 0 where
  pub number : ℕ
  pub condition : Bool

abbrev pub test : ℕ → Bool → Test
test n c = record { number = n; condition = c }

-- the number of the first condition that is met
unfoldable pub first : List Test → Option ℕ
first [] = none
first (t ∷ ts) = cond t.condition (some t.number) (first ts)

-- ---- the fields of a record

unfoldable pub unknown : List (List Field) → Record → Bool
unknown uses r = eqb r.kind 0 || leb (length uses) r.kind

unfoldable pub too_large : List (List Field) → Record → Bool
unfolding used
too_large uses r =
    (used uses r processor && leb processors r.processor) || (used uses r register && leb registers_each r.register)
    || (used uses r location && leb locations r.location)

unfoldable pub not_zero : List (List Field) → Record → Bool
unfolding used
not_zero uses r =
    (not (used uses r processor) && not (eqb r.processor 0)) || (not (used uses r register) && not (eqb r.register 0))
    || (not (used uses r location) && not (eqb r.location 0)) || (not (used uses r value) && not (eqb r.value 0))

-- ---- one thing after another

-- what is tested passes, and gives something to go on with, or is refused
pub data Tested (A : Type 0) : Type 0 where
  passed : A → Tested A
  refused : (number place : ℕ) → Tested A

unfoldable pub and_then : {A B : Type 0} → Tested A → (A → Tested B) → Tested B
and_then (passed a) f = f a
and_then (refused n i) f = refused n i

-- refused with a number at place i or, with none, t
unfoldable pub unless : {A : Type 0} → Option ℕ → ℕ → Tested A → Tested A
unless none i t = t
unless (some n) i t = refused n i

-- records in file order, the first at place i: f tests each on what those before it gave
unfoldable pub in_order : {A : Type 0} → (ℕ → A → Record → Tested A) → ℕ → A → List Record → Tested A
unfolding and_then
in_order f i a [] = passed a
in_order f i a (r ∷ rs) = and_then (f i a r) (λ b. in_order f (suc i) b rs)

-- a whole file: n is the number for a length that is no multiple of 8
unfoldable pub in_file : {A : Type 0} → ℕ → (ℕ → A → Record → Tested A) → A → List ℕ → Tested A
unfolding in_order records
in_file n f a bytes = cond (eqb (length bytes % record_size) 0) (in_order f 0 a (records bytes)) (refused n (length bytes / record_size))
