-- What attempting a step of each kind promises: whether the step is taken, or why not, and what is stored if it is.
-- i is the instruction that its processor stands at, e the event; from the state m to the state n.
use Rattle.std.specs.Prelude.{◌≡◌, Bool, true, false, cond, not, ◌&&◌, ℕ, ◌<◌, get_or, eqb, Option, Ok}
use Rattle.model.specs.declared.answer.Condition.{Condition}
use Rattle.model.specs.declared.answer.Condition.TheVariants.{AnotherKind, NothingWaits, LockHeld, BufferNotEmpty, NotRight}
use Rattle.model.specs.Code.{register_of, acts_of, Attempt, taken, judged}
use Rattle.model.specs.declared.record.Record.{Record}
use Rattle.model.specs.Rules.{conditions}
use Rattle.model.specs.Step.{first_met}
use Rattle.machine_rules.specs.Guards.{blocked_in}
use Rattle.machine_rules.specs.Offers.{Log}
use Rattle.machine_state.specs.State.{State}
use Rattle.machine_store.specs.Stores.{assigned_in, wrote_in, held_in, Own, Issuable}

-- the event names location y and value w
abbrev pub names : Record → ℕ → ℕ → Bool
names e y w = eqb e.location y && eqb e.value w

abbrev pub empty_in : State → ℕ → Bool
empty_in m p = eqb (get_or m.drained p 0) (get_or m.issued p 0)

-- whether a condition is met for a drain of processor p, or for a program step of its whose kind is the next one; `right` says whether location and value are
abbrev pub met_in : State → ℕ → Bool → Condition → Bool
met_in m p right AnotherKind = false
met_in m p right NothingWaits = empty_in m p
met_in m p right LockHeld = blocked_in m.holder p
met_in m p right BufferNotEmpty = not (empty_in m p)
met_in m p right NotRight = not right

-- what an attempt of a step of this kind comes to
abbrev pub attempted : ℕ → State → ℕ → Bool → Attempt
attempted kind m p right = judged (first_met (met_in m p right) (conditions kind))

abbrev pub LogOf : State → ℕ → Type 0
LogOf m p = Log m.locations m.values (get_or m.issued p 0) (get_or m.drained p 0) p

-- ---- write

abbrev pub write_right : State → Record → Record → Bool
write_right m i e = names e i.location ((acts_of i.kind).issues i.value (get_or m.kept i.processor 0) (get_or m.registers (register_of i) 0))

pub record Writes (m : State) (i e : Record) (r : Attempt) (n : State) : Type 0 where
  pub says : r ≡ attempted 2 m i.processor (write_right m i e)
  pub after : n ≡ cond (taken r) (wrote_in m i e) m

pub record MayWrite (m : State) (i : Record) : Type 0 where
  pub own : Own i
  pub issuable : Issuable m i.processor

-- ---- lock, unlock, local: location and value are not used

-- of processor p; `kind` is that of the step, `holder` who holds the lock if it is taken
pub record Holds (kind : ℕ) (holder : Option ℕ) (m : State) (p : ℕ) (r : Attempt) (n : State) : Type 0 where
  pub says : r ≡ attempted kind m p true
  pub after : n ≡ cond (taken r) (held_in m holder) m

pub record Assigns (m : State) (i : Record) (r : Attempt) (n : State) : Type 0 where
  pub says : r ≡ Ok tt
  pub after : n ≡ assigned_in m i i.value
