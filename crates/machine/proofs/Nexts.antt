-- The step that the code takes is the one that the instruction comes to, kind by kind.
use mathlib.Core.Path.{◌≡◌, refl, sym, ap, ◌∙◌}
use mathlib.Core.Bool.{Bool, true, cond, not, ◌&&◌}
use Prim.Native.Nat.{ℕ}
use lib.ListN.{get_or}
use lib.Dec.{eqb}
use borrow.Author.Tests.{eq-eqb}
use Rattle.std.specs.Prelude.{Option, Some, Ok, Err}
use Rattle.model.specs.declared.answer.Condition.{Condition}
use Rattle.model.specs.declared.answer.Condition.TheVariants.{AnotherKind, NothingWaits, LockHeld, BufferNotEmpty, NotRight}
use Rattle.model.specs.declared.record.Record.{Record}
use Rattle.model.specs.Fields.{Proper}
use Rattle.model.specs.Kinds.{step_uses}
use Rattle.model.specs.Rules.{Event, event, conditions}
use Rattle.model.specs.Code.{Attempt, register_of, acts_of, taken, judged}
use Rattle.model.specs.Step.{same, seen_in, first_met}
use Rattle.model.proofs.Bools.{self}
use Rattle.machine_rules.specs.Guards.{nobody}
use Rattle.machine_rules.specs.Offers.{next_in}
use Rattle.machine_state.specs.State.{State}
use Rattle.machine_store.specs.Stores.{assigned_in, held_in}
use Rattle.machine_take.specs.Takes.{names, met_in, attempted, Writes, Holds, Assigns}
use Rattle.machine_read.specs.Reads.{waits_in, Reads}
use Rattle.machine.specs.Arrays.{next_of}
use Rattle.machine.specs.View.{waiting_in}
use Rattle.machine.specs.Stores.{carried_out}
use Rattle.machine.specs.Next.{met_of, attempted_of, TakesNext}
use Rattle.model.proofs.Events.{no_register, Bare}

-- an event of kind k and processor p, without a register
pub same_names : (e : Event) (k p y w : ℕ) → e.kind ≡ k → e.processor ≡ p → e.register ≡ 0 → names e y w ≡ same e (event k p y w)
unfolding same
same_names e k p y w ek ep er = rw (ek, ep, er, self k, self p)

module _ (m : State) (i e : Record) (r : Attempt) (n : State) (proper : Proper step_uses e) (whose : i.processor ≡ e.processor) where
  abbrev p : ℕ
  p = i.processor

  -- the conditions: the step's kind is the next one; `right` says whether location and value are
  tested : (k y w : ℕ) → e.kind ≡ k → event k p y w ≡ next_of m i k → (right : Bool) → right ≡ names e y w → r ≡ attempted k m p right → r ≡ attempted_of m i (next_of m i e.kind) e
  tested k y w z next right names f =
      f ∙ (λ j. judged (first_met (λ c. met c j) (conditions k))) ∙ (λ j. judged (first_met (met_of m i (next j) e) (conditions k))) ∙ (λ j. judged (first_met (met_of m i (next_of m i (sym z j)) e) (conditions (sym z j))))
    where
      met : (c : Condition) → met_in m p right c ≡ met_of m i (event k p y w) e c
      met AnotherKind = sym (ap not (eq-eqb e.kind k z))
      met NothingWaits = refl
      met LockHeld = refl
      met BufferNotEmpty = refl
      met NotRight = ap not (names ∙ same_names e k p y w z (sym whose) (no_register e proper))

  -- a step of this kind names no location and no value
  bare : (k : ℕ) → e.kind ≡ k → Bare e → event k p 0 0 ≡ next_of m i k → r ≡ attempted k m p true → r ≡ attempted_of m i (next_of m i e.kind) e
  bare k z b next = tested k 0 0 z next true (sym (λ j. eqb (b.location j) 0 && eqb (b.value j) 0))

  -- what is stored
  stored-as : (full : State) → n ≡ cond (taken r) full m → full ≡ carried_out m i e → n ≡ cond (taken r) (carried_out m i e) m
  stored-as full f g = f ∙ ap (λ (w : State). cond (taken r) w m) g

  pub read_next : e.kind ≡ 1 → Reads m i e r n → TakesNext m i e r n
  unfolding next_in carried_out waiting_in
  read_next z t = record {
    says = tested 1 i.location (seen_in (waits_in m p) i.location (get_or m.memory i.location 0)) z refl _ refl t.says;
    after = stored-as _ t.after (rw z);
  }

  pub write-next : e.kind ≡ 2 → Writes m i e r n → TakesNext m i e r n
  unfolding next_in carried_out
  write-next z t = record {
    says = tested 2 i.location ((acts_of i.kind).issues i.value (get_or m.kept p 0) (get_or m.registers (register_of i) 0)) z refl _ refl t.says;
    after = stored-as _ t.after (rw z);
  }

  pub local-next : e.kind ≡ 7 → Bare e → Assigns m i r n → TakesNext m i e r n
  unfolding next_in carried_out first_met conditions
  local-next z b t = record {
    says = bare 7 z b refl t.says;
    after = t.after ∙ local ∙ sym (ap (λ (a : Attempt). cond (taken a) (carried_out m i e) m) t.says);
  }
    where
      local : assigned_in m i i.value ≡ carried_out m i e
      local = rw z

  pub fence-next : e.kind ≡ 4 → Bare e → r ≡ attempted 4 m p true → n ≡ m → TakesNext m i e r n
  unfolding next_in carried_out
  fence-next z b t f = record { says = bare 4 z b refl t; after = stored-as m (f ∙ go r) (rw z) }
    where
      go : (a : Attempt) → m ≡ cond (taken a) m m
      go (Ok u) = refl
      go (Err c) = refl

  -- the holder afterwards is `holder`
  held : (k : ℕ) (holder : Option ℕ) → e.kind ≡ k → Bare e → event k p 0 0 ≡ next_of m i k → held_in m holder ≡ carried_out m i e → Holds k holder m p r n
      → TakesNext m i e r n
  held k holder z b next f t = record { says = bare k z b next t.says; after = stored-as _ t.after f }

  pub lock-next : e.kind ≡ 5 → Bare e → Holds 5 (Some p) m p r n → TakesNext m i e r n
  unfolding next_in carried_out
  lock-next z b = held 5 (Some p) z b refl (rw z)

  pub unlock-next : e.kind ≡ 6 → Bare e → Holds 6 nobody m p r n → TakesNext m i e r n
  unfolding next_in carried_out
  unlock-next z b = held 6 nobody z b refl (rw z)
