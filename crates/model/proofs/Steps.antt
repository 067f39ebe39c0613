-- `step` takes the steps that the rules allow, and turns the others down for the first condition that is met; a step has one result.
use mathlib.Core.Path.{◌≡◌, refl, sym, ap, ◌∙◌, subst}
use mathlib.Core.Logic.{◌↔◌}
use mathlib.Core.Bool.{Bool, true, false, cond}
use mathlib.Core.Option.{Option, none, some}
use mathlib.Core.List.{List, ◌∷◌}
use Prim.Native.Nat.{ℕ, ◌≤◌}
use native.Mathlib.Omega.{arith}
use lib.Dec.{eqb, lit≤}
use Rattle.model.specs.declared.origin.Origin.{Origin}
use Rattle.model.specs.declared.origin.Origin.TheVariants.{Memory, Waiting}
use Rattle.model.specs.declared.answer.Condition.{Condition}
use Rattle.model.specs.Fields.{Known}
use Rattle.model.specs.Kinds.{step_uses}
use Rattle.model.specs.Program.{ProgramStep, Source, write}
use Rattle.model.specs.Machine.{Machine, processor, cell, issued, received, with_processor}
use Rattle.model.specs.Rules.{Event, R, W, Right, of_read, of_write, of_drain, condition_number, conditions, FirstMet, Clear, Allowed, Read, Write, Drain, Fence, Lock, Unlock, Local, served, own_read}
use Rattle.model.specs.Step.{Move, drain_move, next_move, move_for, met, first_met, took, turned, stepped, after_move, step, origin_of, seen, served_own}
use Rattle.model.proofs.Sees.{sees-origin, sees-seen}
use Rattle.model.proofs.Answers.{one-condition}
use Rattle.model.proofs.Conditions.{none-clear, some_first, is_right}

pub took-inj : {s t : Machine} → took s ≡ took t → s ≡ t
took-inj {s} {t} h = cc

pub turned-took {ℓ} : {A : Type ℓ} {n : ℕ} {t : Machine} → turned n ≡ took t → A
turned-took {A} {n} {t} h = let z : ◌≡◌ {A = ℕ} 0 1 = cc in absurd (omega arith)

turned-inj : {n m : ℕ} → turned n ≡ turned m → n ≡ m
turned-inj {n} {m} h = cc

-- ---- what an allowed step is known to have

pub allowed-clear : (s : Machine) (e : Event) (t : Machine) → Allowed s e t → Clear s e
allowed-clear s e t (Read c h u) = c
allowed-clear s e t (Write c h) = c
allowed-clear s e t (Drain c h) = c
allowed-clear s e t (Fence c h) = c
allowed-clear s e t (Lock c h f) = c
allowed-clear s e t (Unlock c h f) = c
allowed-clear s e t (Local c h) = c

allowed-known : (s : Machine) (e : Event) (t : Machine) → Allowed s e t → Known step_uses e
unfolding step_uses
allowed-known s e t (Read c h u) = omega arith
allowed-known s e t (Write c h) = omega arith
allowed-known s e t (Drain c h) = omega arith
allowed-known s e t (Fence c h) = omega arith
allowed-known s e t (Lock c h f) = omega arith
allowed-known s e t (Unlock c h f) = omega arith
allowed-known s e t (Local c h) = omega arith

-- the value of a write that is right
right-issued : (s : Machine) (e : Event) → Right s e → e.kind ≡ 2 → {x : ℕ} {from : Source} {rest : List ProgramStep} → (processor s e.processor).todo ≡ write x from ∷ rest → issued (processor s e.processor) from ≡ e.value
right-issued s e (of_read h u) k g = absurd (omega arith)
right-issued s e (of_write {p} {from = from} h i) k {x} {from = f} {rest} g = let same : f ≡ from = let both = sym g ∙ h in cc in ap (issued (processor s p)) same ∙ i
right-issued s e (of_drain h) k g = absurd (omega arith)

pub write-issues : (s : Machine) (p x v : ℕ) {from : Source} {rest : List ProgramStep} → Clear s (W p x v) → (processor s p).todo ≡ write x from ∷ rest → issued (processor s p) from ≡ v
unfolding conditions
write-issues s p x v c h = right-issued s (W p x v) (is_right s (W p x v) (omega arith) c.1.0) refl h

-- ---- the move behind an allowed step

pub record Offered (s : Machine) (e : Event) (t : Machine) : Type 0 where
  pub move : Move
  pub asked : move_for s e ≡ some move
  pub event : move.event ≡ e
  pub after : move.after ≡ t

pub offered : (s : Machine) (e : Event) (t : Machine) → Allowed s e t → Offered s e t
unfolding move_for
offered s e t (Read {p} {x} {v} {to = to} {rest = rest} {from = from} c h u) =
    let v-seen : seen s p x ≡ v = sees-seen s p x v from u in
    record {
      move = _;
      asked = ap (next_move s p) h;
      event = ap (R p x) v-seen;
      after = ap (λ (u : ℕ). with_processor s p (received (processor s p) rest to u)) v-seen;
    }
offered s e t (Write {p} {x} {v} c h) = record { move = _; asked = ap (next_move s p) h; event = ap (W p x) (write-issues s p x v c h); after = refl }
offered s e t (Drain {p} c h) = record { move = _; asked = ap (drain_move s p) h; event = refl; after = refl }
offered s e t (Fence {p} c h) = record { move = _; asked = ap (next_move s p) h; event = refl; after = refl }
offered s e t (Lock {p} c h f) = record { move = _; asked = ap (next_move s p) h; event = refl; after = refl }
offered s e t (Unlock {p} c h f) = record { move = _; asked = ap (next_move s p) h; event = refl; after = refl }
offered s e t (Local {p} c h) = record { move = _; asked = ap (next_move s p) h; event = refl; after = refl }

pub allowed-step : (s : Machine) (e : Event) (t : Machine) → Allowed s e t → step s e ≡ took t
unfolding step after_move
allowed-step s e t a =
    let o = offered s e t a in
    (λ j. stepped ((none-clear s e (allowed-known s e t a)).1 (allowed-clear s e t a) j) (after_move s (o.asked j))) ∙ ap took o.after

-- whether its own buffer serves it
pub served-own : (s : Machine) (e : Event) (t : Machine) (a : Allowed s e t) → served_own s e ≡ own_read a
unfolding served_own origin_of own_read
served-own s e t (Read {p} {x} {v} {from = from} c h u) = ap served (sees-origin (processor s p).waiting x (cell s x) v from u)
served-own s e t (Write c h) = refl
served-own s e t (Drain c h) = refl
served-own s e t (Fence c h) = refl
served-own s e t (Lock c h f) = refl
served-own s e t (Unlock c h f) = refl
served-own s e t (Local c h) = refl

pub served-few : (s : Machine) (e : Event) → served_own s e ≤ 1
unfolding served_own
served-few s e = go (eqb e.kind 1) (origin_of s e.processor e.location)
  where
    go : (b : Bool) (o : Origin) → cond b (served o) 0 ≤ 1
    go true Memory = lit≤ tt
    go true (Waiting i) = lit≤ tt
    go false o = lit≤ tt

pub one-result : (s : Machine) (e : Event) (t u : Machine) → Allowed s e t → Allowed s e u → t ≡ u
one-result s e t u a b = took-inj (sym (allowed-step s e t a) ∙ allowed-step s e u b)

-- ---- a step that is turned down

-- with the number of the first condition that is met
pub turned-number : (s : Machine) (e : Event) → Known step_uses e → (n : ℕ) → step s e ≡ turned n → (c : Condition) × (condition_number c ≡ n) × FirstMet s e c (conditions e.kind)
unfolding step
turned-number s e k n h = go (first_met (met s e) (conditions e.kind)) refl h
  where
    go : (o : Option Condition) → first_met (met s e) (conditions e.kind) ≡ o → stepped o (after_move s (move_for s e)) ≡ turned n
        → (c : Condition) × (condition_number c ≡ n) × FirstMet s e c (conditions e.kind)
    go none f h = turned-took (sym h)
    go (some c) f h = (c, turned-inj h, (some_first s e k c).0 f)

pub turned-exactly : (s : Machine) (e : Event) → Known step_uses e → (c : Condition) → (step s e ≡ turned (condition_number c)) ↔ FirstMet s e c (conditions e.kind)
unfolding step
turned-exactly s e k c = (
  λ h. let t = turned-number s e k (condition_number c) h in subst (λ (d : Condition). FirstMet s e d (conditions e.kind)) (one-condition t.0 c t.1) t.2,
  λ f. ap (λ (o : Option Condition). stepped o (after_move s (move_for s e))) ((some_first s e k c).1 f),
)
