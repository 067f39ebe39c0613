-- The tests of the rules decide the five conditions, so the first that is met is found.
use mathlib.Core.Path.{◌≡◌, refl, sym, ap, ◌∙◌, subst}
use mathlib.Core.Logic.{◌↔◌}
use mathlib.Core.Bool.{Bool, true, false, cond, not}
use mathlib.Core.Option.{none, some}
use mathlib.Core.List.{List, [], ◌∷◌, nil≢cons}
use Prim.Native.Nat.{ℕ, ◌<◌}
use native.Mathlib.Omega.{arith}
use lib.Dec.{eqb}
use borrow.Author.Tests.{eqb-false, ne_eqb, not-true, not-false}
use Rattle.model.specs.declared.answer.Condition.{Condition}
use Rattle.model.specs.declared.answer.Condition.TheVariants.{AnotherKind, NothingWaits, LockHeld, BufferNotEmpty, NotRight}
use Rattle.model.specs.Lists.{All}
use Rattle.model.specs.Fields.{Known}
use Rattle.model.specs.Kinds.{step_uses}
use Rattle.model.specs.Program.{ProgramStep, read, write, fence, lock, unlock, local}
use Rattle.model.specs.Machine.{Machine, WaitingWrite, processor}
use Rattle.model.specs.Rules.{Event, R, W, D, kind_of, Right, of_read, of_write, of_drain, Met, conditions, FirstMet, here, later, Clear}
use Rattle.model.specs.Step.{is_empty, same, drain_move, next_move, move_for, is_so, met, first_met}
use Rattle.model.proofs.Tests.{some_inj, none-some}
use Rattle.model.proofs.Bools.{false-true, fails, failed, unless-so, same_true, same_refl, blocked-test, empty-test}
use Rattle.model.proofs.Sees.{seen-sees, sees-seen}
use Rattle.model.proofs.Rows.{below}

-- ---- the first of some conditions, each decided by a test

pub unmet : (f : Condition → Bool) (cs : List Condition) → first_met f cs ≡ none → All (λ c. f c ≡ false) cs
unfolding first_met
unmet f [] h = tt
unmet f (c ∷ cs) h = go (f c) refl h (unmet f cs)
  where
    go : (b : Bool) → f c ≡ b → cond b (some c) (first_met f cs) ≡ none → (first_met f cs ≡ none → All (λ c. f c ≡ false) cs) → All (λ c. f c ≡ false) (c ∷ cs)
    go true t j ih = none-some (sym j)
    go false t j ih = (t, ih j)

module _ (s : Machine) (e : Event) (f : Condition → Bool) where
  abbrev Decides : Condition → Type 0
  Decides c = (f c ≡ true) ↔ Met c s e

  clear_of : (cs : List Condition) → All Decides cs → All (λ c. f c ≡ false) cs → All (λ c. ¬ Met c s e) cs
  clear_of [] d u = tt
  clear_of (c ∷ cs) d u = (failed (f c) d.0 u.0, clear_of cs d.1 u.1)

  clear_none : (cs : List Condition) → All Decides cs → All (λ c. ¬ Met c s e) cs → first_met f cs ≡ none
  unfolding first_met
  clear_none [] d n = refl
  clear_none (c ∷ cs) d n = rw (fails (f c) d.0 n.0) (clear_none cs d.1 n.1)

  first-sound : (cs : List Condition) → All Decides cs → (c : Condition) → first_met f cs ≡ some c → FirstMet s e c cs
  unfolding first_met
  first-sound [] d c h = none-some h
  first-sound (b ∷ cs) d c h = go (f b) refl h (first-sound cs d.1 c)
    where
      go : (t : Bool) → f b ≡ t → cond t (some b) (first_met f cs) ≡ some c → (first_met f cs ≡ some c → FirstMet s e c cs) → FirstMet s e c (b ∷ cs)
      go true t j ih = subst (λ (a : Condition). FirstMet s e a (b ∷ cs)) (some_inj j) (here (d.0.0 t))
      go false t j ih = later (failed (f b) d.0 t) (ih j)

  first_found : (c : Condition) (cs : List Condition) → All Decides cs → FirstMet s e c cs → first_met f cs ≡ some c
  unfolding first_met
  first_found c cs d (here m) = rw (d.0.1 m)
  first_found c cs d (later {d = b} n l) = rw (fails (f b) d.0 n) (first_found c _ d.1 l)

-- ---- each condition

module _ (s : Machine) (e : Event) where
  abbrev p : ℕ
  p = e.processor

  abbrev is_kind : Event → Bool
  is_kind o = eqb e.kind o.kind

  -- 14, for a program step
  kind-is : (next : ProgramStep) (rest : List ProgramStep) → is_so is_kind (next_move s p (next ∷ rest)) ≡ eqb e.kind (kind_of next)
  unfolding is_so next_move
  kind-is (read x to) rest = refl
  kind-is (write x from) rest = refl
  kind-is fence rest = refl
  kind-is lock rest = refl
  kind-is unlock rest = refl
  kind-is (local r v) rest = refl

  another : (todo : List ProgramStep) → (processor s p).todo ≡ todo → (not (is_so is_kind (next_move s p todo)) ≡ true) ↔ Met AnotherKind s e
  unfolding is_so next_move
  another [] h = (λ t next rest h'. absurd (nil≢cons (sym h ∙ h')), λ n. refl)
  another (next ∷ rest) h = rw (kind-is next rest) (
    λ t next' rest' h' k. let same : next ≡ next' = let both = sym h ∙ h' in cc in eqb-false e.kind (kind_of next) (not-true (eqb e.kind (kind_of next)) t) (sym k ∙ ap kind_of (sym same)),
    λ n. ap not (ne_eqb e.kind (kind_of next) (λ k. n next rest h (sym k))),
  )

  -- 15, for a read, a write or a drain
  right-next : e.kind < 3 → (todo : List ProgramStep) → (processor s p).todo ≡ todo → is_so (same e) (next_move s p todo) ≡ true → Right s e
  unfolding is_so next_move
  right-next k [] h t = false-true t
  right-next k (read x to ∷ rest) h t = subst (Right s) (sym (same_true e _ t)) (of_read h (seen-sees s p x))
  right-next k (write x from ∷ rest) h t = subst (Right s) (sym (same_true e _ t)) (of_write h refl)
  right-next k (fence ∷ rest) h t = absurd (omega (arith, ap (λ (o : Event). o.kind) (same_true e _ t)))
  right-next k (lock ∷ rest) h t = absurd (omega (arith, ap (λ (o : Event). o.kind) (same_true e _ t)))
  right-next k (unlock ∷ rest) h t = absurd (omega (arith, ap (λ (o : Event). o.kind) (same_true e _ t)))
  right-next k (local r v ∷ rest) h t = absurd (omega (arith, ap (λ (o : Event). o.kind) (same_true e _ t)))

  right-oldest : (ws : List WaitingWrite) → (processor s p).waiting ≡ ws → is_so (same e) (drain_move s p ws) ≡ true → Right s e
  unfolding is_so drain_move
  right-oldest [] h t = false-true t
  right-oldest (w ∷ ws) h t = subst (Right s) (sym (same_true e _ t)) (of_drain h)

pub right-offered : (s : Machine) (e : Event) → Right s e → is_so (same e) (move_for s e) ≡ true
unfolding is_so move_for next_move drain_move
right-offered s e (of_read {p} {x} {v} {from = from} h u) = rw (h, sees-seen s p x v from u) (same_refl (R p x v))
right-offered s e (of_write {p} {x} {v} h i) = rw (h, i) (same_refl (W p x v))
right-offered s e (of_drain {p} {x} {v} h) = rw h (same_refl (D p x v))

-- ---- so the tests of a rule decide its conditions

module _ (s : Machine) (e : Event) where
  abbrev Tells : Condition → Type 0
  Tells c = (met s e c ≡ true) ↔ Met c s e

  program-kind : ¬ (e.kind ≡ 3) → Tells AnotherKind
  unfolding met move_for
  program-kind n = rw (ne_eqb e.kind 3 n) (another s e (processor s e.processor).todo refl)

  waits : Tells NothingWaits
  unfolding met
  waits = empty-test (processor s e.processor).waiting

  held : Tells LockHeld
  unfolding met
  held = blocked-test s e.processor

  not-empty : Tells BufferNotEmpty
  unfolding met
  not-empty = unless-so (is_empty (processor s e.processor).waiting) (empty-test (processor s e.processor).waiting)

  right-test : e.kind < 4 → (is_so (same e) (move_for s e) ≡ true) ↔ Right s e
  unfolding move_for
  right-test k = (go (eqb e.kind 3) refl, right-offered s e)
    where
      go : (b : Bool) → eqb e.kind 3 ≡ b → is_so (same e) (cond b (drain_move s e.processor (processor s e.processor).waiting) (next_move s e.processor (processor s e.processor).todo)) ≡ true → Right s e
      go true z = right-oldest s e (processor s e.processor).waiting refl
      go false z = let n = eqb-false e.kind 3 z in right-next s e (omega arith) (processor s e.processor).todo refl

  right : e.kind < 4 → Tells NotRight
  unfolding met
  right k = unless-so (is_so (same e) (move_for s e)) (right-test k)

  pub tells : Known step_uses e → All Tells (conditions e.kind)
  unfolding conditions step_uses
  tells k = below 8 (λ k. e.kind ≡ k → All Tells (conditions k)) (
    λ z. tt,
    (
      λ z. (program-kind (λ w. omega arith), (held, (right (omega arith), tt))),
      (
        λ z. (program-kind (λ w. omega arith), (right (omega arith), tt)),
        (
          λ z. (waits, (held, (right (omega arith), tt))),
          (
            λ z. (program-kind (λ w. omega arith), (not-empty, tt)),
            (
              λ z. (program-kind (λ w. omega arith), (held, (not-empty, tt))),
              (
                λ z. (program-kind (λ w. omega arith), (not-empty, tt)),
                (
                  λ z. (program-kind (λ w. omega arith), tt),
                  tt,
                ),
              ),
            ),
          ),
        ),
      ),
    ),
  ) e.kind k.1 refl

  -- none is found exactly when none is met, and one exactly when it is the first
  pub none-clear : Known step_uses e → (first_met (met s e) (conditions e.kind) ≡ none) ↔ Clear s e
  none-clear k = (λ h. clear_of s e (met s e) (conditions e.kind) (tells k) (unmet (met s e) (conditions e.kind) h), clear_none s e (met s e) (conditions e.kind) (tells k))

  pub some_first : Known step_uses e → (c : Condition) → (first_met (met s e) (conditions e.kind) ≡ some c) ↔ FirstMet s e c (conditions e.kind)
  some_first k c = (first-sound s e (met s e) (conditions e.kind) (tells k) c, first_found s e (met s e) c (conditions e.kind) (tells k))

  -- location and value of a read, a write or a drain that is allowed are the right ones
  pub is_right : e.kind < 4 → ¬ Met NotRight s e → Right s e
  is_right k n = (right-test k).0 (not-false _ (fails _ (unless-so _ (right-test k)) n))
