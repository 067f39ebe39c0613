-- k: each allowed step lowers it by exactly one, and it is 0 exactly when the run is finished.
use mathlib.Core.Path.{◌≡◌, refl}
use mathlib.Core.Logic.{◌↔◌}
use mathlib.Core.Bool.{true}
use mathlib.Core.Option.{some}
use mathlib.Core.List.{List, [], ◌∷◌}
use Prim.Native.Nat.{ℕ, zero, suc}
use native.Mathlib.Omega.{arith}
use lib.ListN.{length, get_or, set}
use Rattle.model.specs.Machine.{Machine, Processor, processor, idle}
use Rattle.model.specs.Rules.{Event, Allowed}
use Rattle.model.specs.Step.{is_empty, Move, move_for}
use Rattle.model.specs.Left.{left_of, left_in, left, Done, Finished}
use Rattle.model.specs.Finish.{is_done, are_done, is_finished}
use Rattle.model.proofs.Bools.{and-true, and_left, and_right, is_empty-true}
use Rattle.model.proofs.Moves.{Moves, move-goes, moves}

falls : (Ps : List Processor) (p : ℕ) (P : Processor) → left_of (get_or Ps p idle) ≡ suc (left_of P) → left_in Ps ≡ suc (left_in (set Ps p P))
unfolding left_in idle
falls [] p P h = absurd (omega arith)
falls (Q ∷ Qs) zero P h = omega arith
falls (Q ∷ Qs) (suc p) P h = omega (arith, falls Qs p P h)

moved-less : (s t : Machine) (p : ℕ) → Moves s t p → left s ≡ suc (left t)
unfolding left processor
moved-less s t p m = rw m.placed (falls s.processors p m.after m.less.steps)

pub move-less : (s : Machine) (e : Event) (m : Move) → move_for s e ≡ some m → left s ≡ suc (left m.after)
move-less s e m h = moved-less s m.after e.processor (move-goes s e m h)

pub one_less : (s : Machine) (e : Event) (t : Machine) → Allowed s e t → left s ≡ suc (left t)
one_less s e t a = moved-less s t e.processor (moves s e t a)

-- ---- k is 0 exactly when the run is finished, and the test says so

pub done-left : (P : Processor) → Done P → left_of P ≡ 0
unfolding left_of
done-left P d = rw (d.0, d.1)

empty-length : {A : Type 0} (l : List A) → length l ≡ 0 → l ≡ []
empty-length [] e = refl
empty-length (a ∷ l) e = absurd (omega arith)

pub left-done : (P : Processor) → left_of P ≡ 0 → Done P
unfolding left_of
left-done P h = (empty-length P.todo (omega arith), empty-length P.waiting (omega arith))

pub done-test : (P : Processor) → (is_done P ≡ true) ↔ Done P
unfolding is_done
done-test P = (λ t. (is_empty-true P.todo (and_left _ _ t), is_empty-true P.waiting (and_right (is_empty P.todo) _ t)), λ d. rw (d.0, d.1))

all-zero : (Ps : List Processor) → ((p : ℕ) → Done (get_or Ps p idle)) → left_in Ps ≡ 0
unfolding left_in
all-zero [] h = refl
all-zero (P ∷ Ps) h = omega (arith, done-left P (h 0), all-zero Ps (λ p. h (suc p)))

zero-all : (Ps : List Processor) → left_in Ps ≡ 0 → (p : ℕ) → Done (get_or Ps p idle)
unfolding left_in idle
zero-all [] h p = (refl, refl)
zero-all (P ∷ Ps) h zero = left-done P (omega arith)
zero-all (P ∷ Ps) h (suc p) = zero-all Ps (omega arith) p

pub zero-finished : (s : Machine) → (left s ≡ 0) ↔ Finished s
unfolding left processor
zero-finished s = (zero-all s.processors, all-zero s.processors)

all_done : (Ps : List Processor) → are_done Ps ≡ true → (p : ℕ) → Done (get_or Ps p idle)
unfolding are_done idle
all_done [] t p = (refl, refl)
all_done (P ∷ Ps) t zero = (done-test P).0 (and_left _ _ t)
all_done (P ∷ Ps) t (suc p) = all_done Ps (and_right (is_done P) _ t) p

done_all : (Ps : List Processor) → ((p : ℕ) → Done (get_or Ps p idle)) → are_done Ps ≡ true
unfolding are_done
done_all [] h = refl
done_all (P ∷ Ps) h = and-true ((done-test P).1 (h 0)) (done_all Ps (λ p. h (suc p)))

pub finished-test : (s : Machine) → (is_finished s ≡ true) ↔ Finished s
unfolding is_finished processor
finished-test s = (all_done s.processors, done_all s.processors)
