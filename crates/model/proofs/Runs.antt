-- Runs of allowed steps: what a step keeps, a run keeps; a run has one end, and one number of reads that own buffers served; k and the length of a run.
use mathlib.Core.Path.{◌≡◌, refl, sym, ◌∙◌, subst}
use mathlib.Core.List.{List, [], ◌∷◌, ◌++◌}
use Prim.Native.Nat.{ℕ, ◌+◌, ◌≤◌}
use native.Mathlib.Omega.{arith}
use lib.ListN.{length}
use Rattle.model.specs.Machine.{Machine, Holder, free, held, processor}
use Rattle.model.specs.Rules.{Event, Allowed, Run, own_read, own_reads}
use Rattle.model.specs.Step.{holds}
use Rattle.model.specs.Left.{left, Finished}
use Rattle.model.specs.Orderly.{Paired, Orderly}
use Rattle.model.specs.Kinds.{Entry}
use Rattle.model.specs.Table.{start}
use Rattle.model.proofs.Bools.{holds-self}
use Rattle.model.proofs.Steps.{one-result, served-own}
use Rattle.model.proofs.Left.{one_less, zero-finished}
use Rattle.model.proofs.Orderly.{orderly-kept}
use Rattle.model.proofs.Start.{start-orderly}

-- what every allowed step keeps, a run keeps
pub run-keeps : (I : Machine → Type 0) → ((s : Machine) (e : Event) (t : Machine) → Allowed s e t → I s → I t)
    → (es : List Event) (s u : Machine) → Run s es u → I s → I u
run-keeps I keep [] s u r i = subst I r i
run-keeps I keep (e ∷ es) s u r i = run-keeps I keep es r.0 u r.2 (keep s e r.0 r.1 i)

pub reached-orderly : (entries : List Entry) (es : List Event) (s : Machine) → Run (start entries) es s → Orderly s
reached-orderly entries es s r = run-keeps Orderly orderly-kept es (start entries) s r (start-orderly entries)

-- a run has one end
pub one_end : (es : List Event) (s t u : Machine) → Run s es t → Run s es u → t ≡ u
one_end [] s t u p q = sym p ∙ q
one_end (e ∷ es) s t u p q =
    one_end es p.0 t u p.2 (subst (λ (m : Machine). Run m es u) (one-result s e q.0 p.0 q.1 p.1) q.2)

-- and any run with these events has as many reads that own buffers served
pub one-count : (es : List Event) (s t u : Machine) (p : Run s es t) (q : Run s es u) → own_reads s es t p ≡ own_reads s es u q
unfolding own_reads
one-count [] s t u p q = refl
one-count (e ∷ es) s t u p q =
    let a : own_read p.1 ≡ own_read q.1 = sym (served-own s e p.0 p.1) ∙ served-own s e q.0 q.1 in
    let b = subst (λ (m : Machine). (r : Run m es u) → own_reads p.0 es t p.2 ≡ own_reads m es u r) (one-result s e p.0 q.0 p.1 q.1) (one-count es p.0 t u p.2) q.2 in
    λ j. a j + b j

-- one run after another
pub run-append : (es fs : List Event) (s t u : Machine) → Run s es t → Run t fs u → Run s (es ++ fs) u
run-append [] fs s t u p q = subst (λ (m : Machine). Run m fs u) (sym p) q
run-append (e ∷ es) fs s t u p q = (p.0, p.1, run-append es fs p.0 t u p.2 q)

-- ---- k and the length of a run

pub run-left : (es : List Event) (s t : Machine) → Run s es t → left s ≡ length es + left t
run-left [] s t r = rw r (omega arith)
run-left (e ∷ es) s t r = omega (arith, one_less s e r.0 r.1, run-left es r.0 t r.2)

-- no allowed trace is longer than k at the start
pub no_longer : (es : List Event) (s t : Machine) → Run s es t → length es ≤ left s
no_longer es s t r = omega (arith, run-left es s t r)

-- and one that is finished is exactly as long
pub finished-length : (es : List Event) (s t : Machine) → Run s es t → Finished t → length es ≡ left s
finished-length es s t r f = omega (arith, run-left es s t r, (zero-finished t).1 f)

pub same_length : (es fs : List Event) (s t u : Machine) → Run s es t → Finished t → Run s fs u → Finished u → length es ≡ length fs
same_length es fs s t u p f q g = finished-length es s t p f ∙ sym (finished-length fs s u q g)

-- ---- when a run is finished, the lock is free

free-end : (s : Machine) → Orderly s → Finished s → (h : Holder) → s.holder ≡ h → h ≡ free
unfolding processor
free-end s o f free e = refl
free-end s o f (held p) e = absurd (inside p (rw (e, (f p).0) at (o p)))
  where
    inside : (p : ℕ) → ¬ Paired (holds (held p) p) []
    inside p k = rw (holds-self p) at k

pub finished-free : (entries : List Entry) (es : List Event) (s : Machine) → Run (start entries) es s → Finished s → s.holder ≡ free
finished-free entries es s r f = free-end s (reached-orderly entries es s r) f s.holder refl
