-- What a read sees is what Figure 1 says: the newest own waiting write to the location or, with none, memory. Value and origin are one each.
use mathlib.Core.Path.{◌≡◌, refl, sym, ap, ◌∙◌, subst}
use mathlib.Core.Bool.{Bool, true, false}
use mathlib.Core.List.{List, [], ◌∷◌, ◌++◌}
use Prim.Native.Nat.{ℕ, suc, ◌<◌}
use native.Mathlib.Omega.{arith}
use lib.Dec.{eqb}
use lib.ListN.{length, get_or}
use lib.Seq.{get_or-append_seam}
use borrow.Author.Tests.{eqb-true, eqb-false, eq-eqb, ne_eqb}
use Rattle.model.specs.declared.origin.Origin.{Origin}
use Rattle.model.specs.declared.origin.Origin.TheVariants.{Memory, Waiting}
use Rattle.model.specs.Machine.{Machine, WaitingWrite, write_of, processor, cell}
use Rattle.model.specs.Rules.{NoneTo, Sees, from_buffer, from_memory}
use Rattle.model.specs.Step.{behind, origin_in, value_from, seen_in, origin_of, seen}

waiting-inj : {i j : ℕ} → Waiting i ≡ Waiting j → i ≡ j
waiting-inj {i} {j} h = cc

memory-waiting {ℓ} : {A : Type ℓ} {i : ℕ} → Memory ≡ Waiting i → A
memory-waiting {A} {i} h = let z : ◌≡◌ {A = ℕ} 0 1 = cc in absurd (omega arith)

-- ---- the origin that the function finds

-- memory, if no own write to the location waits
pub none_found : (waiting : List WaitingWrite) (x : ℕ) → NoneTo x waiting → origin_in waiting x ≡ Memory
unfolding origin_in behind
none_found [] x n = refl
none_found (w ∷ newer) x n = rw (none_found newer x n.1, ne_eqb w.location x n.0)

-- the newest own write to it otherwise
newest-found : (older newer : List WaitingWrite) (x v : ℕ) → NoneTo x newer → origin_in (older ++ write_of x v ∷ newer) x ≡ Waiting (length older)
unfolding origin_in behind
newest-found [] newer x v n = rw (none_found newer x n, eq-eqb x x refl)
newest-found (w ∷ older) newer x v n = ap (behind (eqb w.location x)) (newest-found older newer x v n)

-- it is one of those that wait
pub origin-below : (waiting : List WaitingWrite) (x i : ℕ) → origin_in waiting x ≡ Waiting i → i < length waiting
unfolding origin_in behind
origin-below [] x i h = memory-waiting h
origin-below (w ∷ newer) x i h = go (origin_in newer x) (eqb w.location x) h (origin-below newer x)
  where
    go : (o : Origin) (b : Bool) → behind b o ≡ Waiting i → ((k : ℕ) → o ≡ Waiting k → k < length newer) → i < suc (length newer)
    go Memory true h ih = let z : 0 ≡ i = waiting-inj h in omega arith
    go Memory false h ih = memory-waiting h
    go (Waiting k) b h ih = let z : suc k ≡ i = waiting-inj h in omega (arith, ih k refl)

-- ---- so it is what is seen

module _ (waiting : List WaitingWrite) (x m : ℕ) where
  pub sees-origin : (v : ℕ) (from : Origin) → Sees waiting x m v from → origin_in waiting x ≡ from
  sees-origin v from (from_buffer {v = u} older newer e n) = ap (λ (l : List WaitingWrite). origin_in l x) e ∙ newest-found older newer x u n
  sees-origin v from (from_memory n) = none_found waiting x n

  pub sees-value : (v : ℕ) (from : Origin) → Sees waiting x m v from → value_from from waiting m ≡ v
  unfolding value_from
  sees-value v from (from_buffer {v = u} older newer e n) =
      ap (λ (l : List WaitingWrite). (get_or l (length older) (write_of 0 0)).value) e ∙ ap (λ (w : WaitingWrite). w.value) (get_or-append_seam older (write_of x u) newer (write_of 0 0))
  sees-value v from (from_memory n) = refl

-- a write that is older than all
older : (w : WaitingWrite) (newer : List WaitingWrite) (x m v : ℕ) (from : Origin) (b : Bool) → eqb w.location x ≡ b → Sees newer x m v from → (u : ℕ) × Sees (w ∷ newer) x m u (behind b from)
unfolding behind
older w newer x m v from b e (from_buffer os ns f n) = (v, from_buffer (w ∷ os) ns (ap (λ (l : List WaitingWrite). w ∷ l) f) n)
older w newer x m v from true e (from_memory n) = (w.value, from_buffer [] newer (λ i. record { location = eqb-true w.location x e i; value = w.value } ∷ newer) n)
older w newer x m v from false e (from_memory n) = (m, from_memory (eqb-false w.location x e, n))

some-seen : (waiting : List WaitingWrite) (x m : ℕ) → (v : ℕ) × Sees waiting x m v (origin_in waiting x)
unfolding origin_in
some-seen [] x m = (m, from_memory tt)
some-seen (w ∷ newer) x m = let s = some-seen newer x m in older w newer x m s.0 (origin_in newer x) (eqb w.location x) refl s.1

pub origin-seen : (waiting : List WaitingWrite) (x m : ℕ) → Sees waiting x m (seen_in waiting x m) (origin_in waiting x)
unfolding seen_in
origin-seen waiting x m =
    let s = some-seen waiting x m in
    subst (λ (v : ℕ). Sees waiting x m v (origin_in waiting x)) (sym (sees-value waiting x m s.0 (origin_in waiting x) s.1)) s.1

-- ---- a read has one origin, and one value

pub one-origin : (waiting : List WaitingWrite) (x m v u : ℕ) (from other : Origin) → Sees waiting x m v from → Sees waiting x m u other → (from ≡ other) × (v ≡ u)
one-origin waiting x m v u from other a b =
    let same : from ≡ other = sym (sees-origin waiting x m v from a) ∙ sees-origin waiting x m u other b in
    (same, sym (sees-value waiting x m v from a) ∙ ap (λ (o : Origin). value_from o waiting m) same ∙ sees-value waiting x m u other b)

-- what processor p sees at x
pub sees-seen : (s : Machine) (p x v : ℕ) (from : Origin) → Sees (processor s p).waiting x (cell s x) v from → seen s p x ≡ v
unfolding seen seen_in
sees-seen s p x v from a =
    ap (λ (o : Origin). value_from o (processor s p).waiting (cell s x)) (sees-origin (processor s p).waiting x (cell s x) v from a)
    ∙ sees-value (processor s p).waiting x (cell s x) v from a

pub seen-sees : (s : Machine) (p x : ℕ) → Sees (processor s p).waiting x (cell s x) (seen s p x) (origin_of s p x)
unfolding seen origin_of
seen-sees s p x = origin-seen (processor s p).waiting x (cell s x)
