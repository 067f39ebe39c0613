-- Where a processor's read gets its value, and the value.
use Rattle.std.proofs.Common.{◌≡◌, ℕ, ◌+◌, ◌-◌, ◌*◌, ◌<◌, List, length, take, drop, sym, ap, ◌∙◌, arith, get_or-drop, get_or-take}
use lib.Seq.{slice, length-slice}
use Rattle.model.specs.declared.origin.Origin.{Origin}
use Rattle.model.specs.declared.origin.Origin.TheVariants.{Memory, Waiting}
use Rattle.model.specs.Code.{place_at}
use Rattle.model.specs.Machine.{WaitingWrite}
use Rattle.model.specs.Sizes.{processors, instructions_each}
use Rattle.model.specs.Step.{origin_in, value_from, seen_in}
use Rattle.model.proofs.Sees.{origin-below}
use Rattle.machine_rules.specs.Offers.{writes_in, waiting_from, Part}
use Rattle.machine_rules.specs.Lookups.{Finds, FindsIn, value_at, Reaches}
use Rattle.machine_rules.proofs.Lookup.{part-is, writes-length, write-value}

-- of processor p's writes, those that wait; the part of a column that the code looks at
module _ (xs : List ℕ) (issued drained p : ℕ) (long : length xs ≡ processors * instructions_each) (part : Part issued drained p) where
  abbrev k : ℕ
  k = place_at p drained

  abbrev n : ℕ
  n = place_at p issued

  abbrev cut : List ℕ → List ℕ
  cut l = take (n - k) (drop k l)

  cut-is : (l : List ℕ) → length l ≡ processors * instructions_each → cut l ≡ slice k n l
  cut-is l h = let o = part.order in let f = part.few in let q = part.processor in part-is k n l (omega arith) (rw h (omega arith))

  long-part : (l : List ℕ) → length l ≡ processors * instructions_each → length (slice k n l) ≡ n - k
  long-part l h = let f = part.few in let q = part.processor in length-slice k n l (rw h (omega arith))

  pub found_in : (x : ℕ) (r : Origin) → Finds (cut xs) x r → FindsIn xs issued drained p x r
  found_in x r f = record {
    says = λ vs h. f.says (cut vs) (ap (λ (l : List ℕ). length l) (cut-is xs long) ∙ long-part xs long ∙ sym (ap (λ (l : List ℕ). length l) (cut-is vs h) ∙ long-part vs h))
        ∙ (λ j. origin_in (writes_in (cut-is xs long j) (cut-is vs h j)) x);
  }

  -- the write that is found is in the log, and its value is what is seen
  module _ (vs : List ℕ) (also : length vs ≡ processors * instructions_each) (x : ℕ) where
    abbrev waiting : List WaitingWrite
    waiting = waiting_from xs vs issued drained p

    alike : length (slice k n xs) ≡ length (slice k n vs)
    alike = long-part xs long ∙ sym (long-part vs also)

    below : (i : ℕ) → Waiting i ≡ origin_in waiting x → i < n - k
    below i h = omega (arith, origin-below waiting x i (sym h), writes-length (slice k n xs) (slice k n vs) alike, long-part xs long)

    pub reaches : (r : Origin) → r ≡ origin_in waiting x → Reaches r k
    reaches Memory h = tt
    reaches (Waiting i) h = let f = part.few in let q = part.processor in omega (arith, below i h)

    pub value-is : (m : ℕ) (r : Origin) → r ≡ origin_in waiting x → value_at vs k r m ≡ seen_in waiting x m
    unfolding seen_in value_from
    value-is m Memory h = ap (λ (o : Origin). value_from o waiting m) h
    value-is m (Waiting i) h =
        let b = below i h in
        sym (write-value (slice k n xs) (slice k n vs) i alike (omega (arith, long-part xs long)) ∙ get_or-drop k (take n vs) i 0 ∙ get_or-take n vs (k + i) 0 (omega arith))
        ∙ ap (λ (o : Origin). value_from o waiting m) h
