-- Following a trace: each record is tested 9, 10, and by its rule. What passes is a run, and a run of proper events passes.
use mathlib.Core.Path.{◌≡◌, refl, sym, ap, ◌∙◌, subst}
use mathlib.Core.Logic.{◌↔◌, ◌⊎◌, inl, inr}
use mathlib.Core.Bool.{Bool, true, false, cond, ◌||◌}
use mathlib.Core.Option.{Option, none, some}
use mathlib.Core.List.{List, [], ◌∷◌}
use Prim.Native.Nat.{ℕ, suc, ◌+◌}
use native.Mathlib.Nat.{add-zero}
use native.Mathlib.Omega.{arith}
use Rattle.model.specs.Lists.{All}
use Rattle.model.specs.Fields.{Known, Proper}
use Rattle.model.specs.Kinds.{step_uses}
use Rattle.model.specs.Machine.{Machine}
use Rattle.model.specs.Rules.{Event, Allowed, Run, own_read, own_reads}
use Rattle.model.specs.Step.{Stepped, took, turned, step, served_own}
use Rattle.model.specs.Tests.{first, unknown, too_large, not_zero, passed, refused, in_order}
use Rattle.model.specs.Calls.{Reached, reached, step_tests, at_place, take_record}
use Rattle.model.specs.Orderly.{Orderly}
use Rattle.model.specs.Numbers.{Turns}
use Rattle.model.proofs.Tests.{some_inj, none-some, passed-inj, passed-refused, and-then-passed, unless-passed, unless-refused, unless-none, unless-some}
use Rattle.model.proofs.InOrder.{in-order-more}
use Rattle.model.proofs.Fields.{or_left, or_right, or-false, known-test, range-test, zero_test}
use Rattle.model.proofs.Bools.{met, not-met}
use Rattle.model.proofs.Orderly.{orderly-kept}
use Rattle.model.proofs.Steps.{allowed-step, served-own, turned-number, turned-exactly}
use Rattle.model.proofs.Clears.{step-allowed}

-- ---- 9 and 10

-- test 10 asks what `Proper` asks beyond a known kind
wrong : Event → Bool
wrong e = too_large step_uses e || not_zero step_uses e

proper-test : (e : Event) → Known step_uses e → (wrong e ≡ false) ↔ Proper step_uses e
unfolding wrong
proper-test e k = (
  λ h. record {
    known = k;
    in_range = (range-test step_uses e).0 (or_left (too_large step_uses e) (not_zero step_uses e) h);
    unused_zero = (zero_test step_uses e).0 (or_right (too_large step_uses e) (not_zero step_uses e) h);
  },
  λ p. or-false ((range-test step_uses e).1 p.in_range) ((zero_test step_uses e).1 p.unused_zero),
)

pub proper-passes : (e : Event) → (first (step_tests e) ≡ none) ↔ Proper step_uses e
unfolding step_tests first wrong
proper-passes e = (go (unknown step_uses e) refl (wrong e) refl, λ p. rw ((known-test step_uses e).1 p.known, (proper-test e p.known).1 p))
  where
    go : (b : Bool) → unknown step_uses e ≡ b → (c : Bool) → wrong e ≡ c → cond {A = Option ℕ} b (some 9) (cond c (some 10) none) ≡ none → Proper step_uses e
    go true k c w h = none-some (sym h)
    go false k true w h = none-some (sym h)
    go false k false w h = (proper-test e ((known-test step_uses e).0 k)).0 w

-- ---- one event

took-at : (i own : ℕ) (o : Stepped) (d : Reached) → at_place i own o ≡ passed d → (o ≡ took d.machine) × (own ≡ d.own)
unfolding at_place
took-at i own (took u) d h = (ap (λ (c : Reached). took c.machine) (passed-inj h), ap (λ (c : Reached). c.own) (passed-inj h))
took-at i own (turned n) d h = passed-refused (sym h)

turned-at : (i own : ℕ) (o : Stepped) (n j : ℕ) → at_place i own o ≡ refused n j → (o ≡ turned n) × (i ≡ j)
unfolding at_place
turned-at i own (took u) n j h = passed-refused h
turned-at i own (turned m) n j h = (cc, cc)

-- from c to d by an allowed step, and the number of reads that own buffers served goes along
pub record Takes (c : Reached) (e : Event) (d : Reached) : Type 0 where
  pub allowed : Allowed c.machine e d.machine
  pub counts : c.own + own_read allowed ≡ d.own

pub take-passed : (i : ℕ) (c d : Reached) (e : Event) → Orderly c.machine → take_record i c e ≡ passed d → Takes c e d
unfolding take_record
take-passed i c d e o h =
    let u = unless-passed (first (step_tests e)) i _ d h in
    let k = took-at i (c.own + served_own c.machine e) (step c.machine e) d u.1 in
    let a = step-allowed c.machine o e ((proper-passes e).0 u.0) d.machine k.0 in
    record { allowed = a; counts = ap (λ (n : ℕ). c.own + n) (sym (served-own c.machine e d.machine a)) ∙ k.1 }

pub take-allowed : (i : ℕ) (s t : Machine) (own : ℕ) (e : Event) → Proper step_uses e → (a : Allowed s e t) → take_record i (reached s own) e ≡ passed (reached t (own + own_read a))
unfolding take_record at_place
take-allowed i s t own e c a =
    unless-none (first (step_tests e)) i _ ((proper-passes e).1 c) ∙ ap (at_place i (own + served_own s e)) (allowed-step s e t a) ∙ ap (λ (n : ℕ). passed (reached t (own + n))) (served-own s e t a)

tests-turn : (s : Machine) (e : Event) (n : ℕ) → first (step_tests e) ≡ some n → Turns s e n
unfolding step_tests first wrong
tests-turn s e n = go (unknown step_uses e) refl (wrong e) refl
  where
    go : (b : Bool) → unknown step_uses e ≡ b → (c : Bool) → wrong e ≡ c → cond b (some 9) (cond c (some 10) none) ≡ some n → Turns s e n
    go true k c w h = subst (Turns s e) (some_inj h) (Turns.kind_unknown (not-met _ (known-test step_uses e) k))
    go false k true w h = let known = (known-test step_uses e).0 k in subst (Turns s e) (some_inj h) (Turns.wrong_field known (not-met _ (proper-test e known) w))
    go false k false w h = none-some h

pub take-refused : (i : ℕ) (c : Reached) (e : Event) (n j : ℕ) → take_record i c e ≡ refused n j → Turns c.machine e n × (i ≡ j)
unfolding take_record
take-refused i c e n j h = go (unless-refused (first (step_tests e)) i _ n j h)
  where
    s : Machine
    s = c.machine

    own : ℕ
    own = c.own + served_own s e

    go : ((first (step_tests e) ≡ some n) × (i ≡ j)) ⊎ ((first (step_tests e) ≡ none) × (at_place i own (step s e) ≡ refused n j)) → Turns s e n × (i ≡ j)
    go (inl g) = (tests-turn s e n g.0, g.1)
    go (inr c) =
        let t = turned-at i own (step s e) n j c.1 in
        let proper = (proper-passes e).0 c.0 in
        let c = turned-number s e proper.known n t.0 in
        (subst (Turns s e) c.1 (Turns.by_rule proper c.2), t.1)

pub take-turns : (i : ℕ) (c : Reached) (e : Event) (n : ℕ) → Turns c.machine e n → take_record i c e ≡ refused n i
unfolding take_record at_place step_tests first wrong
take-turns i c e n (Turns.kind_unknown k) = unless-some (first (step_tests e)) i _ 9 (rw (met _ (known-test step_uses e) k))
take-turns i c e n (Turns.wrong_field k w) = unless-some (first (step_tests e)) i _ 10 (rw ((known-test step_uses e).1 k, met _ (proper-test e k) w))
take-turns i c e n (Turns.by_rule {c = d} p f) =
    unless-none (first (step_tests e)) i _ ((proper-passes e).1 p) ∙ ap (at_place i (c.own + served_own c.machine e)) ((turned-exactly c.machine e p.known d).1 f)

-- ---- all of them

-- from c to d by a run
pub record Leads (c : Reached) (es : List Event) (d : Reached) : Type 0 where
  pub run : Run c.machine es d.machine
  pub counts : c.own + own_reads c.machine es d.machine run ≡ d.own

pub runs : (i : ℕ) (c d : Reached) (es : List Event) → Orderly c.machine → in_order take_record i c es ≡ passed d → Leads c es d
unfolding in_order own_reads
runs i c d [] o h = record { run = ap (λ (r : Reached). r.machine) (passed-inj h); counts = add-zero c.own ∙ ap (λ (r : Reached). r.own) (passed-inj h) }
runs i c d (e ∷ es) o h =
    let a = and-then-passed (take_record i c e) (λ b. in_order take_record (suc i) b es) d h in
    let t = take-passed i c a.0 e o a.1 in
    let l = runs (suc i) a.0 d es (orderly-kept c.machine e a.0.machine t.allowed o) a.2 in
    record { run = (a.0.machine, t.allowed, l.run); counts = omega (arith, t.counts, l.counts) }

pub runs-back : (i : ℕ) (s u : Machine) (own : ℕ) (es : List Event) → All (Proper step_uses) es → (r : Run s es u) → in_order take_record i (reached s own) es ≡ passed (reached u (own + own_reads s es u r))
unfolding in_order own_reads
runs-back i s u own [] w r = λ j. passed (reached (r j) (sym (add-zero own) j))
runs-back i s u own (e ∷ es) w r =
    in-order-more take_record i (reached s own) (reached r.0 (own + own_read r.1)) e es (take-allowed i s r.0 own e w.0 r.1)
    ∙ runs-back (suc i) r.0 u (own + own_read r.1) es w.1 r.2 ∙ ap (λ (n : ℕ). passed (reached u n)) (omega arith)

-- ---- an event gets at most one number

pub one_number : (s : Machine) (e : Event) (n m : ℕ) → Turns s e n → Turns s e m → n ≡ m
one_number s e n m t u = let same = sym (take-turns 0 (reached s 0) e n t) ∙ take-turns 0 (reached s 0) e m u in cc
