-- The turns of following a trace: what each makes of what is known before it.
use mathlib.Core.Path.{◌≡◌, sym, ap, subst, ◌∙◌}
use mathlib.Core.List.{List, ◌∷◌}
use Prim.Native.Nat.{ℕ, suc, ◌+◌, ◌-◌, ◌/◌, ◌%◌, ◌≤◌, ◌<◌}
use native.Mathlib.Numerals.{add-one}
use native.Mathlib.Omega.{arith}
use lib.ListN.{length}
use Rattle.std.specs.Prelude.{Ok, Err, MatchResult}
use Rattle.model.specs.declared.answer.Condition.{Condition}
use Rattle.model.specs.declared.answer.Refusal.TheVariants.{TraceLength, StepRule}
use Rattle.model.specs.declared.answer.Refused.{Refused}
use Rattle.model.specs.declared.record.Record.{Record}
use Rattle.model.specs.Record.{record_at, records_from, records}
use Rattle.model.specs.Fields.{Proper}
use Rattle.model.specs.Kinds.{step_uses}
use Rattle.model.specs.Tests.{passed, refused, and_then, in_order, too_large, not_zero}
use Rattle.model.specs.Reply.{number_of, refusal_at}
use Rattle.model.specs.Calls.{Reached, reached, step_tests, at_place, take_record, following}
use Rattle.model.specs.Code.{Columns, Attempt, Verdict, tested_of, Gives}
use Rattle.model.proofs.Fields.{or_left, or_right, known-test, range-test, zero_test}
use Rattle.model.proofs.InOrder.{in-order-more, in-order-stop, file-whole, file-not-whole}
use Rattle.model.proofs.Verdicts.{gives_none, gives_then}
use Rattle.machine.specs.View.{machine_of, reached_of}
use Rattle.machine.specs.Ready.{Ready, Steps}
use Rattle.machine_state.specs.State.{State}
use Rattle.trace.specs.Follows.{Follows}

-- ---- a record that passes the tests of its fields, or does not

module _ (i : ℕ) (e : Record) (v : Verdict) (given : Gives v (step_tests e) i) where
  pub proper : v ≡ Ok tt → Proper step_uses e
  unfolding step_tests
  proper p =
      let h = gives_none v (step_tests e) i given p in
      record {
        known = (known-test step_uses e).0 h.0;
        in_range = (range-test step_uses e).0 (or_left (too_large step_uses e) (not_zero step_uses e) h.1.0);
        unused_zero = (zero_test step_uses e).0 (or_right (too_large step_uses e) (not_zero step_uses e) h.1.0);
      }

  misread : (r : Refused) → v ≡ Err r → (c : Reached) → take_record i c e ≡ refused (number_of r.why) r.place
  unfolding take_record and_then at_place
  misread r p c = gives_then v (step_tests e) i _ given ∙ rw p

  -- the step is attempted
  module _ (p : v ≡ Ok tt) (g : Columns) (m n : State) where
    took : Steps g m e (Ok tt) n → take_record i (reached_of g m) e ≡ passed (reached_of g n)
    unfolding take_record and_then at_place
    took d = gives_then v (step_tests e) i _ given ∙ rw (p, d.says) (ap (λ (own : ℕ). passed (reached (machine_of g n) own)) (sym d.own))

    turned_down : (c : Condition) → Steps g m e (Err c) n → take_record i (reached_of g m) e ≡ refused (number_of (StepRule c)) i
    unfolding take_record and_then at_place
    turned_down c d = gives_then v (step_tests e) i _ given ∙ rw (p, d.says)

-- ---- the whole trace, where the table is refused

pub refused_before : (g : Columns) (s : State) (before : Verdict) (trace : List ℕ) (r : Refused) → before ≡ Err r → Ready g s → Follows g s before trace (Err r) s
unfolding and_then
refused_before g s before trace r p h = record { says = rw p; ready = h }

-- ---- where it passed

module _ (g : Columns) (s : State) (before : Verdict) (p : before ≡ Ok tt) (trace : List ℕ) where
  follows : (v : Verdict) (m : State) → tested_of v (reached_of g m) ≡ following (reached_of g s) trace → Ready g m → Follows g s before trace v m
  unfolding and_then
  follows v m e r = record { says = rw p e; ready = r }

  pub odd : ¬ (length trace % 8 ≡ 0) → Ready g s → Follows g s before trace (Err (refusal_at TraceLength (length trace / 8))) s
  unfolding following
  odd o r = follows _ s (sym (file-not-whole 8 take_record (reached_of g s) trace o)) r

-- ---- and the trace is of whole records

-- i records are stepped, from the state s to the state m: the records left give what all give
pub record FollowsUpTo (g : Columns) (s : State) (trace : List ℕ) (m : State) (i : ℕ) : Type 0 where
  pub ready : Ready g m
  pub rest : in_order take_record i (reached_of g m) (records_from trace i (length trace / 8 - i)) ≡ following (reached_of g s) trace

pub begun : (g : Columns) (s : State) (trace : List ℕ) → length trace % 8 ≡ 0 → Ready g s → FollowsUpTo g s trace s 0
unfolding following records
begun g s trace o r = record {
  ready = r;
  rest = let z : length trace / 8 - 0 ≡ length trace / 8 = omega arith in rw z (sym (file-whole 8 take_record (reached_of g s) trace o));
}

module _ (g : Columns) (s : State) (trace : List ℕ) (m : State) (i : ℕ) (t : FollowsUpTo g s trace m i) where
  pub ended : (before : Verdict) → before ≡ Ok tt → length trace / 8 ≤ i → Follows g s before trace (Ok tt) m
  unfolding in_order records_from
  ended before p l = let z : length trace / 8 - i ≡ 0 = omega arith in follows g s before p trace (Ok tt) m (rw z at t.rest) t.ready

  -- record i is tested
  module _ (l : i < length trace / 8) (e : Record) (is : e ≡ record_at trace i) (v : Verdict) (given : Gives v (step_tests e) i) where
    left : in_order take_record i (reached_of g m) (e ∷ records_from trace (suc i) (length trace / 8 - suc i)) ≡ following (reached_of g s) trace
    unfolding records_from
    left = let z : length trace / 8 - i ≡ suc (length trace / 8 - suc i) = omega arith in rw (z, ← is) at t.rest

    stops : (before : Verdict) → before ≡ Ok tt → (r : Refused) (n : State) → take_record i (reached_of g m) e ≡ refused (number_of r.why) r.place → Ready g n → Follows g s before trace (Err r) n
    stops before p r n h = follows g s before p trace (Err r) n (sym (in-order-stop take_record i (reached_of g m) _ _ (number_of r.why) r.place h) ∙ left)

    pub misreads : (before : Verdict) → before ≡ Ok tt → (r : Refused) → v ≡ Err r → Follows g s before trace (Err r) m
    misreads before p r q = stops before p r m (misread i e v given r q (reached_of g m)) t.ready

    -- and attempted
    module _ (q : v ≡ Ok tt) (n : State) where
      -- w is the verdict of the attempt
      pub turns : (a : Attempt) → Steps g m e a n → (before : Verdict) → before ≡ Ok tt → (w : Verdict) (r : Refused) → w ≡ Err r
          → MatchResult a (λ x. w ≡ Ok x) (λ c. w ≡ Err (refusal_at (StepRule c) i)) → Follows g s before trace (Err r) n
      turns (Ok u) d before p w r z h = let same : ◌≡◌ {A = Verdict} (Err r) (Ok u) = sym z ∙ h in cc
      turns (Err c) d before p w r z h =
          let same : ◌≡◌ {A = Verdict} (Err (refusal_at (StepRule c) i)) (Err r) = sym h ∙ z in
          subst (λ (w : Verdict). Follows g s before trace w n) same (stops before p (refusal_at (StepRule c) i) n (turned_down i e v given q g m n c d) d.ready)

      pub stepped-on : Steps g m e (Ok tt) n → FollowsUpTo g s trace n (i + 1)
      stepped-on d = record {
        ready = d.ready;
        rest = rw add-one (sym (in-order-more take_record i (reached_of g m) (reached_of g n) _ _ (took i e v given q g m n d)) ∙ left);
      }
