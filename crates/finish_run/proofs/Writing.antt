-- The steps that are left, written one behind the other.
use mathlib.Core.Path.{◌≡◌, refl, sym, ap, ◌∙◌}
use mathlib.Core.List.{List, [], ◌∷◌, ◌++◌, append_assoc, append-nil}
use Prim.Native.Nat.{ℕ, ◌+◌, ◌*◌, ◌≤◌, ◌<◌}
use native.Mathlib.Omega.{arith}
use lib.ListN.{length, drop, length-append, length-drop}
use Rattle.model.specs.Sizes.{record_size}
use Rattle.model.specs.Record.{bytes_of, file_of}
use Rattle.model.specs.Rules.{Event}
use Rattle.model.specs.Left.{left}
use Rattle.model.specs.Finish.{completion}
use Rattle.model.specs.Reply.{done, refuse}
use Rattle.model.specs.Calls.{written, completed_at}
use Rattle.model.specs.Code.{Columns}
use Rattle.model.proofs.Words.{file-length}
use Rattle.model.proofs.Replies.{written-fits, written-not}
use Rattle.model.proofs.Left.{one_less}
use Rattle.model.proofs.Orderly.{orderly-kept}
use Rattle.model.proofs.Finish.{finishing-allowed}
use Rattle.model.proofs.Completion.{completion-next, completion-none}
use Rattle.record.specs.Bytes.{with_record}
use Rattle.record.proofs.Stores.{file-more, one_more}
use Rattle.machine_state.specs.State.{State}
use Rattle.machine.specs.View.{machine_of, reached_of}
use Rattle.finish_step.specs.Finishing.{Underway, HasMore, FinishesBy}
use Rattle.finish_run.specs.Completing.{Completable, completed_in}

module _ (g : Columns) (s : State) (k : ℕ) (room : List ℕ) where
  -- i steps are written, and m is the state after them
  pub record Written (m : State) (now : List ℕ) (i : ℕ) : Type 0 where
    pub underway : Underway g m
    pub steps : i + left (machine_of g m) ≡ k
    pub events : List Event
    pub taken : length events ≡ i
    pub whole : events ++ completion (machine_of g m) ≡ completion (machine_of g s)
    pub here : now ≡ file_of events ++ drop (i * record_size) room

  pub begins : Completable g s k room → Written s room 0
  unfolding file_of
  begins c = record { underway = c.underway; steps = let e = c.steps in omega arith; events = []; taken = refl; whole = refl; here = refl }

  module _ (c : Completable g s k room) (m : State) (now : List ℕ) (i : ℕ) (w : Written m now i) where
    inside : i ≤ k
    inside = let e = w.steps in omega arith

    file-long : length (file_of w.events) ≡ i * record_size
    file-long = let e = w.taken in omega (arith, file-length w.events)

    same_length : length now ≡ length room
    same_length =
        let f = c.fits in
        ap (λ (l : List ℕ). length l) w.here ∙ length-append (file_of w.events) (drop (i * record_size) room)
        ∙ omega (arith, file-long, length-drop (i * record_size) room, inside)

    pub ends : k ≤ i → now ≡ completed_in g s k room
    unfolding completed_in
    ends l =
        let z : left (machine_of g m) ≡ 0 = let e = w.steps in omega arith in
        let n : i * record_size ≡ record_size * k = omega (arith, inside) in
        let all : w.events ≡ completion (machine_of g s) = sym (append-nil w.events) ∙ ap (λ (es : List Event). w.events ++ es) (sym (completion-none (machine_of g m) z)) ∙ w.whole in
        w.here ∙ (λ j. file_of (all j) ++ drop (n j) room)

    module _ (l : i < k) where
      pub unfinished : HasMore g m
      unfinished = record { underway = w.underway; more = let e = w.steps in omega arith }

      pub fits : i * record_size + record_size ≤ length now
      fits = let f = c.fits in omega (arith, same_length)

      pub goes_on : (e : Event) (n : State) → FinishesBy g m e n → (after : List ℕ) → after ≡ with_record now i e → Written n after (i + 1)
      goes_on e n f after a =
          let allowed = finishing-allowed (machine_of g m) e (machine_of g n) f.step in
          record {
            underway = record { ready = f.ready; orderly = orderly-kept (machine_of g m) e (machine_of g n) allowed w.underway.orderly };
            steps = let q = w.steps in omega (arith, one_less (machine_of g m) e (machine_of g n) allowed);
            events = w.events ++ (e ∷ []);
            taken = let q = w.taken in length-append w.events (e ∷ []) ∙ omega arith;
            whole =
                append_assoc w.events (e ∷ []) (completion (machine_of g n))
                ∙ ap (λ (es : List Event). w.events ++ es) (sym (completion-next (machine_of g m) e (machine_of g n) f.step)) ∙ w.whole;
            here = a ∙ ap (λ (d : List ℕ). with_record d i e) w.here ∙ one_more (file_of w.events) room i e file-long ∙ placed;
          }
        where
          next : i * record_size + record_size ≡ (i + 1) * record_size
          next = omega arith

          placed : ((file_of w.events ++ bytes_of e) ++ drop (i * record_size + record_size) room) ≡ (file_of (w.events ++ (e ∷ [])) ++ drop ((i + 1) * record_size) room)
          placed = λ j. sym (file-more w.events e) j ++ drop (next j) room

-- ---- 13, 0

module _ (g : Columns) (m : State) (room : List ℕ) (k : ℕ) (steps : k ≡ left (machine_of g m)) where
  abbrev file : List ℕ
  file = file_of (completion (machine_of g m))

  pub too_small : length room < record_size * k → refuse 13 (record_size * k) room ≡ completed_at room (reached_of g m)
  unfolding completed_at
  too_small l = sym (written-not k (record_size * k) file room l) ∙ ap (λ (n : ℕ). written n (record_size * n) file room) steps

  pub completes : record_size * k ≤ length room → (after : List ℕ) → after ≡ completed_in g m k room → done k after ≡ completed_at room (reached_of g m)
  unfolding completed_at completed_in
  completes l after e = ap (done k) e ∙ sym (written-fits k (record_size * k) file room l) ∙ ap (λ (n : ℕ). written n (record_size * n) file room) steps
