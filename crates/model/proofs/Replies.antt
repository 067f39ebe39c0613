-- `checked` and `completed` give exactly the replies of specs/Numbers.antt: each number under its condition, by the order of the tests.
use mathlib.Core.Path.{◌≡◌, refl, sym, ap, ◌∙◌, subst}
use mathlib.Core.Logic.{◌↔◌}
use mathlib.Core.Bool.{Bool, true, false, cond, false≢true}
use mathlib.Core.List.{List, ◌++◌}
use Prim.Native.Nat.{ℕ, ◌*◌, ◌≤◌, ◌<◌}
use lib.ListN.{length, drop}
use lib.Dec.{leb}
use borrow.Author.Tests.{leb-true, leb-false, le-leb, lt-leb}
use Rattle.model.specs.Sizes.{result_words, record_size}
use Rattle.model.specs.Record.{records, file_of}
use Rattle.model.specs.Machine.{Machine}
use Rattle.model.specs.Rules.{Event}
use Rattle.model.specs.Left.{left, Finished, FinishingRun}
use Rattle.model.specs.Finish.{is_finished, completion}
use Rattle.model.specs.Tests.{Tested, passed, refused}
use Rattle.model.specs.Reply.{Reply, done, refuse, words}
use Rattle.model.specs.Calls.{Reached, reached, written, tried, replied, reported, checked_at, checked, completed_at, completed}
use Rattle.model.specs.Numbers.{Follows, own_of, Stops, Checks, Finishes}
use Rattle.model.proofs.Left.{finished-test}
use Rattle.model.proofs.Finish.{completion-runs}
use Rattle.model.proofs.Completion.{one-completion}
use Rattle.model.proofs.Numbers.{tried-ends, follows-tried, tried-stops}

-- ---- the room is large enough, or not

pub written-fits : (place needed : ℕ) (contents room : List ℕ) → needed ≤ length room → written place needed contents room ≡ done place (contents ++ drop needed room)
unfolding written
written-fits place needed contents room h = rw (le-leb needed (length room) h)

pub written-not : (place needed : ℕ) (contents room : List ℕ) → length room < needed → written place needed contents room ≡ refuse 13 needed room
unfolding written
written-not place needed contents room h = rw (lt-leb needed (length room) h)

-- ---- what follows the trace

replied-follows : (table trace room : List ℕ) (s : Machine) (f : Reached → Reply) (h : Follows table trace (records trace) s) → replied room (tried table trace) f ≡ f (reached s (own_of h))
unfolding replied
replied-follows table trace room s f h = rw (follows-tried table trace s h)

replied-stops : (table trace room : List ℕ) (n i : ℕ) (f : Reached → Reply) → Stops table trace n i → replied room (tried table trace) f ≡ refuse n i room
unfolding replied
replied-stops table trace room n i f h = rw ((tried-stops table trace n i).1 h)

-- a kind of reply that both cases have, the call has
pub replied-is : (K : Reply → Type 0) (table trace room : List ℕ) (f : Reached → Reply)
    → ((n i : ℕ) → Stops table trace n i → K (refuse n i room)) → ((s : Machine) (h : Follows table trace (records trace) s) → K (f (reached s (own_of h)))) → K (replied room (tried table trace) f)
unfolding replied
replied-is K table trace room f stops follows = go (tried table trace) refl
  where
    go : (t : Tested Reached) → tried table trace ≡ t → K (replied room t f)
    go (passed c) h = let e = tried-ends table trace c h in subst (λ (n : ℕ). K (f (reached c.machine n))) e.counts (follows c.machine e.follows)
    go (refused n i) h = stops n i ((tried-stops table trace n i).0 h)

pub written_is : (K : Reply → Type 0) (place needed : ℕ) (contents room : List ℕ)
    → (needed ≤ length room → K (done place (contents ++ drop needed room))) → (length room < needed → K (refuse 13 needed room)) → K (written place needed contents room)
unfolding written
written_is K place needed contents room fits not-fits = go (leb needed (length room)) refl
  where
    go : (b : Bool) → leb needed (length room) ≡ b → K (cond b (done place (contents ++ drop needed room)) (refuse 13 needed room))
    go true h = fits (leb-true needed (length room) h)
    go false h = not-fits (leb-false needed (length room) h)

-- ---- checking

not-finished : (s : Machine) → is_finished s ≡ false → ¬ Finished s
not-finished s h f = false≢true (sym h ∙ (finished-test s).1 f)

is-not-finished : (s : Machine) → ¬ Finished s → is_finished s ≡ false
is-not-finished s n = go (is_finished s) refl
  where
    go : (b : Bool) → is_finished s ≡ b → is_finished s ≡ false
    go true h = absurd (n ((finished-test s).0 h))
    go false h = h

check-finished : (trace room : List ℕ) (s : Machine) (own : ℕ) → Finished s → checked_at trace room (reached s own) ≡ written (length (records trace)) result_words (words s own) room
unfolding checked_at reported
check-finished trace room s own f = rw ((finished-test s).1 f)

check-unfinished : (trace room : List ℕ) (s : Machine) (own : ℕ) → ¬ Finished s → checked_at trace room (reached s own) ≡ refuse 12 (length (records trace)) room
unfolding checked_at reported
check-unfinished trace room s own n = rw (is-not-finished s n)

checks-end : (table trace room : List ℕ) (s : Machine) (f : Follows table trace (records trace) s) → Checks table trace room (checked_at trace room (reached s (own_of f)))
unfolding checked_at reported
checks-end table trace room s f = go (is_finished s) refl
  where
    go : (b : Bool) → is_finished s ≡ b → Checks table trace room (cond b (written (length (records trace)) result_words (words s (own_of f)) room) (refuse 12 (length (records trace)) room))
    go true h =
        let d = (finished-test s).0 h in
        written_is (Checks table trace room) (length (records trace)) result_words (words s (own_of f)) room (λ l. Checks.finished f d l) (λ l. Checks.too_small f d l)
    go false h = Checks.unfinished f (not-finished s h)

checks : (table trace room : List ℕ) → Checks table trace room (checked table trace room)
unfolding checked
checks table trace room = replied-is (Checks table trace room) table trace room (checked_at trace room) (λ n i s. Checks.stopped s) (checks-end table trace room)

checks-back : (table trace room : List ℕ) (r : Reply) → Checks table trace room r → checked table trace room ≡ r
unfolding checked
checks-back table trace room r (Checks.stopped {n} {i} s) = replied-stops table trace room n i (checked_at trace room) s
checks-back table trace room r (Checks.unfinished {s} f n) = replied-follows table trace room s (checked_at trace room) f ∙ check-unfinished trace room s (own_of f) n
checks-back table trace room r (Checks.too_small {s} f d l) =
    replied-follows table trace room s (checked_at trace room) f ∙ check-finished trace room s (own_of f) d ∙ written-not (length (records trace)) result_words (words s (own_of f)) room l
checks-back table trace room r (Checks.finished {s} f d l) =
    replied-follows table trace room s (checked_at trace room) f ∙ check-finished trace room s (own_of f) d ∙ written-fits (length (records trace)) result_words (words s (own_of f)) room l

pub checked-exactly : (table trace room : List ℕ) (r : Reply) → (checked table trace room ≡ r) ↔ Checks table trace room r
checked-exactly table trace room r = (λ h. subst (Checks table trace room) h (checks table trace room), checks-back table trace room r)

-- ---- finishing

finishes-end : (table trace room : List ℕ) (s : Machine) (f : Follows table trace (records trace) s) → Finishes table trace room (completed_at room (reached s (own_of f)))
unfolding completed_at
finishes-end table trace room s f =
    let c = completion-runs f.entries (records trace) s f.run in
    written_is (Finishes table trace room) (left s) (record_size * left s) (file_of (completion s)) room (λ l. Finishes.completed (completion s) c.0 f c.1 l) (λ l. Finishes.too_small f l)

finishes : (table trace room : List ℕ) → Finishes table trace room (completed table trace room)
unfolding completed
finishes table trace room = replied-is (Finishes table trace room) table trace room (completed_at room) (λ n i s. Finishes.stopped s) (finishes-end table trace room)

-- what finishing writes is the finishing run
finish-fits : (room : List ℕ) (s u : Machine) (events : List Event) → FinishingRun s events u → record_size * left s ≤ length room
    → (own : ℕ) → completed_at room (reached s own) ≡ done (left s) (file_of events ++ drop (record_size * left s) room)
unfolding completed_at
finish-fits room s u events r l own =
    written-fits (left s) (record_size * left s) (file_of (completion s)) room l
    ∙ ap (λ (es : List Event). done (left s) (file_of es ++ drop (record_size * left s) room)) (one-completion events s u r)

finish-small : (room : List ℕ) (s : Machine) → length room < record_size * left s → (own : ℕ) → completed_at room (reached s own) ≡ refuse 13 (record_size * left s) room
unfolding completed_at
finish-small room s l own = written-not (left s) (record_size * left s) (file_of (completion s)) room l

finishes-back : (table trace room : List ℕ) (r : Reply) → Finishes table trace room r → completed table trace room ≡ r
unfolding completed
finishes-back table trace room r (Finishes.stopped {n} {i} s) = replied-stops table trace room n i (completed_at room) s
finishes-back table trace room r (Finishes.too_small {s} f l) = replied-follows table trace room s (completed_at room) f ∙ finish-small room s l (own_of f)
finishes-back table trace room r (Finishes.completed {s} events u f c l) = replied-follows table trace room s (completed_at room) f ∙ finish-fits room s u events c l (own_of f)

pub completed-exactly : (table trace room : List ℕ) (r : Reply) → (completed table trace room ≡ r) ↔ Finishes table trace room r
completed-exactly table trace room r = (λ h. subst (Finishes table trace room) h (finishes table trace room), finishes-back table trace room r)
