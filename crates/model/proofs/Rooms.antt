-- Demand 1 on the definitions: a refusal leaves the lent room unchanged, and no reply changes its length.
use mathlib.Core.Path.{◌≡◌, refl, ap, ◌∙◌}
use mathlib.Core.Bool.{Bool, true, false, cond}
use mathlib.Core.List.{List, ◌++◌}
use Prim.Native.Nat.{ℕ, ◌*◌, ◌≤◌}
use native.Mathlib.Omega.{arith}
use lib.ListN.{length, drop, length-append, length-drop}
use Rattle.model.specs.Sizes.{result_words, record_size}
use Rattle.model.specs.Record.{records, file_of}
use Rattle.model.specs.Machine.{Machine}
use Rattle.model.specs.Rules.{Event, Run}
use Rattle.model.specs.Left.{left}
use Rattle.model.specs.Finish.{is_finished, completion}
use Rattle.model.specs.Kinds.{Entry}
use Rattle.model.specs.Table.{start}
use Rattle.model.specs.Reply.{refuse, words}
use Rattle.model.specs.Calls.{reached, written, reported, checked_at, checked, completed_at, completed}
use Rattle.model.specs.Numbers.{Follows, own_of}
use Rattle.model.specs.Promises.{Lent}
use Rattle.model.proofs.Words.{words-length, file-length}
use Rattle.model.proofs.Finish.{completion-completes}
use Rattle.model.proofs.Replies.{replied-is, written_is}

refused-lent : (n i : ℕ) (room : List ℕ) → Lent room (refuse n i room)
refused-lent n i room = record { unchanged = λ above. refl; long = refl }

-- contents of the length needed, in front of the rest of the room
written-lent : (place needed : ℕ) (contents room : List ℕ) → length contents ≡ needed → Lent room (written place needed contents room)
written-lent place needed contents room e =
    written_is (Lent room) place needed contents room (λ l. record { unchanged = λ above. absurd (above refl); long = fills l }) (λ l. refused-lent 13 needed room)
  where
    fills : needed ≤ length room → length (contents ++ drop needed room) ≡ length room
    fills l = simp (length-append, length-drop) (omega arith)

-- ---- checking

check-end : (table trace room : List ℕ) (s : Machine) (f : Follows table trace (records trace) s) → Lent room (checked_at trace room (reached s (own_of f)))
unfolding checked_at reported
check-end table trace room s f = go (is_finished s)
  where
    go : (b : Bool) → Lent room (cond b (written (length (records trace)) result_words (words s (own_of f)) room) (refuse 12 (length (records trace)) room))
    go true = written-lent (length (records trace)) result_words (words s (own_of f)) room (words-length f.entries (records trace) s (own_of f) f.run)
    go false = refused-lent 12 (length (records trace)) room

pub check-lends : (table trace room : List ℕ) → Lent room (checked table trace room)
unfolding checked
check-lends table trace room = replied-is (Lent room) table trace room (checked_at trace room) (λ n i s. refused-lent n i room) (check-end table trace room)

-- ---- finishing writes 8 bytes a step

pub completion-length : (entries : List Entry) (es : List Event) (s : Machine) → Run (start entries) es s → length (file_of (completion s)) ≡ record_size * left s
completion-length entries es s r = file-length (completion s) ∙ ap (λ (k : ℕ). record_size * k) (completion-completes entries es s r).steps

pub finish-lends : (table trace room : List ℕ) → Lent room (completed table trace room)
unfolding completed completed_at
finish-lends table trace room =
    replied-is (Lent room) table trace room (completed_at room) (λ n i s. refused-lent n i room)
    (λ s f. written-lent (left s) (record_size * left s) (file_of (completion s)) room (completion-length f.entries (records trace) s f.run))
