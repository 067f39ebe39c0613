-- The records that finishing writes lie within the lent room.
use mathlib.Core.Path.{◌≡◌, sym, ap, ◌∙◌}
use mathlib.Core.List.{List}
use Prim.Native.Nat.{ℕ, ◌*◌, ◌≤◌}
use native.Mathlib.Omega.{arith}
use lib.ListN.{length}
use Rattle.std.specs.Prelude.{Ok, Err}
use Rattle.model.specs.Sizes.{record_size}
use Rattle.model.specs.Record.{file_of}
use Rattle.model.specs.Left.{left}
use Rattle.model.specs.Finish.{completion}
use Rattle.model.specs.Reply.{Reply, Answer, reply_of}
use Rattle.model.specs.Calls.{completed_at, completed}
use Rattle.model.proofs.Given.{stops-number}
use Rattle.model.proofs.Replies.{replied-is, written_is}
use Rattle.model.proofs.Rooms.{finish-lends}
use Rattle.text_steps.specs.Steps.{InRoom}

abbrev Fits : List ℕ → Reply → Type 0
Fits room reply = reply.number ≡ 0 → reply.place * record_size ≤ length room

fits : (table trace room : List ℕ) → Fits room (completed table trace room)
unfolding completed completed_at
fits table trace room =
    replied-is (Fits room) table trace room (completed_at room) (λ n i s e. absurd (omega (arith, stops-number table trace n i s)))
    (λ s f. written_is (Fits room) (left s) (record_size * left s) (file_of (completion s)) room (λ l e. omega arith) (λ l e. absurd (omega arith)))

pub in_room : (table trace room : List ℕ) (answer : Answer) (after : List ℕ) → reply_of answer after ≡ completed table trace room → InRoom answer (length after)
in_room table trace room (Ok k) after e =
    let within = fits table trace room (ap (λ (r : Reply). r.number) (sym e)) in
    let place : k ≡ (completed table trace room).place = ap (λ (r : Reply). r.place) e in
    let long : length after ≡ length room = ap (λ (r : Reply). length r.room) e ∙ (finish-lends table trace room).long in
    rw (place, long) within
in_room table trace room (Err refused) after e = tt
