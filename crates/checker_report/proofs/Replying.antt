-- The reply to a check, of a ready state: the verdict, 12, 13, or the result.
use mathlib.Core.Path.{◌≡◌, sym, ap, ◌∙◌}
use mathlib.Core.Bool.{Bool, true, false}
use mathlib.Core.List.{List, [], ◌∷◌, ◌++◌, append_assoc}
use Prim.Native.Nat.{ℕ, ◌/◌, ◌≤◌, ◌<◌}
use native.Mathlib.Omega.{arith}
use lib.ListN.{length, set, take, drop, get_or, length-append}
use lib.Seq.{take_at, drop_at, drop-drop, drop-cons, set-append_seam}
use Rattle.std.specs.Prelude.{Ok, Err}
use Rattle.model.specs.declared.answer.Refused.{Refused}
use Rattle.model.specs.Reply.{Reply, done, refuse, number_of, words}
use Rattle.model.specs.Calls.{replied, reported, checked_at}
use Rattle.model.specs.Code.{Columns, Verdict, tested_of}
use Rattle.model.proofs.Bytes.{length-records}
use Rattle.model.proofs.Replies.{written-fits, written-not}
use Rattle.machine_state.specs.State.{State}
use Rattle.machine_state.specs.Finished.{finished_in}
use Rattle.machine.specs.View.{reached_of}
use Rattle.machine.specs.Ready.{Ready}
use Rattle.machine.proofs.Ends.{finished-is, outcome-is}

-- the three writes of the code: the registers, memory behind them, and one word more
filled : (registers memory room : List ℕ) (own : ℕ) → length registers ≡ 16 → length memory ≡ 8 → 25 ≤ length room
    → set (take 16 (registers ++ drop 16 room) ++ (memory ++ drop 8 (drop 16 (registers ++ drop 16 room)))) 24 own ≡ ((registers ++ memory) ++ (own ∷ [])) ++ drop 25 room
filled registers memory room own a b l =
    let words : length (registers ++ memory) ≡ 24 = simp length-append (omega arith) in
    let behind : drop 24 room ≡ get_or room 24 0 ∷ drop 25 room = drop-cons room 24 0 (omega arith) in
    let rest : drop 8 (drop 16 (registers ++ drop 16 room)) ≡ drop 24 room = ap (drop 8) (drop_at registers (drop 16 room) 16 a) ∙ drop-drop 8 16 room in
    rw (take_at registers (drop 16 room) 16 a, rest, ← append_assoc registers memory (drop 24 room), behind)
    ((λ j. set ((registers ++ memory) ++ get_or room 24 0 ∷ drop 25 room) (sym words j) own)
    ∙ set-append_seam (registers ++ memory) (get_or room 24 0) (drop 25 room) own ∙ sym (append_assoc (registers ++ memory) (own ∷ []) (drop 25 room)))

module _ (g : Columns) (m : State) (ready : Ready g m) (end : Verdict) (trace room : List ℕ) where
  abbrev told : Reply
  told = replied room (tested_of end (reached_of g m)) (checked_at trace room)

  pub refused-already : (r : Refused) → end ≡ Err r → refuse (number_of r.why) r.place room ≡ told
  unfolding replied
  refused-already r p = rw p

  -- the trace passed, and f is whether the machine is finished
  module _ (p : end ≡ Ok tt) (f : Bool) (finished : f ≡ finished_in g m) where
    pub unfinished : f ≡ false → refuse 12 (length trace / 8) room ≡ told
    unfolding replied checked_at reported
    unfinished n = rw (p, ← finished-is g m ready, ← finished, n, length-records trace)

    pub too_small : f ≡ true → length room < 25 → refuse 13 25 room ≡ told
    unfolding replied checked_at reported
    too_small n l = rw (p, ← finished-is g m ready, ← finished, n) (sym (written-not _ 25 _ room l))

    pub reports : f ≡ true → 25 ≤ length room
        → done (length trace / 8) (set (take 16 (m.registers ++ drop 16 room) ++ (m.memory ++ drop 8 (drop 16 (m.registers ++ drop 16 room)))) 24 m.own) ≡ told
    unfolding replied checked_at reported words
    reports n l =
        rw (p, ← finished-is g m ready, ← finished, n, outcome-is g m ready, length-records trace)
        (rw (filled m.registers m.memory room m.own ready.long.registers ready.long.memory l) (sym (written-fits (length trace / 8) 25 ((m.registers ++ m.memory) ++ (m.own ∷ [])) room l)))
