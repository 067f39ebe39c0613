-- The run is finished when the code says so, and its result is in the state.
use mathlib.Core.Path.{◌≡◌, refl, sym, ap, ◌∙◌}
use mathlib.Core.Bool.{Bool, true, false, ◌&&◌}
use mathlib.Core.List.{List, ◌++◌}
use Prim.Native.Nat.{ℕ, ◌<◌}
use native.Mathlib.Omega.{arith}
use lib.ListN.{get_or}
use lib.Dec.{eqb, lit<}
use borrow.Author.Tests.{eqb-true, eqb-false}
use Rattle.model.specs.Sizes.{processors}
use Rattle.model.specs.Step.{is_empty}
use Rattle.model.specs.Reply.{registers_in, outcome}
use Rattle.model.specs.Finish.{is_done, are_done, is_finished}
use Rattle.model.specs.Code.{Columns, count_in}
use Rattle.model.proofs.Rows.{rows_whole}
use Rattle.machine_state.specs.Finished.{done_at, finished_in}
use Rattle.machine.specs.View.{todo_in, processor_of, machine_of}
use Rattle.machine.specs.Ready.{ReadyAt, Ready}
use Rattle.machine.proofs.Todo.{none_left, next-left}
use Rattle.machine.proofs.Logs.{waits-none}
use Rattle.machine_state.specs.State.{State}

module _ (g : Columns) (m : State) (ready : Ready g m) where
  abbrev done : ℕ → Bool
  done p = done_at g m p

  at-end : (p : ℕ) → p < processors → is_empty (todo_in g m p) ≡ eqb (get_or m.at p 0) (count_in g p)
  unfolding is_empty todo_in
  at-end p h = go (eqb a (count_in g p)) refl
    where
      a : ℕ
      a = get_or m.at p 0

      r : ReadyAt g m p
      r = ready.each p h

      go : (b : Bool) → eqb a (count_in g p) ≡ b → is_empty (todo_in g m p) ≡ b
      go true e = let z = eqb-true a (count_in g p) e in rw (none_left g p a (get_or m.phase p 0) (omega arith))
      go false e =
          let n = eqb-false a (count_in g p) e in
          let o = r.stands.at in
          let l : a < count_in g p = omega arith in
          rw (next-left g p a (get_or m.phase p 0) (ready.fits.each p a h l).kind l (r.stands.inside l))

  pub done-is : (p : ℕ) → p < processors → is_done (processor_of g m p) ≡ done p
  unfolding is_done processor_of
  done-is p h =
      let r = ready.each p h in
      let w = r.room in
      λ j. at-end p h j && waits-none m p h ready.long r.order (omega arith) j

  four-and : (a b c d : Bool) → (a && b && c && d) ≡ (a && (b && (c && (d && true))))
  four-and true true true true = refl
  four-and true true true false = refl
  four-and true true false d = refl
  four-and true false c d = refl
  four-and false b c d = refl

  pub finished-is : finished_in g m ≡ is_finished (machine_of g m)
  unfolding is_finished machine_of are_done
  finished-is =
      four-and (done 0) (done 1) (done 2) (done 3)
      ∙ (λ j. sym (done-is 0 (lit< tt)) j && (sym (done-is 1 (lit< tt)) j && (sym (done-is 2 (lit< tt)) j && (sym (done-is 3 (lit< tt)) j && true))))

  -- the outcome
  pub outcome-is : outcome (machine_of g m) ≡ m.registers ++ m.memory
  unfolding outcome machine_of registers_in processor_of
  outcome-is = ap (λ (l : List ℕ). l ++ m.memory) (rows_whole m.registers ready.long.registers)
