-- A turn of a loop that enters records one by one, and its ends.
use mathlib.Core.Path.{◌≡◌, sym, ap, ◌∙◌, subst⁻¹}
use mathlib.Core.Bool.{false}
use mathlib.Core.List.{List, [], ◌∷◌, ◌++◌, map, map-append}
use Prim.Native.Nat.{ℕ, suc, ◌+◌, ◌≤◌, ◌<◌}
use native.Mathlib.Numerals.{add-one}
use lib.ListN.{length, take, drop, get_or, drop_of_length-le}
use lib.Seq.{take-suc, drop-cons}
use Rattle.model.specs.declared.record.Record.{Record}
use Rattle.std.specs.Prelude.{Ok, Err}
use Rattle.model.specs.declared.answer.Refused.{Refused}
use Rattle.model.specs.declared.table.Cells.{Cells}
use Rattle.model.specs.Kinds.{Entry, entry_of}
use Rattle.model.specs.Reply.{number_of}
use Rattle.model.specs.Tests.{Tested, passed, refused, unless, in_order}
use Rattle.model.specs.Reading.{read_record, own_tests}
use Rattle.model.specs.Code.{Columns, Verdict, tested_of, Fits, Sized}
use Rattle.model.proofs.InOrder.{in-order-more, in-order-stop}
use Rattle.model.proofs.Verdicts.{gives_none, gives-any}
use Rattle.table_record.specs.declared.given.Given.{Given}
use Rattle.table_record.specs.Given.{Formed, crowded_in, place_tests, noted_in}
use Rattle.table_record.proofs.Forms.{formed}
use Rattle.table_record.specs.Enter.{cells_with, program_with, if_passed, Enters}
use Rattle.table.proofs.Holding.{Holds, tests_agree, next-holds}

-- the entries of the first i records
abbrev pub entries : List Record → ℕ → List Entry
entries rs i = map entry_of (take i rs)

-- what all records give, and what those from i on give behind these entries
abbrev pub all : List Record → Tested (List Entry)
all rs = in_order read_record 0 [] rs

abbrev pub onward : List Record → ℕ → Tested (List Entry)
onward rs i = in_order read_record i (entries rs i) (drop i rs)

pub ends : (rs : List Record) (i : ℕ) → length rs ≤ i → onward rs i ≡ all rs → all rs ≡ passed (entries rs i)
unfolding in_order
ends rs i l e = sym e ∙ ap (in_order read_record i (entries rs i)) (drop_of_length-le rs {i = i} l)

-- what a verdict leaves, once it is known
leaves : {A : Type 0} (new old : A) {x : A} {v u : Verdict} → v ≡ u → x ≡ if_passed v new old → x ≡ if_passed u new old
leaves new old e h = h ∙ ap (λ (w : Verdict). if_passed w new old) e

-- record i is tested and entered; where there is none, o would be read
module _ (rs : List Record) (o : Record) {g : Columns} {c : Cells} {s : Given} {i : ℕ} {r : Record} {v : Verdict} {h : Columns} {d : Cells} {w : Given} (inside : i < length rs)
    (holds : Holds g c s (entries rs i)) (rest : onward rs i ≡ all rs) (read : r ≡ get_or rs i o) (entered : Enters g c s i r v h d w) where
  -- the entries so far, with that of r
  abbrev with-r : List Entry
  with-r = entries rs i ++ (entry_of r ∷ [])

  more : drop i rs ≡ r ∷ drop (suc i) rs
  more = drop-cons rs i o inside ∙ ap (λ (q : Record). q ∷ drop (suc i) rs) (sym read)

  judged : read_record i (entries rs i) r ≡ tested_of v with-r
  unfolding read_record
  judged = sym (gives-any v (own_tests r ++ place_tests s g (entry_of r)) i with-r entered.gives ∙ ap (λ t. unless t i (passed with-r)) (tests_agree g c s (entries rs i) holds r))

  -- what there was before stays
  pub stops : (q : Refused) → v ≡ Err q → (all rs ≡ refused (number_of q.why) q.place) × Fits h × Sized d
  stops q e =
      let j : read_record i (entries rs i) r ≡ refused (number_of q.why) q.place = judged ∙ ap (λ (u : Verdict). tested_of u with-r) e in (
        sym rest ∙ ap (in_order read_record i (entries rs i)) more ∙ in-order-stop read_record i (entries rs i) r (drop (suc i) rs) (number_of q.why) q.place j,
        subst⁻¹ Fits (leaves (program_with g r (entry_of r)) g e entered.program) holds.fits,
        subst⁻¹ Sized (leaves (cells_with c (entry_of r)) c e entered.cells) holds.sized,
      )

  clear : v ≡ Ok tt → Formed r × (crowded_in g (entry_of r) ≡ false)
  clear e = let a = gives_none v (own_tests r ++ place_tests s g (entry_of r)) i entered.gives e in (formed r a.0 a.1.0 a.1.1.0, a.1.1.1.1.1.0)

  grown : with-r ≡ entries rs (i + 1)
  grown =
      ap (λ (q : Record). entries rs i ++ (entry_of q ∷ [])) read ∙ sym (map-append entry_of (take i rs) (get_or rs i o ∷ []))
      ∙ ap (map entry_of) (sym (take-suc rs i o inside)) ∙ ap (entries rs) (sym (add-one i))

  pub holds_on : v ≡ Ok tt → Holds h d w (entries rs (i + 1))
  holds_on e =
      let f = clear e in
      rw (leaves (program_with g r (entry_of r)) g e entered.program, leaves (cells_with c (entry_of r)) c e entered.cells, leaves (noted_in s (entry_of r)) s e entered.given, ← grown)
      (next-holds g c s (entries rs i) holds r f.0 f.1)

  pub goes_on : v ≡ Ok tt → onward rs (i + 1) ≡ all rs
  goes_on e =
      let j : read_record i (entries rs i) r ≡ passed with-r = judged ∙ ap (λ (u : Verdict). tested_of u with-r) e in
      rw (← grown, add-one)
      (sym (in-order-more read_record i (entries rs i) with-r r (drop (suc i) rs) j) ∙ ap (in_order read_record i (entries rs i)) (sym more) ∙ rest)
