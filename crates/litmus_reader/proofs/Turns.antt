-- A turn of the loop that reads a form: what the calls in it promise, put together.
use mathlib.Core.Path.{◌≡◌, ap, sym, ◌∙◌, subst}
use mathlib.Core.Bool.{Bool, true}
use mathlib.Core.Option.{none, some}
use mathlib.Core.List.{List, [], ◌∷◌, ◌++◌, map}
use Prim.Native.Nat.{ℕ, suc, ◌+◌, ◌<◌}
use native.Mathlib.Omega.{arith}
use lib.ListN.{length, drop, get_or, drop_of_length-le}
use lib.Seq.{drop-cons}
use Rattle.std.specs.Prelude as std
use Rattle.std.specs.Prelude.{Result, Ok, Err}
use Rattle.model.specs.declared.record.Record.{Record}
use Rattle.model.specs.declared.answer.Refusal.{Refusal}
use Rattle.model.specs.Lists.{In}
use Rattle.model.specs.Reply.{number_of}
use Rattle.model.specs.Tests.{refused}
use Rattle.litmus_model.specs.Bytes.{Token}
use Rattle.litmus_model.specs.Forms.{Pattern, exactly, fits, Mention, mention, Form, form, Draft, noted, entries}
use Rattle.litmus_model.specs.Answers.{seen_on, record_of}
use Rattle.litmus_model.specs.Reader.{advance, next, beginning, fault}
use Rattle.std.specs.declared.ops.Range.{Range}
use Rattle.litmus_token.specs.Spans.{part_of, Unnamed, Spans}
use Rattle.litmus_form.specs.declared.place.Place.{Place}
use Rattle.litmus_form.specs.declared.patterns.Pattern as arm
use Rattle.litmus_form.specs.Patterns.{pattern_of}
use Rattle.litmus_form.specs.Flags.{form_at, code_at, all_forms, alives, Advanced, First}
use Rattle.litmus_form.specs.Places.{context_of, mark_in}
use Rattle.litmus_form.proofs.Alives.{alive-forms}
use Rattle.litmus_form.proofs.Alive.{Alive, first-alive, none-alive, kind_at, length_at, length_most}
use Rattle.litmus_form.proofs.Alives as table
use Rattle.litmus_form.proofs.Places.{table_of}
use Rattle.litmus_said.specs.Saying.{underway, Notes, well, wrong}
use Rattle.litmus_reader.specs.Keeping.{given}
use Rattle.litmus_reader.specs.Passing.{answer}
use Rattle.litmus_reader.specs.Forming.{in_form}
use Rattle.litmus_reader.proofs.Steps.{past}
use Rattle.litmus_reader.proofs.Cells.{Reading, there, cell-none, cell-wrong, cell-closed, cell-on, closed-record}

-- ---- what is noted

not-both : {A : Type 0} {out : Result Record Refusal} {u : Record} {why : Refusal} → out ≡ Ok u → out ≡ Err why → A
not-both {A} {out} {u} {why} e f = let z : ◌≡◌ {A = Result Record Refusal} (Ok u) (Err why) = sym e ∙ f in cc

noted-wrong : {r : Record} {m : Mention} {seen after : List ℕ} {out : Result Record Refusal} (why : Refusal) → Notes r m seen out after → out ≡ Err why → fault seen m ≡ some (number_of why)
noted-wrong why (well u e f s h) o = not-both e o
noted-wrong why (wrong w e f) o = let same : ◌≡◌ {A = Result Record Refusal} (Err w) (Err why) = sym e ∙ o in let is : w ≡ why = cc in f ∙ ap (λ (x : Refusal). some (number_of x)) is

record Well-noted (r : Record) (m : Mention) (seen : List ℕ) (u : Record) (after : List ℕ) : Type 0 where
  pub right : fault seen m ≡ none
  pub seen-is : after ≡ seen_on seen m
  pub says : (d : Draft) → r ≡ underway seen d → u ≡ underway after (noted d m)

noted-well : {r : Record} {m : Mention} {seen after : List ℕ} {out : Result Record Refusal} (u : Record) → Notes r m seen out after → out ≡ Ok u → Well-noted r m seen u after
noted-well {r} {m} {seen} {after} u (well v e f s h) o = record { right = f; seen-is = s; says = λ d x. sym is ∙ h d x }
  where
    is : v ≡ u
    is = let same : ◌≡◌ {A = Result Record Refusal} (Ok v) (Ok u) = sym e ∙ o in cc
noted-well u (wrong w e f) o = not-both o e

-- ---- the turn

module _ (text : List ℕ) (start : ℕ) (place : Place) (before seen : List ℕ) (alive : List Bool) (r : Record) (at i : ℕ)
    (reading : Reading text start place before seen alive r at i) (s : Range ℕ) (stands : Spans Unnamed text at s) (inside : s.start < length text)
    (left : List Bool) (first-is : std.Option ℕ) (mark : ℕ) (mark-is : mark ≡ mark_in place) (twelve : length alive ≡ 12) (twelve-left : length left ≡ 12)
    (advanced : Advanced alive mark i (part_of text s) left) (first : First left first-is) where
  abbrev here : Token
  here = part_of text s

  abbrev forms : List Form
  forms = alives (all_forms (mark_in place)) alive i

  starts : (b : ℕ) × (t : Token) × (here ≡ b ∷ t)
  starts = there text at s stands inside

  not-empty : ¬ (here ≡ [])
  not-empty z = let w : ◌≡◌ {A = Token} (starts.0 ∷ starts.1) [] = sym starts.2 ∙ z in let v : ◌≡◌ {A = ℕ} 0 1 = cc in omega arith

  went_on : Advanced alive (mark_in place) i (starts.0 ∷ starts.1) left
  went_on = subst (λ (t : Token). Advanced alive (mark_in place) i t left) starts.2 (subst (λ (k : ℕ). Advanced alive k i here left) mark-is advanced)

  pub turn-none : first-is ≡ std.None → (rs : List Record) → answer text start (in_form place) before rs ≡ refused 19 s.start
  turn-none h =
      cell-none text start place before seen alive r at i reading s stands
      (ap (advance forms) starts.2 ∙ none-alive alive left (mark_in place) i starts.0 starts.1 first-is (table_of place) twelve twelve-left went_on first h)

  pub turn-past : at < s.end
  turn-past = past text at s not-empty stands

  pub fitted : (j : ℕ) → first-is ≡ std.Some j → Alive (mark_in place) j i forms here
  fitted j h = subst (Alive (mark_in place) j i forms) (sym starts.2) (first-alive alive left (mark_in place) i j starts.0 starts.1 first-is (table_of place) twelve went_on first h)

  module _ (j : ℕ) (is-first : first-is ≡ std.Some j) (code : arm.Pattern) (code_is : code ≡ code_at mark j i) where
    few : j < 12
    few = (first.found j is-first).0

    fit : Alive (mark_in place) j i forms here
    fit = fitted j is-first

    code-there : code_at (mark_in place) j i ≡ code
    code-there = sym (code_is ∙ ap (λ (k : ℕ). code_at k j i) mark-is)

    pub fits-there : fits (pattern_of code) here ≡ true
    fits-there = subst (λ (k : arm.Pattern). fits (pattern_of k) here ≡ true) code-there fit.fitting

    among : In (form fit.kind (pattern_of code ∷ fit.rest)) forms
    among = subst (λ (k : arm.Pattern). In (form fit.kind (pattern_of k ∷ fit.rest)) forms) code-there fit.among

    pub turn-wrong : {out : Result Record Refusal} {after : List ℕ} (why : Refusal) → Notes r (mention (pattern_of code) here) seen out after → out ≡ Err why
        → (rs : List Record) → answer text start (in_form place) before rs ≡ refused (number_of why) s.start
    turn-wrong why n o = cell-wrong text start place before seen alive r at i reading s stands fit.kind (pattern_of code) fit.rest (number_of why) among fits-there not-empty (noted-wrong why n o)

    abbrev patterns : List Pattern
    patterns = (get_or (all_forms (mark_in place)) j table.none).patterns

    pub turn-closed : {out : Result Record Refusal} {after : List ℕ} (u r₁ : Record) → Notes r (mention (pattern_of code) here) seen out after → out ≡ Ok u
        → i + 1 ≡ (form_at j).length
        → r₁ ≡ record { kind = (form_at j).kind; processor = u.processor; register = u.register; location = u.location; value = u.value }
        → (rs : List Record) → answer text start (in_form place) before rs ≡ answer text s.end (beginning (next (context_of place))) after (rs ++ given r₁)
    turn-closed {out} {after} u r₁ n o long is rs =
        let w = noted-well u n o in
        let l = length_at (mark_in place) j few in
        let none_left : fit.rest ≡ [] = fit.is-rest ∙ drop_of_length-le patterns {i = suc i} (omega arith) in
        let a : In (form fit.kind (pattern_of code ∷ [])) forms = subst (λ (ps : List Pattern). In (form fit.kind (pattern_of code ∷ ps)) forms) none_left among in
        let m = mention (pattern_of code) here in
        let k : fit.kind ≡ (form_at j).kind = fit.is-kind ∙ kind_at (mark_in place) j few in
        let e = noted reading.draft m in
        let q : seen_on seen m ≡ after = sym w.seen-is in
        cell-closed text start place before seen alive r at i reading s stands fit.kind (pattern_of code) a fits-there not-empty w.right rs
        ∙ (λ x. answer text s.end (beginning (next (context_of place))) (q x) (rs ++ map (record_of (q x)) (entries (k x) e)))
        ∙ ap (λ (l : List Record). answer text s.end (beginning (next (context_of place))) after (rs ++ l)) (closed-record _ after e u r₁ (w.says reading.draft reading.record_is) is)

    pub turn-shorter : ¬ (i + 1 ≡ (form_at j).length) → i + 1 < 8
    turn-shorter long =
        let l = length_at (mark_in place) j few in
        let b = length_most (mark_in place) j few in
        let a = fit.more in
        omega (arith, long)

    pub turn_on : {out : Result Record Refusal} {after : List ℕ} (u : Record) → Notes r (mention (pattern_of code) here) seen out after → out ≡ Ok u
        → ¬ (i + 1 ≡ (form_at j).length) → Reading text start place before after left u s.end (suc i)
    turn_on {out} {after} u n o long =
        let w = noted-well u n o in
        let l = length_at (mark_in place) j few in
        let a = fit.more in
        let more : suc i < length patterns = omega (arith, long) in
        let rest : fit.rest ≡ get_or patterns (suc i) (exactly []) ∷ drop (suc (suc i)) patterns = fit.is-rest ∙ drop-cons patterns (suc i) (exactly []) more in
        let m = mention (pattern_of code) here in
        subst (λ (l : List ℕ). Reading text start place before l left u s.end (suc i)) (sym w.seen-is)
        (cell-on text start place before seen alive r at i reading s stands fit.kind (pattern_of code) (get_or patterns (suc i) (exactly [])) (drop (suc (suc i)) patterns) left u
        (subst (λ (ps : List Pattern). In (form fit.kind (pattern_of code ∷ ps)) forms) rest among) fits-there not-empty w.right
        (ap (advance forms) starts.2 ∙ alive-forms alive left (mark_in place) i starts.0 starts.1 (table_of place) twelve twelve-left went_on)
        (w.says reading.draft reading.record_is ∙ ap (λ (l : List ℕ). underway l (noted reading.draft m)) w.seen-is))
