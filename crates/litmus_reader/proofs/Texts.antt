-- A whole text: its parts, one behind the other.
use mathlib.Core.Path.{◌≡◌, ap, ◌∙◌, subst}
use mathlib.Core.List.{List, []}
use Prim.Native.Nat.{ℕ, ◌≤◌, ◌<◌}
use lib.ListN.{length, take}
use Rattle.record.specs.Words.{records_in}
use Rattle.model.specs.declared.record.Record.{Record}
use Rattle.std.specs.Prelude.{Result, Ok, Err}
use Rattle.model.specs.declared.answer.Refused.{Refused}
use Rattle.model.specs.Reply.{number_of}
use Rattle.model.specs.Tests.{refused}
use Rattle.litmus_model.specs.Reader.{beginning, braces, row, at_heading, at_end, read_text}
use Rattle.litmus_token.specs.Spans.{ahead}
use Rattle.litmus_form.specs.declared.place.Place.TheVariants.{Braces, Row}
use Rattle.litmus_reader.specs.declared.records.Records.{Records}
use Rattle.litmus_reader.specs.Keeping.{Keeps}
use Rattle.litmus_reader.specs.Passing.{answer, onward, Ahead, headed_on, HeadedAhead, HeadingsRead}
use Rattle.litmus_reader.specs.Forming.{FormsRead, TextRead}
use Rattle.litmus_reader.proofs.Sequence.{at-end}

keeps-none : (k : Records) → k.count ≡ 0 → Keeps k []
keeps-none k e = record { first = ap (λ (n : ℕ). records_in (take n k.words)) e; count-is = e }

pub ahead-on : (i : ℕ) (text : List ℕ) (out : Result ℕ Refused) (at : ℕ) → Ahead i text out → out ≡ Ok at → (i ≤ at) × (at ≤ length text)
ahead-on i text out at a e = subst (Ahead i text) e a

pub headed-on : {i : ℕ} {text : List ℕ} {out : Result (ℕ × ℕ) Refused} (v : ℕ × ℕ) → HeadingsRead text i out → out ≡ Ok v → (i ≤ v.1) × (v.1 ≤ length text) × (0 < v.0) × (v.0 ≤ 4)
headed-on {i} {text} v h e = subst (HeadedAhead i text) e h.further

-- a part is refused
pub text-refused : {text : List ℕ} {kept : Records} (r : Refused) → read_text text ≡ refused (number_of r.why) r.place → TextRead text (Err r) kept
text-refused r e = record { rs = []; says = e; counts = tt }

-- ---- the head

module _ (text : List ℕ) (out : Result ℕ Refused) (head : read_text text ≡ onward out (λ at. answer text at (beginning braces) [] [])) where
  pub head-refused : (r : Refused) → out ≡ Err r → read_text text ≡ refused (number_of r.why) r.place
  head-refused r e = head ∙ ap (λ (o : Result ℕ Refused). onward o (λ at. answer text at (beginning braces) [] [])) e

  pub head-on : (at : ℕ) → out ≡ Ok at → read_text text ≡ answer text at (beginning braces) [] []
  head-on at e = head ∙ ap (λ (o : Result ℕ Refused). onward o (λ at. answer text at (beginning braces) [] [])) e

-- ---- what is read so far, up to some place of the automaton

pub record Through (text : List ℕ) (at : ℕ) (seen : List ℕ) (kept : Records) : Type 0 where
  pub all : List Record
  pub keeps : Keeps kept all
  pub says : read_text text ≡ answer text at (at_heading 0) seen all

module _ {text : List ℕ} {at : ℕ} {kept : Records} {out : Result ℕ Refused} {after : List ℕ} {kept_after : Records}
    (none : kept.count ≡ 0) (so_far : read_text text ≡ answer text at (beginning braces) [] []) (cells : FormsRead text at Braces [] kept out after kept_after) where
  pub cells-refused : (r : Refused) → out ≡ Err r → read_text text ≡ refused (number_of r.why) r.place
  cells-refused r e =
      let x = cells.each [] (keeps-none kept none) in
      so_far ∙ x.2 ∙ ap (λ (o : Result ℕ Refused). onward o (λ j. answer text j (at_heading 0) after x.0)) e

  pub cells-on : (end : ℕ) → out ≡ Ok end → Through text end after kept_after
  cells-on end e =
      let x = cells.each [] (keeps-none kept none) in
      record { all = x.0; keeps = x.1; says = so_far ∙ x.2 ∙ ap (λ (o : Result ℕ Refused). onward o (λ j. answer text j (at_heading 0) after x.0)) e }

-- ---- the headings and the rows

module _ {text : List ℕ} {at : ℕ} {seen : List ℕ} {kept : Records} {out : Result (ℕ × ℕ) Refused} (so_far : Through text at seen kept) (headings : HeadingsRead text at out) where
  pub headings-refused : (r : Refused) → out ≡ Err r → read_text text ≡ refused (number_of r.why) r.place
  headings-refused r e =
      so_far.says ∙ headings.says seen so_far.all ∙ ap (λ (o : Result (ℕ × ℕ) Refused). headed_on o (λ n j. answer text j (beginning (row n 0)) seen so_far.all)) e

  headings-on : (v : ℕ × ℕ) → out ≡ Ok v → read_text text ≡ answer text v.1 (beginning (row v.0 0)) seen so_far.all
  headings-on v e = so_far.says ∙ headings.says seen so_far.all ∙ ap (λ (o : Result (ℕ × ℕ) Refused). headed_on o (λ m j. answer text j (beginning (row m 0)) seen so_far.all)) e

  module _ (v : ℕ × ℕ) {end : Result ℕ Refused} {after : List ℕ} {kept_after : Records} (is : out ≡ Ok v) (read : FormsRead text v.1 (Row (v.0, 0)) seen kept end after kept_after) where
    pub rows-refused : (r : Refused) → end ≡ Err r → read_text text ≡ refused (number_of r.why) r.place
    rows-refused r e =
        let x = read.each so_far.all so_far.keeps in
        headings-on v is ∙ x.2 ∙ ap (λ (o : Result ℕ Refused). onward o (λ j. answer text j at_end after x.0)) e

    pub text-read : (j : ℕ) → end ≡ Ok j → TextRead text (Ok tt) kept_after
    text-read j e =
        let x = read.each so_far.all so_far.keeps in
        record {
          rs = x.0;
          says = headings-on v is ∙ x.2 ∙ ap (λ (o : Result ℕ Refused). onward o (λ i. answer text i at_end after x.0)) e ∙ at-end (length text) after x.0 (ahead 2 text j);
          counts = x.1;
        }
