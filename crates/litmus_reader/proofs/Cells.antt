-- A form, token by token.
use mathlib.Core.Path.{◌≡◌, refl, ap, sym, ◌∙◌, subst}
use mathlib.Core.Bool.{Bool, true, cond}
use mathlib.Core.Option.{Option, none, some}
use mathlib.Core.List.{List, [], ◌∷◌, ◌++◌, map, append-nil}
use Prim.Native.Nat.{ℕ, zero, suc, ◌-◌, ◌≤◌, ◌<◌}
use native.Mathlib.Omega.{arith}
use lib.ListN.{length, take, drop, get_or}
use lib.Seq.{drop-cons}
use lib.Dec.{eqb}
use borrow.Author.Tests.{ne_eqb}
use Rattle.model.specs.declared.record.Record.{Record}
use Rattle.model.specs.Lists.{In}
use Rattle.model.specs.Tests.{Tested, refused, unless}
use Rattle.litmus_model.specs.Bytes.{Token}
use Rattle.litmus_model.specs.Forms.{Pattern, fits, mention, Form, form, Draft, noted, entries}
use Rattle.litmus_model.specs.Answers.{seen_on, record_of}
use Rattle.litmus_model.specs.Reader.{advance, mention_in, judged, progress, Context, forms_in, draft_in, next, beginning, within, stuck, went, on_with, step, fault, is_at_end, carried}
use Rattle.litmus_model.proofs.Forms.{Separate, separate-on}
use Rattle.litmus_model.proofs.Progress.{progress-last, progress-more, forms-separate}
use Rattle.std.specs.declared.ops.Range.{Range}
use Rattle.litmus_token.specs.Spans.{part_of, Unnamed, Spans, ended, token}
use Rattle.litmus_form.specs.declared.place.Place.{Place}
use Rattle.litmus_form.specs.Flags.{all_forms, alives}
use Rattle.litmus_form.specs.Places.{context_of, mark_in, flags_in, blank_in}
use Rattle.litmus_form.proofs.Places.{begun}
use Rattle.litmus_said.specs.Saying.{underway}
use Rattle.litmus_reader.specs.Keeping.{given}
use Rattle.litmus_reader.specs.Passing.{answer}
use Rattle.litmus_reader.specs.Forming.{in_form}
use Rattle.litmus_reader.proofs.Steps.{refused-at, ended_at, went-at, later}

-- ---- where the reader is: in a form, behind i of its tokens

pub record Reading (text : List ℕ) (start : ℕ) (place : Place) (before seen : List ℕ) (alive : List Bool) (r : Record) (at i : ℕ) : Type 0 where
  pub draft : Draft
  pub says : (rs : List Record) → answer text start (in_form place) before rs ≡ answer text at (within (context_of place) (alives (all_forms (mark_in place)) alive i) draft) seen rs
  pub separate : Separate (alives (all_forms (mark_in place)) alive i)
  pub record_is : r ≡ underway seen draft

blank-draft : (place : Place) (seen : List ℕ) → blank_in place ≡ underway seen (draft_in (context_of place))
unfolding record_of draft_in
blank-draft Place.Braces seen = refl
blank-draft (Place.Row c) seen = refl

pub begin : (text : List ℕ) (start : ℕ) (place : Place) (seen : List ℕ) (alive : List Bool) (r : Record) → alive ≡ flags_in place → r ≡ blank_in place → Reading text start place seen seen alive r start 0
begin text start place seen alive r a b =
    let forms : forms_in (context_of place) ≡ alives (all_forms (mark_in place)) alive 0 = sym (ap (λ (l : List Bool). alives (all_forms (mark_in place)) l 0) a ∙ begun place) in
    record {
      draft = draft_in (context_of place);
      says = λ rs. ap (λ (fs : List Form). answer text start (within (context_of place) fs (draft_in (context_of place))) seen rs) forms;
      separate = subst Separate forms (forms-separate (context_of place));
      record_is = b ∙ blank-draft place seen;
    }

-- ---- the token

behind-name : Unnamed 2
behind-name e = omega arith

pub there : (text : List ℕ) (at : ℕ) (s : Range ℕ) → Spans Unnamed text at s → s.start < length text → (b : ℕ) × (t : Token) × (part_of text s ≡ b ∷ t)
there text at s (ended f t n) h = absurd (omega arith)
there text at s (token a b l n) h =
    let m : s.end - s.start ≡ suc (s.end - suc s.start) = omega arith in
    (get_or text s.start 0, take (s.end - suc s.start) (drop (suc s.start) text), ap (λ (k : ℕ). take k (drop s.start text)) m ∙ ap (take (suc (s.end - suc s.start))) (drop-cons text s.start 0 h))

not-nothing : {b : ℕ} {t u : Token} → u ≡ b ∷ t → ¬ (u ≡ [])
not-nothing {b} {t} e z = let w : ◌≡◌ {A = Token} (b ∷ t) [] = sym e ∙ z in let v : ◌≡◌ {A = ℕ} 0 1 = cc in omega arith

step-last : (c : Context) (fs : List Form) (d : Draft) (t : Token) (k : ℕ) (p : Pattern) → Separate fs → In (form k (p ∷ [])) fs → fits p t ≡ true
    → step (within c fs d) t ≡ went (beginning (next c)) (mention p t) (entries k (noted d (mention p t)))
unfolding step on_with
step-last c fs d t k p s i h = ap (on_with c) (progress-last fs d t k p s i h)

step-more : (c : Context) (fs : List Form) (d : Draft) (t : Token) (k : ℕ) (p q : Pattern) (ps : List Pattern) → Separate fs → In (form k (p ∷ q ∷ ps)) fs → fits p t ≡ true
    → step (within c fs d) t ≡ went (within c (advance fs t) (noted d (mention p t))) (mention p t) []
unfolding step on_with
step-more c fs d t k p q ps s i h = ap (on_with c) (progress-more fs d t k p q ps s i h)

step-none : (c : Context) (fs : List Form) (d : Draft) (t : Token) → advance fs t ≡ [] → step (within c fs d) t ≡ stuck
unfolding step on_with progress judged
step-none c fs d t e = ap (λ (gs : List Form). on_with c (judged gs (noted d (mention_in fs t)) (mention_in fs t))) e

unless-none : {A : Type 0} (o : Option ℕ) (i : ℕ) (a : Tested A) → o ≡ none → unless o i a ≡ a
unfolding unless
unless-none o i a e = rw e

unless-some : {A : Type 0} (o : Option ℕ) (n i : ℕ) (a : Tested A) → o ≡ some n → unless o i a ≡ refused n i
unfolding unless
unless-some o n i a e = rw e

-- ---- one more token

module _ (text : List ℕ) (start : ℕ) (place : Place) (before seen : List ℕ) (alive : List Bool) (r : Record) (at i : ℕ)
    (reading : Reading text start place before seen alive r at i) (s : Range ℕ) (stands : Spans Unnamed text at s) where
  abbrev forms : List Form
  forms = alives (all_forms (mark_in place)) alive i

  abbrev here : Token
  here = part_of text s

  -- the text ends
  pub cell-unended : length text ≤ s.start → (rs : List Record) → answer text start (in_form place) before rs ≡ refused 19 s.start
  unfolding is_at_end
  cell-unended e rs = reading.says rs ∙ ended_at 2 text at s (within (context_of place) forms reading.draft) seen rs stands behind-name e refl

  -- no form goes on with it
  pub cell-none : advance forms here ≡ [] → (rs : List Record) → answer text start (in_form place) before rs ≡ refused 19 s.start
  unfolding is_at_end
  cell-none e rs = reading.says rs ∙ refused-at 2 text at s (within (context_of place) forms reading.draft) seen rs stands behind-name refl (step-none (context_of place) forms reading.draft here e)

  -- it says something wrong
  pub cell-wrong : (k : ℕ) (p : Pattern) (ps : List Pattern) (n : ℕ) → In (form k (p ∷ ps)) forms → fits p here ≡ true → ¬ (here ≡ []) → fault seen (mention p here) ≡ some n
      → (rs : List Record) → answer text start (in_form place) before rs ≡ refused n s.start
  cell-wrong k p [] n a f e w rs =
      reading.says rs
      ∙ went-at 2 text at s _ seen rs _ (mention p here) _ stands behind-name e (step-last (context_of place) forms reading.draft here k p reading.separate a f)
      ∙ unless-some (fault seen (mention p here)) n s.start _ w
  cell-wrong k p (q ∷ ps) n a f e w rs =
      reading.says rs
      ∙ went-at 2 text at s _ seen rs _ (mention p here) _ stands behind-name e (step-more (context_of place) forms reading.draft here k p q ps reading.separate a f)
      ∙ unless-some (fault seen (mention p here)) n s.start _ w

  -- it closes a form
  pub cell-closed : (k : ℕ) (p : Pattern) → In (form k (p ∷ [])) forms → fits p here ≡ true → ¬ (here ≡ []) → fault seen (mention p here) ≡ none
      → (rs : List Record) → answer text start (in_form place) before rs
      ≡ answer text s.end (beginning (next (context_of place))) (seen_on seen (mention p here)) (rs ++ map (record_of (seen_on seen (mention p here))) (entries k (noted reading.draft (mention p here))))
  cell-closed k p a f e w rs =
      reading.says rs
      ∙ went-at 2 text at s _ seen rs _ (mention p here) _ stands behind-name e (step-last (context_of place) forms reading.draft here k p reading.separate a f)
      ∙ unless-none (fault seen (mention p here)) s.start _ w
      ∙ ap (carried (length text) (beginning (next (context_of place))) (seen_on seen (mention p here)) (rs ++ map (record_of (seen_on seen (mention p here))) (entries k (noted reading.draft (mention p here))))) (later 1 text s.end)

  -- or goes on in one
  pub cell-on : (k : ℕ) (p q : Pattern) (ps : List Pattern) (left : List Bool) (r₁ : Record) → In (form k (p ∷ q ∷ ps)) forms → fits p here ≡ true → ¬ (here ≡ []) → fault seen (mention p here) ≡ none
      → advance forms here ≡ alives (all_forms (mark_in place)) left (suc i) → r₁ ≡ underway (seen_on seen (mention p here)) (noted reading.draft (mention p here))
      → Reading text start place before (seen_on seen (mention p here)) left r₁ s.end (suc i)
  cell-on k p q ps left r₁ a f e w on same =
      record {
        draft = noted reading.draft (mention p here);
        says = λ rs.
            reading.says rs
            ∙ went-at 2 text at s _ seen rs _ (mention p here) _ stands behind-name e (step-more (context_of place) forms reading.draft here k p q ps reading.separate a f)
            ∙ unless-none (fault seen (mention p here)) s.start _ w
            ∙ (λ x. carried (length text) (within (context_of place) (on x) (noted reading.draft (mention p here))) (seen_on seen (mention p here)) (append-nil rs x) (later 1 text s.end x));
        separate = subst Separate on (separate-on forms here reading.separate);
        record_is = same;
      }

-- the record of a form that is closed
pub closed-record : (k : ℕ) (seen : List ℕ) (d : Draft) (u r : Record) → u ≡ underway seen d → r ≡ record { kind = k; processor = u.processor; register = u.register; location = u.location; value = u.value }
    → map (record_of seen) (entries k d) ≡ given r
unfolding entries record_of
closed-record zero seen d u r e h = sym (ap given h)
closed-record (suc k) seen d u r e h =
    ap (λ (x : Record). record { kind = suc k; processor = x.processor; register = x.register; location = x.location; value = x.value } ∷ []) (sym e)
    ∙ ap (λ (x : Record). x ∷ []) (sym h)
    ∙ sym (ap (λ (b : Bool). cond b [] (r ∷ [])) (ap (λ (x : Record). eqb x.kind 0) h ∙ ne_eqb (suc k) 0 (λ z. omega (arith, z))))
