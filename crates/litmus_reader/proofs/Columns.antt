-- The headings, token by token.
use mathlib.Core.Path.{◌≡◌, refl, ap, sym, ◌∙◌}
use mathlib.Core.Bool.{Bool, true, false, cond}
use mathlib.Core.Option.{Option, none, some}
use mathlib.Core.List.{List, [], ◌∷◌, append-nil}
use Prim.Native.Nat.{ℕ, suc, ◌+◌, ◌/◌, ◌%◌, ◌≤◌, ◌<◌}
use native.Mathlib.Omega.{arith}
use lib.ListN.{length}
use borrow.Author.Tests.{lt-ltb, lt-leb}
use Rattle.model.specs.declared.record.Record.{Record}
use Rattle.model.specs.Tests.{refused, unless}
use Rattle.litmus_model.specs.Bytes.{Token, same}
use Rattle.litmus_model.specs.Forms.{semicolon, bar, a_processor, decimal_from, heading}
use Rattle.litmus_model.specs.Answers.{seen_on}
use Rattle.litmus_model.specs.Reader.{row, at_heading, behind_heading, beginning, step, fault, is_at_end, carried}
use Rattle.litmus_model.proofs.Bools.{same_true}
use Rattle.std.specs.declared.ops.Range.{Range}
use Rattle.litmus_token.specs.Spans.{part_of, Unnamed, Spans}
use Rattle.litmus_reader.specs.Passing.{answer}
use Rattle.litmus_reader.proofs.Steps.{refused-at, went-at, plain_at, not-empty, later}

-- ---- one heading

heading-two : (n : ℕ) → n ≤ 4 → heading n ≡ 80 ∷ (48 + n) ∷ []
unfolding heading decimal_from
heading-two n h = ap (λ (b : Bool). 80 ∷ cond b ((48 + n) ∷ []) (decimal_from n (n / 10) ((48 + n % 10) ∷ []))) (lt-ltb n 10 (omega arith))

pub is-heading : (n : ℕ) (t : Token) → n ≤ 4 → same (80 ∷ (48 + n) ∷ []) t ≡ same (heading n) t
is-heading n t h = ap (λ (w : Token). same w t) (sym (heading-two n h))

-- ---- the tokens

behind-name : Unnamed 2
behind-name e = omega arith

abbrev Stands : List ℕ → ℕ → Range ℕ → Type 0
Stands text at s = Spans Unnamed text at s

pub heading-refused : (text : List ℕ) (at n : ℕ) (s : Range ℕ) (seen : List ℕ) (rs : List Record) → Stands text at s → same (heading n) (part_of text s) ≡ false
    → answer text at (at_heading n) seen rs ≡ refused 19 s.start
unfolding step is_at_end
heading-refused text at n s seen rs sp e = refused-at 2 text at s (at_heading n) seen rs sp behind-name refl (rw e)

heading-there : (n : ℕ) (t : Token) → same (heading n) t ≡ true → ¬ (t ≡ [])
unfolding heading
heading-there n t e = not-empty 80 (decimal_from (suc n) n []) t e

heading-went : (text : List ℕ) (at n : ℕ) (s : Range ℕ) (seen : List ℕ) (rs : List Record) → Stands text at s → same (heading n) (part_of text s) ≡ true
    → answer text at (at_heading n) seen rs ≡ unless (fault seen (a_processor n)) s.start (answer text s.end (behind_heading (suc n)) seen rs)
unfolding step seen_on
heading-went text at n s seen rs sp e =
    went-at 2 text at s (at_heading n) seen rs (behind_heading (suc n)) (a_processor n) [] sp behind-name (heading-there n _ e) (rw e)
    ∙ ap (unless (fault seen (a_processor n)) s.start) ((λ i. carried (length text) (behind_heading (suc n)) seen (append-nil rs i) (later 1 text s.end i)))

pub heading-fifth : (text : List ℕ) (at n : ℕ) (s : Range ℕ) (seen : List ℕ) (rs : List Record) → Stands text at s → same (heading n) (part_of text s) ≡ true → n ≡ 4
    → answer text at (at_heading n) seen rs ≡ refused 20 s.start
unfolding fault unless
heading-fifth text at n s seen rs sp e f = heading-went text at n s seen rs sp e ∙ ap (λ (k : ℕ). unless (fault seen (a_processor k)) s.start (answer text s.end (behind_heading (suc n)) seen rs)) f

pub heading-on : (text : List ℕ) (at n : ℕ) (s : Range ℕ) (seen : List ℕ) (rs : List Record) → Stands text at s → same (heading n) (part_of text s) ≡ true → n < 4
    → answer text at (at_heading n) seen rs ≡ answer text s.end (behind_heading (suc n)) seen rs
unfolding fault unless
heading-on text at n s seen rs sp e f =
    heading-went text at n s seen rs sp e ∙ ap (λ (b : Bool). unless (cond {A = Option ℕ} b (some 20) none) s.start (answer text s.end (behind_heading (suc n)) seen rs)) (lt-leb 4 n f)

-- ---- and the mark behind it

no-bar : (t : Token) → same semicolon t ≡ true → same bar t ≡ false
unfolding same
no-bar t e = ap (same bar) (sym (same_true semicolon t e))

pub semicolon-on : (text : List ℕ) (at n : ℕ) (s : Range ℕ) (seen : List ℕ) (rs : List Record) → Stands text at s → same semicolon (part_of text s) ≡ true
    → answer text at (behind_heading n) seen rs ≡ answer text s.end (beginning (row n 0)) seen rs
unfolding step
semicolon-on text at n s seen rs sp e =
    plain_at 2 text at s (behind_heading n) seen rs (beginning (row n 0)) sp behind-name (not-empty 59 [] _ e) (rw (no-bar _ e, e)) ∙ ap (carried (length text) (beginning (row n 0)) seen rs) (later 1 text s.end)

pub bar-on : (text : List ℕ) (at n : ℕ) (s : Range ℕ) (seen : List ℕ) (rs : List Record) → Stands text at s → same bar (part_of text s) ≡ true
    → answer text at (behind_heading n) seen rs ≡ answer text s.end (at_heading n) seen rs
unfolding step
bar-on text at n s seen rs sp e =
    plain_at 2 text at s (behind_heading n) seen rs (at_heading n) sp behind-name (not-empty 124 [] _ e) (rw e) ∙ ap (carried (length text) (at_heading n) seen rs) (later 1 text s.end)

pub mark-refused : (text : List ℕ) (at n : ℕ) (s : Range ℕ) (seen : List ℕ) (rs : List Record) → Stands text at s → same semicolon (part_of text s) ≡ false → same bar (part_of text s) ≡ false
    → answer text at (behind_heading n) seen rs ≡ refused 19 s.start
unfolding step is_at_end
mark-refused text at n s seen rs sp e f = refused-at 2 text at s (behind_heading n) seen rs sp behind-name refl (rw (f, e))
