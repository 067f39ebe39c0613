-- Forms one after the other.
use mathlib.Core.Path.{◌≡◌, refl, ap, sym, ◌∙◌, subst}
use mathlib.Core.Bool.{Bool, true, false, cond}
use mathlib.Core.List.{List, [], ◌∷◌, ◌++◌, append-nil}
use Prim.Native.Nat.{ℕ, zero, suc, ◌≤◌, ◌<◌}
use native.Mathlib.Omega.{arith}
use lib.ListN.{length}
use lib.Dec.{eqb}
use Rattle.model.specs.declared.record.Record.{Record}
use Rattle.std.specs.Prelude.{Ok, Err}
use Rattle.model.specs.declared.answer.Refused.{Refused}
use Rattle.model.specs.Reply.{number_of}
use Rattle.model.specs.Tests.{passed, refused, unless}
use Rattle.litmus_model.specs.Bytes.{Token, same}
use Rattle.litmus_model.specs.Tokens.{Placed}
use Rattle.litmus_model.specs.Forms.{nothing, is_end}
use Rattle.litmus_model.specs.Answers.{seen_on}
use Rattle.litmus_model.specs.Reader.{Context, braces, row, forms_in, draft_in, next, Control, at_end, beginning, within, Stepped, stuck, went, leaves, left, step, fault, is_at_end, carried}
use Rattle.litmus_model.proofs.Bools.{false-true}
use Rattle.litmus_model.proofs.Following.{follow-end, follow-stuck, follow-went}
use Rattle.std.specs.declared.ops.Range.{Range}
use Rattle.litmus_token.specs.Spans.{ahead, part_of, Unnamed, Spans, ended, token}
use Rattle.litmus_form.specs.declared.place.Place.{Place}
use Rattle.litmus_form.specs.Places.{context_of, next_in}
use Rattle.litmus_form.proofs.Places.{next-context}
use Rattle.litmus_reader.specs.Keeping.{given}
use Rattle.litmus_reader.specs.Passing.{answer}
use Rattle.litmus_reader.specs.Forming.{in_form, Cell, closed, CellAhead, FormRead}
use Rattle.litmus_reader.proofs.Steps.{plain_at, later}

behind-name : Unnamed 2
behind-name e = omega arith

-- ---- the token that ends them

leaves-some : (c : Context) (t : Token) → leaves c t ≡ true → ¬ (t ≡ [])
unfolding leaves same is_end
leaves-some braces t e z = false-true (sym (ap (leaves braces) z) ∙ e)
leaves-some (row n zero) t e z = false-true (sym (ap (leaves (row n zero)) z) ∙ e)
leaves-some (row n (suc p)) t e z = false-true e

pub leaves-on : (text : List ℕ) (at : ℕ) (s : Range ℕ) (c : Context) (seen : List ℕ) (rs : List Record) → Spans Unnamed text at s → leaves c (part_of text s) ≡ true
    → answer text at (beginning c) seen rs ≡ answer text s.end (left c) seen rs
unfolding step
leaves-on text at s c seen rs sp e =
    plain_at 2 text at s (beginning c) seen rs (left c) sp behind-name (leaves-some c _ e) (rw e) ∙ ap (carried (length text) (left c) seen rs) (later 1 text s.end)

-- ---- any other begins a form

alike : (size : ℕ) (c d : Control) (seen : List ℕ) (rs : List Record) (t : Placed) (ts : List Placed) → step c t.token ≡ step d t.token → carried size c seen rs (t ∷ ts) ≡ carried size d seen rs (t ∷ ts)
alike size c d seen rs t ts e = go (step d t.token) refl
  where
    go : (x : Stepped) → step d t.token ≡ x → carried size c seen rs (t ∷ ts) ≡ carried size d seen rs (t ∷ ts)
    go stuck h = follow-stuck size c seen rs t ts (e ∙ h) ∙ sym (follow-stuck size d seen rs t ts h)
    go (went k m fs) h = follow-went size c seen rs t ts k m fs (e ∙ h) ∙ sym (follow-went size d seen rs t ts k m fs h)

begins : (c : Context) (t : Token) → leaves c t ≡ false → step (beginning c) t ≡ step (within c (forms_in c) (draft_in c)) t
unfolding step
begins c t e = rw e

pub to-form : (text : List ℕ) (at : ℕ) (s : Range ℕ) (place : Place) (seen : List ℕ) (rs : List Record) → Spans Unnamed text at s → leaves (context_of place) (part_of text s) ≡ false
    → answer text at (beginning (context_of place)) seen rs ≡ answer text at (in_form place) seen rs
unfolding is_at_end
to-form text at s place seen rs (ended f t n) e =
    ap (carried (length text) (beginning (context_of place)) seen rs) (n 2 behind-name) ∙ follow-end (length text) (beginning (context_of place)) seen rs
    ∙ sym (ap (carried (length text) (in_form place) seen rs) (n 2 behind-name) ∙ follow-end (length text) (in_form place) seen rs)
to-form text at s place seen rs (token a b l n) e =
    ap (carried (length text) (beginning (context_of place)) seen rs) (n 2 behind-name)
    ∙ alike (length text) (beginning (context_of place)) (in_form place) seen rs (record { at = s.start; token = part_of text s }) (ahead 3 text s.end) (begins (context_of place) (part_of text s) e)
    ∙ sym (ap (carried (length text) (in_form place) seen rs) (n 2 behind-name))

-- ---- a form that is read

pub form-refused : {text : List ℕ} {at : ℕ} {place : Place} {seen after : List ℕ} {out : Cell} (r : Refused) → FormRead text at place seen out after → out ≡ Err r
    → (rs : List Record) → answer text at (in_form place) seen rs ≡ refused (number_of r.why) r.place
form-refused {text} {at} {place} {seen} {after} r f e rs =
    f.says rs ∙ ap (λ (o : Cell). closed o (λ j q. answer text j (beginning (next (context_of place))) after (rs ++ given q))) e

pub form-on : {text : List ℕ} {at : ℕ} {place : Place} {seen after : List ℕ} {out : Cell} (c : Record × ℕ) (behind : Place) → FormRead text at place seen out after → out ≡ Ok c → behind ≡ next_in place
    → (rs : List Record) → answer text at (in_form place) seen rs ≡ answer text c.1 (beginning (context_of behind)) after (rs ++ given c.0)
form-on {text} {at} {place} {seen} {after} c behind f e n rs =
    f.says rs ∙ ap (λ (o : Cell). closed o (λ j q. answer text j (beginning (next (context_of place))) after (rs ++ given q))) e
    ∙ ap (λ (k : Context). answer text c.1 (beginning k) after (rs ++ given c.0)) (sym (ap context_of n ∙ next-context place))

pub form-ahead : {text : List ℕ} {at : ℕ} {place : Place} {seen after : List ℕ} {out : Cell} (c : Record × ℕ) → FormRead text at place seen out after → out ≡ Ok c → (at < c.1) × (c.1 ≤ length text)
form-ahead {text} {at} c f e = subst (CellAhead at text) e f.further

-- the cells lead to the headings, the rows to the end
pub left-next : (place : Place) → left (context_of (next_in place)) ≡ left (context_of place)
unfolding next
left-next place = ap left (next-context place) ∙ go (context_of place)
  where
    either : (n p : ℕ) (b : Bool) → left (cond b (row n 0) (row n (suc p))) ≡ at_end
    either n p true = refl
    either n p false = refl

    go : (c : Context) → left (next c) ≡ left c
    go braces = refl
    go (row n p) = either n p (eqb (suc p) n)

-- ---- behind the end word nothing is looked at

pub at-end : (size : ℕ) (seen : List ℕ) (rs : List Record) (ts : List Placed) → carried size at_end seen rs ts ≡ passed rs
unfolding step fault seen_on unless is_at_end
at-end size seen rs [] = follow-end size at_end seen rs
at-end size seen rs (t ∷ ts) = follow-went size at_end seen rs t ts at_end nothing [] refl ∙ ap (λ (l : List Record). carried size at_end seen l ts) (append-nil rs) ∙ at-end size seen rs ts
