-- One token of a text.
use mathlib.Core.Path.{◌≡◌, refl, ap, sym, ◌∙◌}
use mathlib.Core.Bool.{Bool, true, false, cond}
use mathlib.Core.List.{List, [], ◌∷◌, ◌++◌, map, append-nil}
use Prim.Native.Nat.{ℕ, zero, suc, ◌-◌, ◌≤◌, ◌<◌}
use native.Mathlib.Omega.{arith}
use lib.ListN.{length, take, drop}
use Rattle.model.specs.declared.record.Record.{Record}
use Rattle.model.specs.Tests.{passed, refused, unless}
use Rattle.litmus_model.specs.Bytes.{Token, is_blank, same}
use Rattle.litmus_model.specs.Forms.{Mention, nothing, Entry}
use Rattle.litmus_model.specs.Answers.{seen_on, record_of}
use Rattle.litmus_model.specs.Splitting.{behind, behind_in, tokens_from}
use Rattle.litmus_model.specs.Reader.{Control, stuck, went, step, fault, is_at_end, carried}
use Rattle.litmus_model.proofs.Bools.{false-true}
use Rattle.litmus_model.proofs.Following.{follow-end, follow-stuck, follow-went}
use Rattle.std.specs.declared.ops.Range.{Range}
use Rattle.litmus_token.specs.Spans.{ahead, part_of, Spans, ended, token}

-- ---- behind the name all is alike

same-later : (k j skip i : ℕ) (l : List ℕ) → tokens_from (suc (suc k)) skip i l ≡ tokens_from (suc (suc j)) skip i l
unfolding tokens_from behind_in
same-later k j skip i [] = refl
same-later k j (suc skip) i (b ∷ bs) = same-later k j skip (suc i) bs
same-later k j zero i (b ∷ bs) = λ x. cond (is_blank b) (same-later k j 0 (suc i) bs x) (record { at = i; token = b ∷ take (behind b bs) bs } ∷ same-later (suc k) (suc j) (behind b bs) (suc i) bs x)

pub later : (k : ℕ) (text : List ℕ) (at : ℕ) → ahead (suc (suc k)) text at ≡ ahead 2 text at
later k text at = same-later k 0 0 at (drop at text)

-- ---- the next token

part-of-none : (text : List ℕ) (s : Range ℕ) → s.start ≡ s.end → part_of text s ≡ []
part-of-none text s e = let z : s.end - s.start ≡ 0 = omega arith in ap (λ (n : ℕ). take n (drop s.start text)) z

-- there is none
pub ended_at : {K : ℕ → Type 0} (k : ℕ) (text : List ℕ) (at : ℕ) (s : Range ℕ) (c : Control) (seen : List ℕ) (rs : List Record)
    → Spans K text at s → K k → length text ≤ s.start → is_at_end c ≡ false → carried (length text) c seen rs (ahead k text at) ≡ refused 19 s.start
ended_at k text at s c seen rs (ended f t n) u h e =
    ap (carried (length text) c seen rs) (n k u) ∙ follow-end (length text) c seen rs ∙ ap (λ (b : Bool). cond b (passed rs) (refused 19 (length text))) e ∙ ap (refused 19) (sym f)
ended_at k text at s c seen rs (token a m l n) u h e = absurd (omega arith)

-- it cannot stand there, or there is none
pub refused-at : {K : ℕ → Type 0} (k : ℕ) (text : List ℕ) (at : ℕ) (s : Range ℕ) (c : Control) (seen : List ℕ) (rs : List Record)
    → Spans K text at s → K k → is_at_end c ≡ false → step c (part_of text s) ≡ stuck → carried (length text) c seen rs (ahead k text at) ≡ refused 19 s.start
refused-at k text at s c seen rs (ended f t n) u e h = ended_at k text at s c seen rs (ended f t n) u (omega arith) e
refused-at k text at s c seen rs (token a m l n) u e h =
    ap (carried (length text) c seen rs) (n k u) ∙ follow-stuck (length text) c seen rs (record { at = s.start; token = part_of text s }) (ahead (suc k) text s.end) h

-- it can
pub went-at : {K : ℕ → Type 0} (k : ℕ) (text : List ℕ) (at : ℕ) (s : Range ℕ) (c : Control) (seen : List ℕ) (rs : List Record) (c₁ : Control) (m : Mention) (fs : List Entry)
    → Spans K text at s → K k → ¬ (part_of text s ≡ []) → step c (part_of text s) ≡ went c₁ m fs
    → carried (length text) c seen rs (ahead k text at) ≡ unless (fault seen m) s.start (carried (length text) c₁ (seen_on seen m) (rs ++ map (record_of (seen_on seen m)) fs) (ahead (suc k) text s.end))
went-at k text at s c seen rs c₁ m fs (ended f t n) u e h = absurd (e (part-of-none text s (f ∙ sym t)))
went-at k text at s c seen rs c₁ m fs (token a b l n) u e h =
    ap (carried (length text) c seen rs) (n k u) ∙ follow-went (length text) c seen rs (record { at = s.start; token = part_of text s }) (ahead (suc k) text s.end) c₁ m fs h

-- behind a token that is there
pub past : {K : ℕ → Type 0} (text : List ℕ) (at : ℕ) (s : Range ℕ) → ¬ (part_of text s ≡ []) → Spans K text at s → at < s.end
past text at s e (ended f t n) = absurd (e (part-of-none text s (f ∙ sym t)))
past text at s e (token a b l n) = omega arith

-- and says nothing
pub plain_at : {K : ℕ → Type 0} (k : ℕ) (text : List ℕ) (at : ℕ) (s : Range ℕ) (c : Control) (seen : List ℕ) (rs : List Record) (c₁ : Control)
    → Spans K text at s → K k → ¬ (part_of text s ≡ []) → step c (part_of text s) ≡ went c₁ nothing [] → carried (length text) c seen rs (ahead k text at) ≡ carried (length text) c₁ seen rs (ahead (suc k) text s.end)
unfolding fault seen_on unless
plain_at k text at s c seen rs c₁ sp u e h = went-at k text at s c seen rs c₁ nothing [] sp u e h ∙ ap (λ (l : List Record). carried (length text) c₁ seen l (ahead (suc k) text s.end)) (append-nil rs)

-- ---- tokens that are there

pub not-empty : (b : ℕ) (w t : Token) → same (b ∷ w) t ≡ true → ¬ (t ≡ [])
unfolding same
not-empty b w t e z = false-true (sym (ap (same (b ∷ w)) z) ∙ e)
