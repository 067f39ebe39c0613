-- The next token: blanks are skipped, and behind a token stand those ahead of it.
use mathlib.Core.Path.{◌≡◌, refl, ap, sym, ◌∙◌, subst}
use mathlib.Core.Bool.{Bool, true, false, cond}
use mathlib.Core.List.{List, [], ◌∷◌}
use Prim.Native.Nat.{ℕ, zero, suc, ◌+◌, ◌-◌, ◌≤◌, ◌<◌}
use native.Mathlib.Omega.{arith}
use lib.ListN.{length, take, drop, get_or, drop_of_length-le, length-drop}
use lib.Seq.{drop-cons, drop-drop, get_or-drop}
use Rattle.litmus_model.specs.Bytes.{is_blank, in_name}
use Rattle.litmus_model.specs.Splitting.{run, behind, behind_in, tokens_from}
use Rattle.litmus_model.proofs.Splitting.{placed, on-blank, on-token, skipped}
use Rattle.std.specs.declared.ops.Range.{Range}
use Rattle.litmus_token.specs.Spans.{ahead, Named, Unnamed, Spans, ended, token}

-- ---- blanks

skip-blanks : (k i : ℕ) (l : List ℕ) → tokens_from k 0 i l ≡ tokens_from k 0 (i + run is_blank l) (drop (run is_blank l) l)
unfolding run
skip-blanks k i [] = let z : i ≡ i + 0 = omega arith in ap (λ (j : ℕ). tokens_from k 0 j []) z
skip-blanks k i (b ∷ bs) = go (is_blank b) refl (skip-blanks k (suc i) bs)
  where
    go : (x : Bool) → is_blank b ≡ x → tokens_from k 0 (suc i) bs ≡ tokens_from k 0 (suc i + run is_blank bs) (drop (run is_blank bs) bs)
        → tokens_from k 0 i (b ∷ bs) ≡ tokens_from k 0 (i + cond x (suc (run is_blank bs)) 0) (drop (cond x (suc (run is_blank bs)) 0) (b ∷ bs))
    go true e r = let z : suc i + run is_blank bs ≡ i + suc (run is_blank bs) = omega arith in on-blank k i b bs e ∙ r ∙ ap (λ (j : ℕ). tokens_from k 0 j (drop (run is_blank bs) bs)) z
    go false e r = let z : i ≡ i + 0 = omega arith in ap (λ (j : ℕ). tokens_from k 0 j (b ∷ bs)) z

run-stopped : (f : ℕ → Bool) (l : List ℕ) → run f l < length l → f (get_or l (run f l) 0) ≡ false
unfolding run
run-stopped f [] h = absurd (omega arith)
run-stopped f (b ∷ bs) h = go (f b) refl h (λ k. run-stopped f bs k)
  where
    go : (x : Bool) → f b ≡ x → cond x (suc (run f bs)) 0 < suc (length bs) → (run f bs < length bs → f (get_or bs (run f bs) 0) ≡ false) → f (get_or (b ∷ bs) (cond x (suc (run f bs)) 0) 0) ≡ false
    go true e k r = r (omega arith)
    go false e k r = e

from-blanks : (k : ℕ) (text : List ℕ) (at from : ℕ) → from ≡ at + run is_blank (drop at text) → ahead k text at ≡ ahead k text from
from-blanks k text at from e =
    let n = run is_blank (drop at text) in
    skip-blanks k at (drop at text) ∙ ap (tokens_from k 0 (at + n)) (drop-drop n at text) ∙ ap (λ (j : ℕ). ahead k text j) (sym e)

not-blank : (text : List ℕ) (at from : ℕ) → from ≡ at + run is_blank (drop at text) → from < length text → is_blank (get_or text from 0) ≡ false
not-blank text at from e h =
    let n = run is_blank (drop at text) in
    let l = length-drop at text in
    sym (ap is_blank (get_or-drop at text n 0 ∙ ap (λ (j : ℕ). get_or text j 0) (sym e))) ∙ run-stopped is_blank (drop at text) (omega arith)

-- ---- a token

token-ahead : (k : ℕ) (text : List ℕ) (from to : ℕ) → from < length text → is_blank (get_or text from 0) ≡ false → to ≡ suc from + behind_in k (get_or text from 0) (drop (suc from) text)
    → ahead k text from ≡ placed from (take (to - from) (drop from text)) ∷ ahead (suc k) text to
token-ahead k text from to h b e =
    let x = get_or text from 0 in
    let bs = drop (suc from) text in
    let n = behind_in k x bs in
    let m : suc n ≡ to - from = omega arith in
    let t : x ∷ take n bs ≡ take (to - from) (drop from text) = ap (take (suc n)) (sym (drop-cons text from 0 h)) ∙ ap (λ (j : ℕ). take j (drop from text)) m in
    let r : tokens_from (suc k) n (suc from) bs ≡ ahead (suc k) text to = skipped (suc k) n (suc from) bs ∙ ap (tokens_from (suc k) 0 (suc from + n)) (drop-drop n (suc from) text) ∙ ap (λ (j : ℕ). ahead (suc k) text j) (sym e) in
    ap (tokens_from k 0 from) (drop-cons text from 0 h) ∙ on-token k from x bs b ∙ (λ i. placed from (t i) ∷ r i)

-- behind any number of tokens but one
unnamed : (k b : ℕ) (bs : List ℕ) → Unnamed k → behind b bs ≡ behind_in k b bs
unfolding behind_in
unnamed zero b bs u = refl
unnamed (suc zero) b bs u = absurd (u refl)
unnamed (suc (suc k)) b bs u = refl

-- ---- what the code finds

none_left : (text : List ℕ) (at from : ℕ) → from ≡ at + run is_blank (drop at text) → length text ≤ from → (k : ℕ) → ahead k text at ≡ []
unfolding tokens_from
none_left text at from e h k = from-blanks k text at from e ∙ ap (tokens_from k 0 from) (drop_of_length-le text h)

pub spans-none : (K : ℕ → Type 0) (text : List ℕ) (at from : ℕ) (s : Range ℕ) → from ≡ at + run is_blank (drop at text) → from ≤ length text → length text ≤ from → s.start ≡ from → s.end ≡ from → Spans K text at s
spans-none K text at from s e l h f t = ended (omega arith) (omega arith) (λ k _. none_left text at from e h k)

spans-to : (K : ℕ → Type 0) (text : List ℕ) (at : ℕ) (s : Range ℕ) → s.start ≡ at + run is_blank (drop at text) → at ≤ s.start → s.start < length text → s.end ≤ length text
    → ((k : ℕ) → K k → s.end ≡ suc s.start + behind_in k (get_or text s.start 0) (drop (suc s.start) text)) → s.start < s.end → Spans K text at s
spans-to K text at s e a h l t m = token a m l (λ k u. from-blanks k text at s.start e ∙ token-ahead k text s.start s.end h (not-blank text at s.start e h) (t k u))

pub spans-token : (text : List ℕ) (at : ℕ) (s : Range ℕ) → s.start ≡ at + run is_blank (drop at text) → at ≤ s.start → s.start < length text
    → s.end ≡ suc s.start + behind (get_or text s.start 0) (drop (suc s.start) text) → s.end ≤ length text → s.start < s.end → Spans Unnamed text at s
spans-token text at s e a h t l m =
    spans-to Unnamed text at s e a h l (λ k u. t ∙ ap (λ (n : ℕ). suc s.start + n) (unnamed k (get_or text s.start 0) (drop (suc s.start) text) u)) m

-- ---- the name

name-run : (b : ℕ) (bs : List ℕ) → 0 < run in_name (b ∷ bs) → run in_name (b ∷ bs) ≡ suc (behind_in 1 b bs)
unfolding run behind_in
name-run b bs h = go (in_name b) h
  where
    go : (x : Bool) → 0 < cond x (suc (run in_name bs)) 0 → cond x (suc (run in_name bs)) 0 ≡ suc (cond x (run in_name bs) 0)
    go true k = refl
    go false k = absurd (omega arith)

no-name-run : (b : ℕ) (bs : List ℕ) → run in_name (b ∷ bs) ≡ 0 → behind_in 1 b bs ≡ 0
unfolding run behind_in
no-name-run b bs h = go (in_name b) h
  where
    go : (x : Bool) → cond x (suc (run in_name bs)) 0 ≡ 0 → cond x (run in_name bs) 0 ≡ 0
    go true k = absurd (omega arith)
    go false k = refl

named-run : (text : List ℕ) (from end : ℕ) → from < length text → end ≡ from + run in_name (drop from text) → end ≡ from + run in_name (get_or text from 0 ∷ drop (suc from) text)
named-run text from end h e = e ∙ ap (λ (l : List ℕ). from + run in_name l) (drop-cons text from 0 h)

pub spans-name : (text : List ℕ) (at end : ℕ) (s : Range ℕ) → s.start ≡ at + run is_blank (drop at text) → at ≤ s.start → s.start < length text
    → end ≡ s.start + run in_name (drop s.start text) → end ≤ length text → s.start < end → s.end ≡ end → Spans Named text at s
spans-name text at end s e a h n l m t =
    let b = get_or text s.start 0 in
    let bs = drop (suc s.start) text in
    let r = named-run text s.start end h n in
    let q = name-run b bs (omega arith) in
    spans-to Named text at s e a h (omega arith) (λ k u. subst (λ (j : ℕ). s.end ≡ suc s.start + behind_in j b bs) (sym u) (omega arith)) (omega arith)

pub spans-brace : (text : List ℕ) (at end : ℕ) (s : Range ℕ) → s.start ≡ at + run is_blank (drop at text) → at ≤ s.start → s.start < length text
    → end ≡ s.start + run in_name (drop s.start text) → end ≤ s.start → s.end ≡ s.start + 1 → Spans Named text at s
spans-brace text at end s e a h n m t =
    let b = get_or text s.start 0 in
    let bs = drop (suc s.start) text in
    let r = named-run text s.start end h n in
    let q = no-name-run b bs (omega arith) in
    spans-to Named text at s e a h (omega arith) (λ k u. subst (λ (j : ℕ). s.end ≡ suc s.start + behind_in j b bs) (sym u) (omega arith)) (omega arith)

-- ---- where it lies

pub bounded : {K : ℕ → Type 0} (text : List ℕ) (at : ℕ) (s : Range ℕ) → at ≤ length text → Spans K text at s → Spans K text at s × (at ≤ s.start) × (s.start ≤ s.end) × (s.end ≤ length text)
bounded text at s h (ended f t n) = (ended f t n, omega arith, omega arith, omega arith)
bounded text at s h (token a b l n) = (token a b l n, a, omega arith, l)
