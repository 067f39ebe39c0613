-- The tokens of a text: the function finds exactly those that the definition says.
use mathlib.Core.Path.{◌≡◌, refl, ap, sym, ◌∙◌, subst}
use mathlib.Core.Bool.{Bool, true, false}
use mathlib.Core.Logic.{◌↔◌}
use mathlib.Core.List.{List, [], ◌∷◌, ◌++◌}
use Prim.Native.Nat.{ℕ, zero, suc, ◌+◌}
use native.Mathlib.Omega.{arith}
use lib.ListN.{length, take, drop, take-append-drop}
use lib.Seq.{take-append_seam, drop-append_seam, length-take-le}
use Rattle.litmus_model.specs.Bytes.{Token, is_blank}
use Rattle.litmus_model.specs.Tokens.{Placed, TokensFrom, none, blank, token, Tokens}
use Rattle.litmus_model.specs.Splitting.{behind_in, tokens_from, tokens}
use Rattle.litmus_model.proofs.Pieces.{Here, piece-at, fits-at, here-at}

abbrev pub placed : ℕ → Token → Placed
placed i t = record { at = i; token = t }

-- ---- the function, step by step

pub on-blank : (k i b : ℕ) (bs : List ℕ) → is_blank b ≡ true → tokens_from k 0 i (b ∷ bs) ≡ tokens_from k 0 (suc i) bs
unfolding tokens_from
on-blank k i b bs e = rw (e, tokens_from)

pub on-token : (k i b : ℕ) (bs : List ℕ) → is_blank b ≡ false → tokens_from k 0 i (b ∷ bs) ≡ placed i (b ∷ take (behind_in k b bs) bs) ∷ tokens_from (suc k) (behind_in k b bs) (suc i) bs
unfolding tokens_from
on-token k i b bs e = rw (e, tokens_from)

-- bytes of the token before
pub skipped : (k n i : ℕ) (bs : List ℕ) → tokens_from k n i bs ≡ tokens_from k 0 (i + n) (drop n bs)
unfolding tokens_from
skipped k zero i bs = ap (λ (j : ℕ). tokens_from k 0 j bs) (omega arith)
skipped k (suc n) i [] = refl
skipped k (suc n) i (b ∷ bs) = skipped k n (suc i) bs ∙ ap (λ (j : ℕ). tokens_from k 0 j (drop n bs)) (omega arith)

-- ---- what it finds

from-same : {k i j : ℕ} {bs cs : List ℕ} {ts us : List Placed} → i ≡ j → bs ≡ cs → ts ≡ us → TokensFrom k i bs ts → TokensFrom k j cs us
from-same {k} {i} {j} {bs} {cs} {ts} {us} p q r x = subst (λ (y : ℕ). TokensFrom k y cs us) p (subst (λ (y : List ℕ). TokensFrom k i y us) q (subst (λ (y : List Placed). TokensFrom k i bs y) r x))

pub found : (k n i : ℕ) (bs : List ℕ) → TokensFrom k (i + n) (drop n bs) (tokens_from k n i bs)
unfolding tokens_from
found k zero i [] = none
found k (suc n) i [] = none
found k (suc n) i (b ∷ bs) = from-same {k = k} (omega arith) refl refl (found k n (suc i) bs)
found k zero i (b ∷ bs) = go (is_blank b) refl (found k zero (suc i) bs) (found (suc k) (behind_in k b bs) (suc i) bs)
  where
    go : (x : Bool) → is_blank b ≡ x → TokensFrom k (suc i + 0) bs (tokens_from k 0 (suc i) bs) → TokensFrom (suc k) (suc i + behind_in k b bs) (drop (behind_in k b bs) bs) (tokens_from (suc k) (behind_in k b bs) (suc i) bs)
        → TokensFrom k (i + 0) (b ∷ bs) (tokens_from k 0 i (b ∷ bs))
    go true e off on = from-same {k = k} (omega arith) refl (sym (on-blank k i b bs e)) (blank {i = i} e (from-same {k = k} (omega arith) refl refl off))
    go false e off on =
        let n = behind_in k b bs in
        let l : length (take n bs) ≡ n = length-take-le n bs (fits-at k b bs) in
        from-same {k = k} {i = i} (omega arith) (ap (λ (r : List ℕ). b ∷ r) (take-append-drop n bs)) (sym (on-token k i b bs e))
        (token {i = i} (piece-at k b bs e) (from-same {k = suc k} (omega arith) refl refl on))

-- ---- there are no others

ended : (k i : ℕ) → tokens_from k 0 i [] ≡ []
unfolding tokens_from
ended k i = refl

at-token : (k i : ℕ) (w rest : List ℕ) (ts : List Placed) → Here w rest (behind_in k) → tokens_from (suc k) 0 (i + length w) rest ≡ ts → tokens_from k 0 i (w ++ rest) ≡ placed i w ∷ ts
at-token k i w rest ts h e =
    let b = h.first in
    let v = h.others in
    let n = h.length in
    ap (λ (t : Token). tokens_from k 0 i (t ++ rest)) h.parts
    ∙ on-token k i b (v ++ rest) h.seen
    ∙ ap (λ (m : ℕ). placed i (b ∷ take m (v ++ rest)) ∷ tokens_from (suc k) m (suc i) (v ++ rest)) n
    ∙ (λ j. placed i (b ∷ take-append_seam v rest j) ∷ skipped (suc k) (length v) (suc i) (v ++ rest) j)
    ∙ (λ j. placed i (sym h.parts j) ∷ tokens_from (suc k) 0 (at_rest (ap length h.parts) j) (drop-append_seam v rest j))
    ∙ ap (λ (l : List Placed). placed i w ∷ l) e
  where
    at_rest : {m p : ℕ} → m ≡ suc p → suc i + p ≡ i + m
    at_rest q = omega arith

pub only : {k i : ℕ} {bs : List ℕ} {ts : List Placed} → TokensFrom k i bs ts → tokens_from k 0 i bs ≡ ts
only {k} {i} none = ended k i
only {k} {i} (blank {b = b} {bs = bs} e x) = on-blank k i b bs e ∙ only x
only {k} {i} (token {w = w} {rest = rest} {ts = ts} p x) = at-token k i w rest ts (here-at k p) (only x)

-- the tokens of a text
pub tokens-exactly : (text : List ℕ) (ts : List Placed) → (tokens text ≡ ts) ↔ Tokens text ts
unfolding tokens
tokens-exactly text ts = (λ e. subst (λ (x : List Placed). Tokens text x) e (found 0 0 0 text), λ x. only x)
