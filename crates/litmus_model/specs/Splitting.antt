-- The tokens of a text, as a function.
use Rattle.std.specs.Prelude.{Bool, cond, List, [], ◌∷◌, ℕ, zero, suc, take, eqb}
use Rattle.litmus_model.specs.Bytes.{is_blank, in_word, in_name, is_number, same}
use Rattle.litmus_model.specs.Forms.{exists}
use Rattle.litmus_model.specs.Tokens.{Placed}

-- how long the run of such bytes is that stands here
unfoldable pub run : (ℕ → Bool) → List ℕ → ℕ
run f [] = 0
run f (b ∷ bs) = let r = run f bs in cond (f b) (suc r) 0

-- the length of the number that stands here, as a whole run of letters and digits; 0: none
unfoldable pub number_length : List ℕ → ℕ
unfolding run in_word Rattle.litmus_model.specs.Bytes.some
number_length bs = let n = run in_word bs in cond (is_number (take n bs)) n 0

unfoldable pub one_more : ℕ → ℕ
one_more zero = 0
one_more (suc n) = suc (suc n)

-- of a number with perhaps a minus sign
unfoldable pub signed_length : List ℕ → ℕ
unfolding number_length one_more
signed_length [] = 0
signed_length (b ∷ bs) = cond (eqb b 45) (one_more (number_length bs)) (number_length (b ∷ bs))

-- the bytes behind the first one of the token that begins with b
unfoldable pub behind : ℕ → List ℕ → ℕ
unfolding run in_word signed_length same
behind b bs =
    cond (in_word b) (run in_word bs)
    (cond (eqb b 36) (signed_length bs)
    (cond (eqb b 45) (number_length bs)
    (cond (eqb b 126) (cond (same exists (take (run in_word bs) bs)) 6 0) 0)))

-- the same for the second token, the name
unfoldable pub behind_in : ℕ → ℕ → List ℕ → ℕ
unfolding behind run in_name
behind_in zero b bs = behind b bs
behind_in (suc zero) b bs = cond (in_name b) (run in_name bs) 0
behind_in (suc (suc k)) b bs = behind b bs

-- from offset i on, where k tokens stand before and the first `skip` bytes belong to the last of them
unfoldable pub tokens_from : ℕ → ℕ → ℕ → List ℕ → List Placed
unfolding behind_in
tokens_from k skip i [] = []
tokens_from k (suc skip) i (b ∷ bs) = tokens_from k skip (suc i) bs
tokens_from k zero i (b ∷ bs) =
    let n = behind_in k b bs in
    let on = tokens_from (suc k) n (suc i) bs in
    let token = b ∷ take n bs in
    let off = tokens_from k zero (suc i) bs in
    cond (is_blank b) off (record { at = i; token = token } ∷ on)

unfoldable pub tokens : List ℕ → List Placed
unfolding tokens_from
tokens text = tokens_from 0 0 0 text
