-- What an answer of the call speaks of: 19, 20 and 21 of a place in the text, and 0 of records in the room.
use mathlib.Core.Path.{◌≡◌, refl, sym, subst}
use mathlib.Core.Logic.{inl, inr}
use mathlib.Core.List.{List, [], ◌∷◌, ◌++◌}
use Prim.Native.Nat.{ℕ, ◌+◌, ◌*◌, ◌≤◌}
use native.Mathlib.Omega.{arith}
use lib.ListN.{length, length-append}
use Rattle.model.specs.declared.record.Record.{Record}
use Rattle.std.specs.Prelude.{Ok, Err}
use Rattle.model.specs.declared.answer.Refused.{Refused}
use Rattle.model.specs.Sizes.{record_size}
use Rattle.model.specs.Lists.{All, In}
use Rattle.model.specs.Tests.{Tested, refused}
use Rattle.model.specs.Reply.{Reply, reply_of}
use Rattle.model.proofs.Tests.{passed-refused}
use Rattle.model.proofs.Given.{table-number}
use Rattle.litmus_model.specs.Tokens.{Placed, TokensFrom, none, blank, token}
use Rattle.litmus_model.specs.Answers.{Answers, inside, outside, unended, wrong}
use Rattle.litmus_model.specs.Imports.{Imports, text_refused, table_refused, too_small}
use Rattle.litmus_model.specs.Call.{imported}
use Rattle.litmus_model.proofs.Imports.{imports-exactly}
use Rattle.litmus_model.proofs.Replies.{text-number}
use Rattle.program_read.specs.Places.{InText}

-- ---- a token lies in the text

tokens-inside : {k i : ℕ} {bs : List ℕ} {ts : List Placed} → TokensFrom k i bs ts → (n : ℕ) → i + length bs ≤ n → All (λ (t : Placed). t.at ≤ n) ts
tokens-inside none n h = tt
tokens-inside (blank e r) n h = tokens-inside r n (omega arith)
tokens-inside (token {w = w} {rest = rest} p r) n h = (omega arith, tokens-inside r n (omega (arith, length-append w rest)))

one_inside : {n : ℕ} (before after : List Placed) (t : Placed) → All (λ (t : Placed). t.at ≤ n) (before ++ t ∷ after) → t.at ≤ n
one_inside [] after t h = h.0
one_inside (s ∷ before) after t h = one_inside before after t h.1

answer-inside : {size : ℕ} {ts : List Placed} {a : Tested (List Record)} (n i : ℕ) → Answers size ts a → All (λ (t : Placed). t.at ≤ size) ts → a ≡ refused n i → i ≤ size
answer-inside {size} n i (inside f x) all e = absurd (passed-refused e)
answer-inside {size} n i (outside before after t q f h) all e =
    let same : t.at ≡ i = cc in
    subst (λ (j : ℕ). j ≤ size) same (one_inside before after t (subst (All (λ (t : Placed). t.at ≤ size)) q all))
answer-inside {size} n i (unended f h) all e = let same : size ≡ i = cc in omega arith
answer-inside {size} n i (wrong before after t q f b w) all e =
    let same : t.at ≡ i = cc in
    subst (λ (j : ℕ). j ≤ size) same (one_inside before after t (subst (All (λ (t : Placed). t.at ≤ size)) q all))

-- ---- the numbers

text-above : {n : ℕ} → In n (19 ∷ 20 ∷ 21 ∷ []) → 19 ≤ n
text-above (inl e) = omega arith
text-above (inr (inl e)) = omega arith
text-above (inr (inr (inl e))) = omega arith
text-above {n = n} (inr (inr (inr x3))) = elim x3 [ ]

reply-inside : (text room : List ℕ) (q : Reply) → Imports text room q → 19 ≤ q.number → q.place ≤ length text
reply-inside text room q (text_refused {n} {i} g) h = answer-inside n i g.answer (tokens-inside g.tokens (length text) (omega arith)) refl
reply-inside text room q (table_refused {n} {r = r} entries before after g x w) h = let k = table-number entries r n w in absurd (omega arith)
reply-inside text room q (too_small entries rs g x l) h = absurd (omega arith)
reply-inside text room q (Imports.imported entries rs g x l) h = absurd (omega arith)

reply-fits : (text room : List ℕ) (q : Reply) → Imports text room q → q.number ≡ 0 → q.place * record_size ≤ length room
reply-fits text room q (text_refused {n} {i} g) e = let k = text-above (text-number text n i g) in absurd (omega arith)
reply-fits text room q (table_refused {n} {r = r} entries before after g x w) e = let k = table-number entries r n w in absurd (omega arith)
reply-fits text room q (too_small entries rs g x l) e = absurd (omega arith)
reply-fits text room q (Imports.imported entries rs g x l) e = omega arith

-- ---- the answers

module _ (text room after : List ℕ) where
  pub in-text : (r : Refused) → reply_of (Err r) after ≡ imported text room → InText r.why r.place (length text)
  in-text r e h = reply-inside text room _ ((imports-exactly text room _).0 (sym e)) h

  pub in-room : (k : ℕ) → reply_of (Ok k) after ≡ imported text room → k * record_size ≤ length room
  in-room k e = reply-fits text room _ ((imports-exactly text room _).0 (sym e)) refl
