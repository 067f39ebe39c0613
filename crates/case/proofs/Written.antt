-- The steps of the loops over words.
use mathlib.Core.Path.{◌≡◌, refl, sym, ap, ◌∙◌}
use mathlib.Core.List.{List, ◌++◌, append_assoc, append-nil}
use Prim.Native.Nat.{ℕ, zero, suc, ◌+◌, ◌*◌, ◌<◌}
use native.Mathlib.Numerals.{add-one}
use native.Mathlib.Omega.{arith}
use lib.ListN.{length, drop, set, length-append}
use lib.Seq.{drop-cons, set_at, drop-length}
use Rattle.model.specs.Sizes.{word_size}
use Rattle.model.specs.Record.{value_at, four_bytes}
use Rattle.record.proofs.Stores.{Pieces}
use Rattle.case.specs.Words.{words_in, bytes_in}

-- ---- words that are read

pub words_long : (bytes : List ℕ) (n : ℕ) → length (words_in bytes n) ≡ n
unfolding words_in
words_long bytes zero = refl
words_long bytes (suc n) = length-append (words_in bytes n) _ ∙ omega (arith, words_long bytes n)

-- i words are read, and the others are as they were: one more
pub reads-one : (bytes words : List ℕ) (i : ℕ) → i < length words
    → set (words_in bytes i ++ drop i words) i (value_at bytes (i * word_size)) ≡ words_in bytes (i + 1) ++ drop (i + 1) words
unfolding words_in
reads-one bytes words i h =
    ap (λ (rest : List ℕ). set (words_in bytes i ++ rest) i (value_at bytes (i * word_size))) (drop-cons words i 0 h)
    ∙ set_at (words_in bytes i) _ _ _ i (words_long bytes i) ∙ rw add-one (sym (append_assoc (words_in bytes i) _ (drop (suc i) words)))

pub reads_all : (bytes words : List ℕ) (i : ℕ) → i ≡ length words → words_in bytes i ++ drop i words ≡ words_in bytes (length words)
reads_all bytes words i e = ap (λ (n : ℕ). words_in bytes n ++ drop n words) e ∙ rw (drop-length words) (append-nil (words_in bytes (length words)))

-- ---- words that are written

pub pieces : Pieces word_size four_bytes bytes_in
unfolding bytes_in
pieces = record { sized = λ w. refl; none = refl; more = λ w ws. refl }
