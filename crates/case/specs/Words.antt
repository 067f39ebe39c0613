-- Words as bytes: four each, lowest first.
use Rattle.std.specs.Prelude.{List, [], ◌∷◌, ◌++◌, ℕ, zero, suc, ◌+◌, ◌*◌, ◌/◌, ◌%◌}
use Rattle.model.specs.Sizes.{word_size, values}
use Rattle.model.specs.Record.{value_at, four_bytes}
use Rattle.record.specs.Bytes.{with_value}

-- the first n words of these bytes
unfoldable pub words_in : List ℕ → ℕ → List ℕ
words_in bytes zero = []
words_in bytes (suc n) = words_in bytes n ++ (value_at bytes (n * word_size) ∷ [])

-- the bytes of words
unfoldable pub bytes_in : List ℕ → List ℕ
bytes_in [] = []
bytes_in (w ∷ ws) = four_bytes w ++ bytes_in ws

-- the bytes with a number of two words from `at` on
unfoldable pub with_long : List ℕ → ℕ → ℕ → List ℕ
with_long bytes at v = with_value (with_value bytes at (v % values)) (at + word_size) (v / values)
