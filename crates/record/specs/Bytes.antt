-- A file with another value or another record in it.
use Rattle.std.specs.Prelude.{List, ◌++◌, ℕ, ◌+◌, ◌*◌, length, take, drop}
use Rattle.model.specs.declared.record.Record.{Record}
use Rattle.model.specs.Sizes.{record_size}
use Rattle.model.specs.Record.{four_bytes, bytes_of}

-- the bytes with these from `at` on; all others are kept
abbrev pub with : List ℕ → ℕ → List ℕ → List ℕ
with bytes at these = take at bytes ++ these ++ drop (at + length these) bytes

unfoldable pub with_value : List ℕ → ℕ → ℕ → List ℕ
with_value bytes at v = with bytes at (four_bytes v)

-- r for their record i
unfoldable pub with_record : List ℕ → ℕ → Record → List ℕ
with_record bytes i r = with bytes (i * record_size) (bytes_of r)
