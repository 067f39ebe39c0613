-- Tables and traces are files of 8-byte records (document 01, "Records").
use Rattle.std.specs.Prelude.{List, [], ◌∷◌, ◌++◌, ℕ, zero, suc, ◌+◌, ◌*◌, ◌/◌, ◌%◌, length, get_or}
use Rattle.model.specs.declared.record.Record.{Record}
use Rattle.model.specs.Sizes.{record_size}

-- a value in four bytes, lowest first
abbrev pub value_of : ℕ → ℕ → ℕ → ℕ → ℕ
value_of a b c d = a + b * 256 + c * 65536 + d * 16777216

-- the value in the four bytes from `at` on
unfoldable pub value_at : List ℕ → ℕ → ℕ
value_at bytes at = value_of (get_or bytes at 0) (get_or bytes (at + 1) 0) (get_or bytes (at + 2) 0) (get_or bytes (at + 3) 0)

-- record i of a file: kind, processor, register, location, value
unfoldable pub record_at : List ℕ → ℕ → Record
unfolding value_at
record_at bytes i =
    let at = i * record_size in
    record {
      kind = get_or bytes at 0;
      processor = get_or bytes (at + 1) 0;
      register = get_or bytes (at + 2) 0;
      location = get_or bytes (at + 3) 0;
      value = value_at bytes (at + 4);
    }

-- n records from record i on
unfoldable pub records_from : List ℕ → ℕ → ℕ → List Record
unfolding record_at
records_from bytes i zero = []
records_from bytes i (suc n) = record_at bytes i ∷ records_from bytes (suc i) n

-- the whole records of a file
unfoldable pub records : List ℕ → List Record
unfolding records_from
records bytes = records_from bytes 0 (length bytes / record_size)

-- the bytes of a record, and of a file of them
abbrev pub four_bytes : ℕ → List ℕ
four_bytes v = v % 256 ∷ v / 256 % 256 ∷ v / 65536 % 256 ∷ v / 16777216 % 256 ∷ []

abbrev pub bytes_of : Record → List ℕ
bytes_of r = r.kind ∷ r.processor ∷ r.register ∷ r.location ∷ four_bytes r.value

unfoldable pub file_of : List Record → List ℕ
file_of [] = []
file_of (r ∷ rs) = bytes_of r ++ file_of rs
