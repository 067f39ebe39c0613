-- What is written as records is read back; and a file behind a whole file adds its records.
use mathlib.Core.Path.{◌≡◌, refl, sym, ap, ◌∙◌}
use mathlib.Core.List.{List, [], ◌∷◌, ◌++◌}
use Prim.Native.Nat.{ℕ, zero, suc, ◌+◌, ◌*◌, ◌/◌, ◌%◌, ◌≤◌, ◌<◌}
use native.Mathlib.Nat.{add-zero}
use native.Mathlib.Omega.{arith}
use lib.ListN.{length, get_or, length-append, get_or-append}
use lib.Seq.{get_or-append-add}
use Rattle.model.specs.declared.record.Record.{Record}
use Rattle.model.specs.Sizes.{record_size, word_size, values}
use Rattle.model.specs.Record.{value_of, value_at, record_at, records_from, records, bytes_of, file_of}
use Rattle.model.specs.Table.{Whole}
use Rattle.model.specs.Lists.{All}

-- ---- how many records

length_from : (bytes : List ℕ) (i n : ℕ) → length (records_from bytes i n) ≡ n
unfolding records_from
length_from bytes i zero = refl
length_from bytes i (suc n) = ap suc (length_from bytes (suc i) n)

pub length-records : (bytes : List ℕ) → length (records bytes) ≡ length bytes / record_size
unfolding records
length-records bytes = length_from bytes 0 (length bytes / record_size)

-- ---- a value in four bytes

low : (n : ℕ) → n ≡ n % 256 + n / 256 * 256
low n = omega arith

joined : (v a b c d q q₂ q₃ : ℕ) → v ≡ a + q * 256 → q ≡ b + q₂ * 256 → q₂ ≡ c + q₃ * 256 → q₃ ≡ d → value_of a b c d ≡ v
joined v a b c d q q₂ q₃ e f g h = omega arith

pub value-back : (v : ℕ) → v < values → value_of (v % 256) (v / 256 % 256) (v / 65536 % 256) (v / 16777216 % 256) ≡ v
value-back v h =
    joined v _ _ _ _ (v / 256) (v / 65536) (v / 16777216) (low v)
    (low (v / 256) ∙ ap (λ (n : ℕ). v / 256 % 256 + n * 256) (omega arith))
    (low (v / 65536) ∙ ap (λ (n : ℕ). v / 65536 % 256 + n * 256) (omega arith))
    (omega arith)

record-back : (r : Record) → r.value < values → records (bytes_of r) ≡ r ∷ []
unfolding records
record-back r h = λ i. record { kind = r.kind; processor = r.processor; register = r.register; location = r.location; value = value-back r.value h i } ∷ []

-- ---- records behind a whole file

-- the record that begins at byte n
unfoldable at : List ℕ → ℕ → Record
at bytes n = record {
  kind = get_or bytes n 0;
  processor = get_or bytes (n + 1) 0;
  register = get_or bytes (n + 2) 0;
  location = get_or bytes (n + 3) 0;
  value = value_at bytes (n + 4);
}

record-at : (bytes : List ℕ) (i : ℕ) → record_at bytes i ≡ at bytes (i * record_size)
unfolding record_at at
record-at bytes i = refl

first : (a b : List ℕ) (n m : ℕ) → get_or a (n + 0) 0 ≡ get_or b (m + 0) 0 → get_or a n 0 ≡ get_or b m 0
first a b n m e = ap (λ (j : ℕ). get_or a j 0) (sym (add-zero n)) ∙ e ∙ ap (λ (j : ℕ). get_or b j 0) (add-zero m)

-- two files that have the same four bytes there, or the same eight
value_same : (a b : List ℕ) (n m : ℕ) → ((k : ℕ) → k < word_size → get_or a (n + k) 0 ≡ get_or b (m + k) 0) → value_at a n ≡ value_at b m
unfolding value_at
value_same a b n m h = λ i. value_of (first a b n m (h 0 (omega arith)) i) (h 1 (omega arith) i) (h 2 (omega arith) i) (h 3 (omega arith) i)

at_same : (a b : List ℕ) (n m : ℕ) → ((k : ℕ) → k < record_size → get_or a (n + k) 0 ≡ get_or b (m + k) 0) → at a n ≡ at b m
unfolding at
at_same a b n m h = λ i. record {
  kind = first a b n m (h 0 (omega arith)) i;
  processor = h 1 (omega arith) i;
  register = h 2 (omega arith) i;
  location = h 3 (omega arith) i;
  value = value_same a b (n + 4) (m + 4) last i;
}
  where
    last : (k : ℕ) → k < word_size → get_or a (n + 4 + k) 0 ≡ get_or b (m + 4 + k) 0
    last k l =
        let e : n + 4 + k ≡ n + (4 + k) = omega arith in
        let f : m + (4 + k) ≡ m + 4 + k = omega arith in
        ap (λ (j : ℕ). get_or a j 0) e ∙ h (4 + k) (omega arith) ∙ ap (λ (j : ℕ). get_or b j 0) f

-- in the front, and behind it
front-record : (a b : List ℕ) (i : ℕ) → i * record_size + record_size ≤ length a → record_at (a ++ b) i ≡ record_at a i
front-record a b i h =
    record-at (a ++ b) i ∙ at_same (a ++ b) a (i * record_size) (i * record_size) (λ k l. get_or-append a b 0 (i * record_size + k) (omega arith)) ∙ sym (record-at a i)

back-record : (a b : List ℕ) (n i : ℕ) → length a ≡ n * record_size → record_at (a ++ b) (n + i) ≡ record_at b i
back-record a b n i h =
    record-at (a ++ b) (n + i) ∙ at_same (a ++ b) b ((n + i) * record_size) (i * record_size) here ∙ sym (record-at b i)
  where
    here : (k : ℕ) → k < record_size → get_or (a ++ b) ((n + i) * record_size + k) 0 ≡ get_or b (i * record_size + k) 0
    here k l =
        let e : (n + i) * record_size + k ≡ length a + (i * record_size + k) = omega arith in
        ap (λ (j : ℕ). get_or (a ++ b) j 0) e ∙ get_or-append-add a b (i * record_size + k) 0

front-records : (a b : List ℕ) (i m : ℕ) → (i + m) * record_size ≤ length a → records_from (a ++ b) i m ≡ records_from a i m
unfolding records_from
front-records a b i zero h = refl
front-records a b i (suc m) h = λ k. front-record a b i (omega arith) k ∷ front-records a b (suc i) m (omega arith) k

back-records : (a b : List ℕ) (n i m : ℕ) → length a ≡ n * record_size → records_from (a ++ b) (n + i) m ≡ records_from b i m
unfolding records_from
back-records a b n i zero h = refl
back-records a b n i (suc m) h =
    let e : suc (n + i) ≡ n + suc i = omega arith in
    λ k. back-record a b n i h k ∷ (ap (λ (j : ℕ). records_from (a ++ b) j m) e ∙ back-records a b n (suc i) m h) k

pub records-split : (bytes : List ℕ) (i m k : ℕ) → records_from bytes i (m + k) ≡ records_from bytes i m ++ records_from bytes (i + m) k
unfolding records_from
records-split bytes i zero k = let e : i ≡ i + 0 = omega arith in let f : 0 + k ≡ k = omega arith in λ j. records_from bytes (e j) (f j)
records-split bytes i (suc m) k =
    let e : suc m + k ≡ suc (m + k) = omega arith in
    let f : suc i + m ≡ i + suc m = omega arith in
    ap (records_from bytes i) e ∙ (λ j. record_at bytes i ∷ (records-split bytes (suc i) m k ∙ ap (λ (n : ℕ). records_from bytes (suc i) m ++ records_from bytes n k) f) j)

pub records-append : (a b : List ℕ) → Whole a → records (a ++ b) ≡ records a ++ records b
unfolding records
records-append a b w =
    let n = length a / record_size in
    let m = length b / record_size in
    let l : length a ≡ n * record_size = omega arith in
    let e : length (a ++ b) / record_size ≡ n + m = simp length-append (omega arith) in
    let z : 0 + n ≡ n + 0 = omega arith in
    ap (records_from (a ++ b) 0) e ∙ records-split (a ++ b) 0 n m
    ∙ (λ j. front-records a b 0 n (omega arith) j ++ (ap (λ (i : ℕ). records_from (a ++ b) i m) z ∙ back-records a b n 0 m l) j)

-- ---- so a file of records is read back

abbrev pub Small : Record → Type 0
Small r = r.value < values

pub records-file : (rs : List Record) → All Small rs → records (file_of rs) ≡ rs
unfolding records file_of
records-file [] s = refl
records-file (r ∷ rs) s = records-append (bytes_of r) (file_of rs) refl ∙ (λ i. record-back r s.0 i ++ records-file rs s.1 i)
