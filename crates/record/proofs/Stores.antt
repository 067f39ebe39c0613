-- Bytes set in turn are a value, or a record; and pieces written one behind the other.
use mathlib.Core.Path.{◌≡◌, refl, ap, sym, ◌∙◌}
use mathlib.Core.List.{List, [], ◌∷◌, ◌++◌, append-nil, append_assoc}
use Prim.Native.Nat.{ℕ, zero, suc, ◌+◌, ◌*◌, ◌/◌, ◌%◌, ◌≤◌, ◌<◌}
use native.Mathlib.Nat.{add_comm, zero-mul, suc-mul, le_of_suc-le-suc, not-suc-le-zero}
use native.Mathlib.Numerals.{add-one}
use native.Mathlib.Omega.{arith}
use lib.ListN.{length, take, drop, get_or, set, length-set, length-append}
use lib.Seq.{sets, sets-eq, take_at, take-length, length-take-le, drop-append-add, drop-drop}
use Rattle.model.specs.declared.record.Record.{Record}
use Rattle.model.specs.Sizes.{record_size}
use Rattle.model.specs.Record.{four_bytes, bytes_of, file_of}
use Rattle.record.specs.Bytes.{with, with_value, with_record}

module _ (at : ℕ) where
  second : at + 1 ≡ suc at
  second = omega arith

  third : at + 2 ≡ suc (suc at)
  third = omega arith

  fourth : at + 3 ≡ suc (suc (suc at))
  fourth = omega arith

  fifth : at + 4 ≡ suc (suc (suc (suc at)))
  fifth = omega arith

-- the four stores of the code
pub value_set : (l : List ℕ) (at v : ℕ) → at + 4 ≤ length l
    → set (set (set (set l at (v % 256)) (at + 1) (v / 256 % 256)) (at + 2) (v / 65536 % 256)) (at + 3) (v / 16777216 % 256) ≡ with_value l at v
unfolding with_value
value_set l at v h =
    (λ k. set (set (set (set l at (v % 256)) (second at k) (v / 256 % 256)) (third at k) (v / 65536 % 256)) (fourth at k) (v / 16777216 % 256))
    ∙ sets-eq (four_bytes v) l at h

-- four stores, and then the value
pub record-set : (l : List ℕ) (i : ℕ) (r : Record) → i * 8 + 8 ≤ length l
    → with_value (set (set (set (set l (i * 8) r.kind) (i * 8 + 1) r.processor) (i * 8 + 2) r.register) (i * 8 + 3) r.location) (i * 8 + 4) r.value
    ≡ with_record l i r
unfolding with_record with_value
record-set l i r h =
    let at = i * 8 in
    let four = sets l at (r.kind ∷ r.processor ∷ r.register ∷ r.location ∷ []) in
    let room : suc (suc (suc (suc at))) + 4 ≤ length four = simp length-set (omega arith) in
    (λ k. with_value (set (set (set (set l at r.kind) (second at k) r.processor) (third at k) r.register) (fourth at k) r.location) (fifth at k) r.value)
    ∙ sym (sets-eq (four_bytes r.value) four (suc (suc (suc (suc at)))) room) ∙ sets-eq (bytes_of r) l at h

-- what stands before `at` is written, and the rest of the room is as it was: these are written next
pub next : (front room these : List ℕ) (at : ℕ) → length front ≡ at → with (front ++ drop at room) at these ≡ front ++ these ++ drop (at + length these) room
next front room these at e = λ k. take_at front (drop at room) at e k ++ these ++ tail k
  where
    tail : drop (at + length these) (front ++ drop at room) ≡ drop (at + length these) room
    tail =
        ap (λ (n : ℕ). drop (n + length these) (front ++ drop at room)) (sym e) ∙ drop-append-add front (drop at room) (length these)
        ∙ drop-drop (length these) at room

-- a file with one record more
pub file-more : (rs : List Record) (r : Record) → file_of (rs ++ (r ∷ [])) ≡ file_of rs ++ bytes_of r
unfolding file_of
file-more [] r = refl
file-more (q ∷ rs) r = ap (λ (l : List ℕ). bytes_of q ++ l) (file-more rs r)

-- i records are written: one record more
pub one_more : (front room : List ℕ) (i : ℕ) (r : Record) → length front ≡ i * record_size
    → with_record (front ++ drop (i * record_size) room) i r ≡ front ++ bytes_of r ++ drop (i * record_size + record_size) room
unfolding with_record
one_more front room i r = next front room (bytes_of r) (i * record_size)

-- ---- pieces of one size, one for each word

pub record Pieces (size : ℕ) (piece : ℕ → List ℕ) (all : List ℕ → List ℕ) : Type 0 where
  pub sized : (w : ℕ) → length (piece w) ≡ size
  pub none : all [] ≡ []
  pub more : (w : ℕ) (ws : List ℕ) → all (w ∷ ws) ≡ piece w ++ all ws

module _ {size : ℕ} {piece : ℕ → List ℕ} {all : List ℕ → List ℕ} (p : Pieces size piece all) where
  pieces-long : (ws : List ℕ) → length (all ws) ≡ length ws * size
  pieces-long [] = ap length p.none ∙ sym (zero-mul size)
  pieces-long (w ∷ ws) =
      ap length (p.more w ws) ∙ length-append (piece w) (all ws) ∙ (λ j. p.sized w j + pieces-long ws j)
      ∙ add_comm size (length ws * size) ∙ sym (suc-mul (length ws) size)

  one-more-piece : (ws : List ℕ) (i : ℕ) → i < length ws → all (take (suc i) ws) ≡ all (take i ws) ++ piece (get_or ws i 0)
  one-more-piece [] i h = absurd (not-suc-le-zero h)
  one-more-piece (w ∷ ws) zero h = p.more w [] ∙ ap (λ (l : List ℕ). piece w ++ l) p.none ∙ append-nil (piece w) ∙ sym (ap (λ (l : List ℕ). l ++ piece w) p.none)
  one-more-piece (w ∷ ws) (suc i) h =
      p.more w (take (suc i) ws) ∙ ap (λ (l : List ℕ). piece w ++ l) (one-more-piece ws i (le_of_suc-le-suc h))
      ∙ sym (append_assoc (piece w) (all (take i ws)) (piece (get_or ws i 0))) ∙ sym (ap (λ (l : List ℕ). l ++ piece (get_or ws i 0)) (p.more w (take i ws)))

  -- i are written, and the rest of the room is as it was: one more
  pub writes_one : (ws room : List ℕ) (i : ℕ) → i < length ws
      → with (all (take i ws) ++ drop (i * size) room) (i * size) (piece (get_or ws i 0)) ≡ all (take (i + 1) ws) ++ drop ((i + 1) * size) room
  writes_one ws room i h =
      let long : length (all (take i ws)) ≡ i * size = pieces-long (take i ws) ∙ ap (λ (n : ℕ). n * size) (length-take-le i ws (omega arith)) in
      next (all (take i ws)) room (piece (get_or ws i 0)) (i * size) long
      ∙ (λ j. sym (one-more-piece ws i h) j ++ drop ((ap (λ (n : ℕ). i * size + n) (p.sized (get_or ws i 0)) ∙ sym (suc-mul i size)) j) room)
      ∙ ap (λ (n : ℕ). all (take n ws) ++ drop (n * size) room) (sym (add-one i))

  pub writes-all : (ws room : List ℕ) (i : ℕ) → i ≡ length ws → all (take i ws) ++ drop (i * size) room ≡ all ws ++ drop (length ws * size) room
  writes-all ws room i e = ap (λ (n : ℕ). all (take n ws) ++ drop (n * size) room) e ∙ rw (take-length ws)
