-- No row of a table is longer than so much, by a look at all.
use Rattle.std.proofs.Common.{◌≡◌, true, ◌<◌, ◌≤◌, ℕ, List, length, slice_index_or, inl, inr}
use Rattle.std.specs.List.{list_all}
use Rattle.std.proofs.lemmas.Bool.{cases_Bool}
use Rattle.std.proofs.lemmas.List.Folds.{list_all_at}
use borrow.Author.Tests.{leb-true}
use lib.Dec.{leb}

pub short-row : {R : Type 0} (part : R → List ℕ) (most : ℕ) (rows : List R) → list_all (λ r. leb (length (part r)) most) rows ≡ true
    → (k : ℕ) (d : R) → k < length rows → length (part (slice_index_or rows k d)) ≤ most
short-row part most rows all k d h =
    elim (cases_Bool (leb (length (part (slice_index_or rows k d))) most)) [
      | inl fits ↦ leb-true _ _ fits
      | inr long ↦ let some = list_all_at (λ r. leb (length (part r)) most) rows k d h long in cc
    ]
