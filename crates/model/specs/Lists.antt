-- What holds of each element of a list, and what is in it.
use Rattle.std.specs.Prelude.{◌≡◌, ◌⊎◌, List, [], ◌∷◌}

abbrev pub All : {A : Type 0} → (A → Type 0) → List A → Type 0
All K [] = Unit {0}
All K (a ∷ l) = K a × All K l

abbrev pub In : {A : Type 0} → A → List A → Type 0
In a [] = ⊥
In a (b ∷ l) = (b ≡ a) ⊎ In a l
