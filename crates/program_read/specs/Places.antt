-- Where the refusals of a text are.
use Rattle.std.specs.Prelude.{ℕ, ◌≤◌}
use Rattle.model.specs.declared.answer.Refusal.{Refusal}
use Rattle.model.specs.Reply.{number_of}

-- the place of 19, 20 and 21 lies in a text of n bytes, or at its end
abbrev pub InText : Refusal → ℕ → ℕ → Type 0
InText why place n = 19 ≤ number_of why → place ≤ n
