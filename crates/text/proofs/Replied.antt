-- A refusal is its line.
use mathlib.Core.Path.{◌≡◌, refl}
use mathlib.Core.List.{List}
use Prim.Native.Nat.{ℕ, zero, suc}
use Rattle.model.specs.declared.answer.Refusal.{Refusal}
use Rattle.model.specs.declared.answer.Refused.{Refused}
use Rattle.std.specs.Prelude.{Err}
use Rattle.model.specs.Reply.{number_of, reply_of}
use Rattle.model.proofs.Answers.{not-zero}
use Rattle.text.specs.Reply.{refused_line, lines_of, listed}

-- no refusal is number 0
pub above : (line by : ℕ → List ℕ) → ((n : ℕ) → line (suc n) ≡ by (suc n)) → (why : Refusal) → line (number_of why) ≡ by (number_of why)
above line by h why = go (number_of why) (not-zero why)
  where
    go : (n : ℕ) → ¬ (n ≡ 0) → line n ≡ by n
    go zero n = absurd (n refl)
    go (suc k) n = h k

pub refusal_listed : (r : Refused) (room : List ℕ) → refused_line (number_of r.why) r.place ≡ listed (reply_of (Err r) room)
unfolding lines_of listed
refusal_listed r room = above (λ n. refused_line n r.place) (λ n. lines_of n r.place room) (λ n. refl) r.why
