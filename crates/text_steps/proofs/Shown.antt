-- A refusal to finish is its line.
use mathlib.Core.Path.{◌≡◌, refl}
use mathlib.Core.List.{List}
use Prim.Native.Nat.{ℕ}
use Rattle.model.specs.declared.answer.Refused.{Refused}
use Rattle.std.specs.Prelude.{Err}
use Rattle.model.specs.Reply.{number_of, reply_of}
use Rattle.text.specs.Reply.{refused_line}
use Rattle.text.proofs.Replied.{above}
use Rattle.text_steps.specs.Steps.{shown_by, shown}

pub refusal_shown : (r : Refused) (room : List ℕ) → refused_line (number_of r.why) r.place ≡ shown (reply_of (Err r) room)
unfolding shown_by shown
refusal_shown r room = above (λ n. refused_line n r.place) (λ n. shown_by n r.place room) (λ n. refl) r.why
