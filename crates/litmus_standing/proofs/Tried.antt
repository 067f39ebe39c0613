-- A text with a sample put behind a place of it.
use mathlib.Core.Path.{◌≡◌, refl, sym, ap, ◌∙◌}
use mathlib.Core.List.{List, [], ◌∷◌, ◌++◌, append_assoc}
use Prim.Native.Nat.{ℕ}
use native.Mathlib.Omega.{arith}
use lib.ListN.{length, take, drop, length-append, length-take}
use lib.Seq.{take_at}
use Rattle.std.specs.Prelude.{Ok, Err}
use Rattle.model.specs.Reply.{Reply, Answer, reply_of}
use Rattle.litmus_model.specs.Call.{imported}
use Rattle.text.specs.Text.{Adds}
use Rattle.litmus_standing.specs.Standing.{goes_on, can_stand}

module _ {l m x : List ℕ} {at to : ℕ} (p : Adds l at x m to) where
  front_long : length (take at l) ≡ at
  front_long = simp length-take (omega (arith, p.fits, p.place))

  long : length (take at l ++ x) ≡ to
  long = simp length-append (omega (arith, front_long, p.place))

  -- up to the text's end the two stand there, and before it nothing is changed
  pub up_to : take to m ≡ take at l ++ x
  up_to = ap (take to) (p.stands ∙ sym (append_assoc (take at l) x (drop to l))) ∙ take_at (take at l ++ x) (drop to l) to long

  pub size : to ≡ length (take at l ++ x)
  size = sym long

  pub kept : take at m ≡ take at l
  kept = ap (take at) p.stands ∙ take_at (take at l) (x ++ drop to l) at front_long

-- what is asked of a reply does not look at the room
whatever : (a : Answer) (room : List ℕ) (n : ℕ) → goes_on (reply_of a []) n ≡ goes_on (reply_of a room) n
whatever (Ok k) room n = refl
whatever (Err refused) room n = refl

-- the answer to a text that goes on with a sample says whether the sample can stand
pub can-stand-by : {l m sample : List ℕ} {at to : ℕ} → Adds l at (32 ∷ sample) m to → (a : Answer) (room : List ℕ)
    → reply_of a room ≡ imported (take to m) [] → goes_on (reply_of a []) to ≡ can_stand (take at l) sample
unfolding can_stand
can-stand-by {l} {m} {sample} {at} {to} p a room e =
    whatever a room to ∙ ap (λ (q : Reply). goes_on q to) e ∙ (λ k. goes_on (imported (up_to p k) []) (size p k))
