-- The sheet's notation of steps (document 01, "The sheet's worked lines"), a step a line: W0 x1, F0; N is a local step.
use Rattle.std.specs.Prelude.{Ok, Err, cond, ◌&&◌, List, [], ◌∷◌, ◌++◌, ℕ, zero, suc, ◌*◌, ◌≤◌, leb, get_or}
use Rattle.model.specs.Sizes.{record_size}
use Rattle.model.specs.Record.{records_from}
use Rattle.model.specs.Rules.{Event}
use Rattle.model.specs.Reply.{Reply, Answer}
use Rattle.text.specs.Text.{decimal, line}
use Rattle.text.specs.Reply.{refused_line}

-- "?", for what is no kind of step and no location
abbrev pub unknown : ℕ
unknown = 63

-- "R", "W", "D", "F", "L", "U", "N", by kind
abbrev pub letters : List ℕ
letters = unknown ∷ 82 ∷ 87 ∷ 68 ∷ 70 ∷ 76 ∷ 85 ∷ 78 ∷ []

-- "x", "y", "z", "a" to "e"
abbrev pub names : List ℕ
names = 120 ∷ 121 ∷ 122 ∷ 97 ∷ 98 ∷ 99 ∷ 100 ∷ 101 ∷ []

-- location and value, of a read, write or drain
unfoldable pub access : Event → List ℕ
access e = cond (leb 1 e.kind && leb e.kind 3) (32 ∷ get_or names e.location unknown ∷ decimal e.value) []

unfoldable pub step_line : Event → List ℕ
step_line e = line ((get_or letters e.kind unknown ∷ decimal e.processor) ++ access e)

unfoldable pub step_lines : List Event → List ℕ
step_lines [] = []
step_lines (e ∷ es) = step_line e ++ step_lines es

-- what is printed for a reply to finishing, by its number: on 0 the steps added
unfoldable pub shown_by : ℕ → ℕ → List ℕ → List ℕ
unfolding records_from
shown_by zero k room = step_lines (records_from room 0 k)
shown_by (suc n) place room = refused_line (suc n) place

unfoldable pub shown : Reply → List ℕ
unfolding shown_by
shown reply = shown_by reply.number reply.place reply.room

-- the records that an answer speaks of lie within a room of this length
abbrev pub InRoom : Answer → ℕ → Type 0
InRoom (Ok k) room = k * record_size ≤ room
InRoom (Err refused) room = Unit {0}
