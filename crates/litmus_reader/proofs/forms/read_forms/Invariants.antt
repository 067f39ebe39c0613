use mathlib.Core.Path.{◌≡◌}
use mathlib.Core.List.{List}
use Prim.Native.Nat.{◌-◌, ◌≤◌}
use lib.ListN.{length}
use Rattle.model.specs.declared.record.Record.{Record}
use Rattle.litmus_model.specs.Reader.{beginning, left}
use Rattle.litmus_form.specs.Places.{context_of}
use Rattle.litmus_reader.specs.Keeping.{Keeps}
use Rattle.litmus_reader.specs.Passing.{answer}
use Rattle.litmus_reader.proofs.forms.read_forms.Given as goal

abbrev pub invariant-loop-place : goal.invariant-loop-place
invariant-loop-place l =
    ((rs : List Record) → Keeps l.initial.records rs
    → (all : List Record) × Keeps l.records all × (answer l.text l.fn.at (beginning (context_of l.initial.place)) l.initial.letters rs ≡ answer l.text l.at (beginning (context_of l.place)) l.letters all))
    × (left (context_of l.place) ≡ left (context_of l.initial.place)) × (l.records.count ≤ l.at) × (l.fn.at ≤ l.at) × (l.at ≤ length l.text)

abbrev pub decreases-loop-place : goal.decreases-loop-place
decreases-loop-place l = length l.text - l.at
