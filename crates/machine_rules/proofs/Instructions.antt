-- The instruction that is fetched is in range.
use Rattle.std.proofs.Common.{◌≡◌, ℕ, ◌<◌, Bool, true, false, cond, ltb, refl, ap, ◌∙◌, lit<, ltb-true}
use Rattle.model.specs.declared.record.Record.{Record}
use Rattle.model.specs.Sizes.{processors, registers_each, locations}
use Rattle.model.specs.Kinds.{table_uses, table_rows}
use Rattle.model.specs.Rules.{event}
use Rattle.model.specs.Code.{Columns, instruction_at, count_in, Fits}
use Rattle.machine_rules.specs.Programs.{fetched, Fetched}

record Ranged (p : ℕ) (i : Record) : Type 0 where
  processor : i.processor ≡ p
  kind : i.kind < table_rows
  register : i.register < registers_each
  location : i.location < locations

ranged : (g : Columns) (p a : ℕ) → Fits g → p < processors → (b : Bool) → ltb a (count_in g p) ≡ b → Ranged p (cond b (instruction_at g p a) (event 0 p 0 0))
unfolding instruction_at table_uses
ranged g p a s h true e = let t = s.each p a h (ltb-true a (count_in g p) e) in record { processor = refl; kind = t.kind; register = t.register; location = t.location }
ranged g p a s h false e = record { processor = refl; kind = lit< tt; register = lit< tt; location = lit< tt }

pub fetched-is : (g : Columns) (p a : ℕ) → Fits g → p < processors → (i : Record) → i ≡ fetched g p a → Fetched g p a i
unfolding fetched
fetched-is g p a s h i e =
    let r = ranged g p a s h (ltb a (count_in g p)) refl in
    record {
      here = e;
      processor = ap (λ (r : Record). r.processor) e ∙ r.processor;
      kind = rw e r.kind;
      register = rw e r.register;
      location = rw e r.location;
    }
