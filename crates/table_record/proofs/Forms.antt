-- A record by itself: the fields that its role uses, and what tests 2, 3, 4 leave.
use mathlib.Core.Path.{◌≡◌, refl, sym, ap, ◌∙◌}
use mathlib.Core.Bool.{Bool, true, false}
use mathlib.Core.List.{List, [], ◌∷◌, map}
use Prim.Native.Nat.{ℕ, ◌<◌}
use Rattle.model.specs.declared.record.Record.{Record}
use Rattle.model.specs.declared.kind.Role.{Role}
use Rattle.model.specs.declared.kind.Role.TheVariants.{Unknown, InitialMemory, InitialRegister, StoreConstant, StoreRegister, Load, SetRegister, Fence, Exchange, ExchangeAdd}
use Rattle.model.specs.Lists.{All}
use Rattle.model.specs.Fields.{among, Known}
use Rattle.model.specs.Kinds.{table_uses, table_rows}
use Rattle.model.specs.Code.{role_of}
use Rattle.model.specs.Tests.{unknown, too_large, not_zero}
use Rattle.model.proofs.Fields.{known-test, range-test, zero_test, proper-fields}
use Rattle.model.proofs.Roles.{OneOf, by_arm, Named, known-by-role}
use Rattle.model.proofs.Rows.{below}
use Rattle.record.specs.Fields.{row_of}
use Rattle.table_record.specs.Given.{Formed}

-- ---- does a role use processor, register, location, value?

abbrev pub used_by : Role → List Bool
used_by Unknown = false ∷ false ∷ false ∷ false ∷ []
used_by InitialMemory = false ∷ false ∷ true ∷ true ∷ []
used_by InitialRegister = true ∷ true ∷ false ∷ true ∷ []
used_by StoreConstant = true ∷ false ∷ true ∷ true ∷ []
used_by StoreRegister = true ∷ true ∷ true ∷ false ∷ []
used_by Load = true ∷ true ∷ true ∷ false ∷ []
used_by SetRegister = true ∷ true ∷ false ∷ true ∷ []
used_by Fence = true ∷ false ∷ false ∷ false ∷ []
used_by Exchange = true ∷ true ∷ true ∷ false ∷ []
used_by ExchangeAdd = true ∷ true ∷ true ∷ false ∷ []

uses : (k : ℕ) → k < table_rows → used_by (role_of k) ≡ row_of table_uses k
unfolding role_of row_of table_uses among
uses k h = below table_rows (λ k. used_by (role_of k) ≡ row_of table_uses k) (refl, (refl, (refl, (refl, (refl, (refl, (refl, (refl, (refl, (refl, (refl, (refl, tt)))))))))))) k h

-- where the role is told
pub row-of : (r : Record) (told o : Role) → told ≡ role_of r.kind → told ≡ o → Named o → Known table_uses r × (used_by o ≡ row_of table_uses r.kind)
row-of r told o e t n =
    let is : role_of r.kind ≡ o = sym e ∙ t in
    let known = known-by-role r o is n in
    (known, sym (ap used_by is) ∙ uses r.kind known.1)

-- and where it is told to be one of these
pub row-of-one : (r : Record) (os : List Role) (row : List Bool) → All (λ o. Named o × (used_by o ≡ row)) os
    → (told : Role) → told ≡ role_of r.kind → OneOf os told → Known table_uses r × (row ≡ row_of table_uses r.kind)
row-of-one r os row each told e t =
    let n = by_arm (λ o. Named o × (used_by o ≡ row)) os each told t in
    let is = row-of r told told e refl n.0 in
    (is.0, sym n.1 ∙ is.1)

-- ---- what the tests leave

pub formed : (r : Record) → unknown table_uses r ≡ false → too_large table_uses r ≡ false → not_zero table_uses r ≡ false → Formed r
formed r u t z =
    let k = (known-test table_uses r).0 u in
    let f = proper-fields table_uses r (record { known = k; in_range = (range-test table_uses r).0 t; unused_zero = (zero_test table_uses r).0 z }) in
    record { known = k; processor = f.0; register = f.1; location = f.2 }
