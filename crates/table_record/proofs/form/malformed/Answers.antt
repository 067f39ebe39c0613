use mathlib.Core.List.{[], ◌∷◌}
use mathlib.Core.Path.{refl, sym, ◌∙◌}
use Rattle.model.specs.declared.kind.Role.TheVariants.{InitialMemory, InitialRegister, StoreConstant, StoreRegister, Load, SetRegister, Fence, Exchange, ExchangeAdd}
use Rattle.model.proofs.Verdicts.{met}
use Rattle.model.proofs.Roles.{unknown-by-role}
use Rattle.table_record.proofs.Forms.{row-of, row-of-one}
use Rattle.table_record.proofs.form.malformed.Goals as goal

pub tested-requires : goal.tested-requires
tested-requires c = row-of c.args.r _ InitialMemory c.from.ensures c.in-InitialMemory.is tt

pub tested-requires-in-InitialRegister : goal.tested-requires-in-InitialRegister
tested-requires-in-InitialRegister c =
    row-of-one c.args.r (InitialRegister ∷ SetRegister ∷ []) _ ((tt, refl), ((tt, refl), tt)) _ c.from.ensures c.in-InitialRegister.is

pub tested-requires-in-StoreConstant : goal.tested-requires-in-StoreConstant
tested-requires-in-StoreConstant c = row-of c.args.r _ StoreConstant c.from.ensures c.in-StoreConstant.is tt

pub tested-requires-in-Fence : goal.tested-requires-in-Fence
tested-requires-in-Fence c = row-of c.args.r _ Fence c.from.ensures c.in-Fence.is tt

pub tested-requires-in-StoreRegister : goal.tested-requires-in-StoreRegister
tested-requires-in-StoreRegister c =
    row-of-one c.args.r (StoreRegister ∷ Load ∷ Exchange ∷ ExchangeAdd ∷ []) _ ((tt, refl), ((tt, refl), ((tt, refl), ((tt, refl), tt)))) _
    c.from.ensures c.in-StoreRegister.is

pub returns-in-Unknown : goal.returns-in-Unknown
returns-in-Unknown c = rw c.at.ensures (met _ _ _ _ _ refl (unknown-by-role c.args.r (sym c.from.ensures ∙ c.in-Unknown.is)))
