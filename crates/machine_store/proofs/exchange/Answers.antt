use Rattle.std.proofs.Common.{◌≡◌, ◌⊎◌, inl, inr, true, false, refl}
use Rattle.model.specs.Code.{acts}
use Rattle.model.specs.declared.kind.Role.{Role}
use Rattle.model.specs.declared.kind.Role.TheVariants.{Unknown, InitialMemory, InitialRegister, StoreConstant, StoreRegister, Load, SetRegister, Fence, Exchange, ExchangeAdd}
use Rattle.machine_store.proofs.exchange.Goals as goal

-- an exchange and an exchange-and-add do
exchanges-true : (o : Role) → (o ≡ Exchange) ⊎ (o ≡ ExchangeAdd) → (acts o).exchanges ≡ true
exchanges-true o (inl e) = rw e
exchanges-true o (inr e) = rw e

pub returns-in-Exchange : goal.returns-in-Exchange
returns-in-Exchange c = rw (← c.from.ensures, exchanges-true c.from.result c.in-Exchange.is)

-- no other role exchanges
exchanges-false : (o : Role) → ¬ (o ≡ Exchange) → ¬ (o ≡ ExchangeAdd) → (acts o).exchanges ≡ false
exchanges-false Unknown x a = refl
exchanges-false InitialMemory x a = refl
exchanges-false InitialRegister x a = refl
exchanges-false StoreConstant x a = refl
exchanges-false StoreRegister x a = refl
exchanges-false Load x a = refl
exchanges-false SetRegister x a = refl
exchanges-false Fence x a = refl
exchanges-false Exchange x a = absurd (x refl)
exchanges-false ExchangeAdd x a = absurd (a refl)

pub returns-in_default : goal.returns-in_default
returns-in_default c = rw (← c.from.ensures, exchanges-false c.from.result c.in_default.not-Exchange c.in_default.not-ExchangeAdd)
