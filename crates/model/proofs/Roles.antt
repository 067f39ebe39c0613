-- Roles: what holds of each, and what the role of a record's kind says of its entry.
use mathlib.Core.Path.{◌≡◌, refl, sym, ◌∙◌, subst}
use mathlib.Core.Logic.{◌⊎◌, inl, inr}
use mathlib.Core.Bool.{Bool, true, false}
use mathlib.Core.List.{List, [], ◌∷◌, map}
use Prim.Native.Nat.{ℕ, zero, suc, ◌<◌}
use native.Mathlib.Omega.{arith}
use lib.Dec.{ltb}
use borrow.Author.Tests.{ltb-true, ltb-false}
use lib.ListN.{get_or-eq_default}
use Rattle.model.specs.declared.record.Record.{Record}
use Rattle.model.specs.declared.kind.Role.{Role}
use Rattle.model.specs.declared.kind.Role.TheVariants.{Unknown, InitialMemory, InitialRegister, StoreConstant, StoreRegister, Load, SetRegister, Fence, Exchange, ExchangeAdd}
use Rattle.model.specs.Lists.{All}
use Rattle.model.specs.Fields.{Known}
use Rattle.model.specs.Tests.{unknown}
use Rattle.model.specs.Program.{Instruction}
use Rattle.model.specs.Kinds.{Entry, Kind, initial_memory, initial_register, instruction, table_kinds, table_uses, table_rows, entry_of}
use Rattle.model.specs.Code.{role_in, role_of}
use Rattle.model.proofs.Bools.{false-true}
use Rattle.model.proofs.Fields.{known-test}
use Rattle.model.proofs.Rows.{below}

-- what holds of each role holds of any
pub by-role : (K : Role → Type 0) → K Unknown → K InitialMemory → K InitialRegister → K StoreConstant → K StoreRegister → K Load → K SetRegister → K Fence → K Exchange → K ExchangeAdd
    → (o : Role) → K o
by-role K a b c d e f g h i j Unknown = a
by-role K a b c d e f g h i j InitialMemory = b
by-role K a b c d e f g h i j InitialRegister = c
by-role K a b c d e f g h i j StoreConstant = d
by-role K a b c d e f g h i j StoreRegister = e
by-role K a b c d e f g h i j Load = f
by-role K a b c d e f g h i j SetRegister = g
by-role K a b c d e f g h i j Fence = h
by-role K a b c d e f g h i j Exchange = i
by-role K a b c d e f g h i j ExchangeAdd = j

-- ---- where a role is told by an arm of a `match`: it is one of those that the arm names

abbrev pub OneOf : List Role → Role → Type 0
OneOf [] o = ⊥
OneOf (a ∷ []) o = o ≡ a
OneOf (a ∷ b ∷ os) o = (o ≡ a) ⊎ OneOf (b ∷ os) o

-- what holds of the roles that an arm names holds of the one that came to it
pub by_arm : (K : Role → Type 0) (os : List Role) → All K os → (o : Role) → OneOf os o → K o
by_arm K [] h o t = absurd t
by_arm K (a ∷ []) h o t = subst K (sym t) h.0
by_arm K (a ∷ b ∷ os) h o (inl t) = subst K (sym t) h.0
by_arm K (a ∷ b ∷ os) h o (inr t) = by_arm K (b ∷ os) h.1 o t

-- every role but one
abbrev pub Named : Role → Type 0
Named Unknown = ⊥
Named InitialMemory = Unit {0}
Named InitialRegister = Unit {0}
Named StoreConstant = Unit {0}
Named StoreRegister = Unit {0}
Named Load = Unit {0}
Named SetRegister = Unit {0}
Named Fence = Unit {0}
Named Exchange = Unit {0}
Named ExchangeAdd = Unit {0}

-- ---- a number that is no kind

pub unknown-role : (k : ℕ) → ¬ ((0 < k) × (k < table_rows)) → Unknown ≡ role_of k
unfolding role_of table_uses
unknown-role zero h = refl
unknown-role (suc k) h = go (ltb (suc k) table_rows) refl
  where
    go : (b : Bool) → ltb (suc k) table_rows ≡ b → Unknown ≡ role_of (suc k)
    go true e = absurd (h (omega arith, ltb-true (suc k) table_rows e))
    go false e = sym (get_or-eq_default (map (λ (row : Kind). role_in (row.means 0 0 0 0)) table_kinds) Unknown (ltb-false (suc k) table_rows e))

-- ---- a record's entry, by its role

module _ (r : Record) where
  -- a record like r, of kind k
  abbrev pub of_kind : ℕ → Record
  of_kind k = record { kind = k; processor = r.processor; register = r.register; location = r.location; value = r.value }

  abbrev pub SomeInstruction : ℕ → Type 0
  SomeInstruction k = (i : Instruction) × (entry_of (of_kind k) ≡ instruction r.processor i)

  -- what the role o says of a record of kind k
  abbrev pub Says : Role → ℕ → Type 0
  Says Unknown k = ⊥
  Says InitialMemory k = entry_of (of_kind k) ≡ initial_memory r.location r.value
  Says InitialRegister k = entry_of (of_kind k) ≡ initial_register r.processor r.register r.value
  Says StoreConstant k = SomeInstruction k
  Says StoreRegister k = SomeInstruction k
  Says Load k = SomeInstruction k
  Says SetRegister k = SomeInstruction k
  Says Fence k = SomeInstruction k
  Says Exchange k = SomeInstruction k
  Says ExchangeAdd k = SomeInstruction k

  pub entry-is : Known table_uses r → Says (role_of r.kind) r.kind
  unfolding role_of entry_of table_uses table_kinds
  entry-is known =
      below table_rows (λ k. 0 < k → Says (role_of k) k)
      (λ z. absurd (omega arith), (λ z. refl, (λ z. refl, (λ z. is, (λ z. is, (λ z. is, (λ z. is, (λ z. is, (λ z. is, (λ z. is, (λ z. is, (λ z. is, tt))))))))))))
      r.kind known.1 known.0
    where
      is : {i : Instruction} → (j : Instruction) × (instruction r.processor i ≡ instruction r.processor j)
      is {i} = (i, refl)

  -- what holds of each entry that it may be holds of its entry
  pub by-entry : (K : Entry → Type 0) → Known table_uses r → K (initial_memory r.location r.value) → K (initial_register r.processor r.register r.value)
      → ((i : Instruction) → entry_of r ≡ instruction r.processor i → K (instruction r.processor i)) → K (entry_of r)
  by-entry K known m q i = by-role (λ o. Says o r.kind → K (entry_of r)) (λ e. absurd e) (λ e. rw e m) (λ e. rw e q) is is is is is is is (role_of r.kind) (entry-is known)
    where
      is : SomeInstruction r.kind → K (entry_of r)
      is e = rw e.1 (i e.0 e.1)

  -- where its role is told, or told to be none of the two initial ones
  module _ (known : Known table_uses r) (role : Role) (is : role ≡ role_of r.kind) where
    pub entry-as : (o : Role) → role ≡ o → Says o r.kind
    entry-as o e = subst (λ (a : Role). Says a r.kind) (sym is ∙ e) (entry-is known)

    pub instruction-as : ¬ (role ≡ InitialMemory) → ¬ (role ≡ InitialRegister) → SomeInstruction r.kind
    instruction-as m q =
        by-role (λ o. role ≡ o → Says o r.kind → SomeInstruction r.kind) (λ e h. absurd h) (λ e. absurd (m e)) (λ e. absurd (q e)) same same same same same same same role refl
        (entry-as role refl)
      where
        same : {o : Role} → role ≡ o → SomeInstruction r.kind → SomeInstruction r.kind
        same e h = h

  -- ---- whether its kind is known

  pub unknown-by-role : role_of r.kind ≡ Unknown → unknown table_uses r ≡ true
  unknown-by-role e = go (unknown table_uses r) refl
    where
      go : (b : Bool) → unknown table_uses r ≡ b → b ≡ true
      go true u = refl
      go false u = absurd (subst (λ (o : Role). Says o r.kind) e (entry-is ((known-test table_uses r).0 u)))

  pub known-by-role : (o : Role) → role_of r.kind ≡ o → Named o → Known table_uses r
  known-by-role o e n = go (unknown table_uses r) refl
    where
      go : (b : Bool) → unknown table_uses r ≡ b → Known table_uses r
      go true u = absurd (subst Named (sym (unknown-role r.kind (λ k. false-true (sym ((known-test table_uses r).1 k) ∙ u)) ∙ e)) n)
      go false u = (known-test table_uses r).0 u
