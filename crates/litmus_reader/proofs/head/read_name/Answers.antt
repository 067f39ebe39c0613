use Rattle.litmus_reader.proofs.Heads.{no-X86, no_name, named}
use native.Mathlib.Omega.{arith}
use mathlib.Core.Path.{sym, ◌∙◌}
use Rattle.litmus_reader.proofs.head.read_name.Goals as goal

pub returns-then-not-same_bytes : goal.returns-then-not-same_bytes
returns-then-not-same_bytes c =
    (rw c.at.ensures (no-X86 _ _ c.next_token-first.ensures.0 (sym c.same_bytes.ensures ∙ c.if-not-same_bytes.true)), tt)

pub returns-then-not-is_name : goal.returns-then-not-is_name
returns-then-not-is_name c =
    (rw c.at-then-not-is_name.ensures (no_name _ _ _ c.next_token-first.ensures.0 (sym c.same_bytes.ensures ∙ c.if-not-same_bytes.false) c.next_name-name.ensures.0 (sym c.is_name.ensures ∙ c.if-not-is_name.true)), tt)

pub returns : goal.returns
returns c =
    (named _ _ _ c.next_token-first.ensures.0 (sym c.same_bytes.ensures ∙ c.if-not-same_bytes.false) c.next_name-name.ensures.0 (sym c.is_name.ensures ∙ c.if-not-is_name.false), (omega arith, c.next_name-name.ensures.3))
