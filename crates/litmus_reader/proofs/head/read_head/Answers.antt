use Rattle.litmus_reader.proofs.Heads.{no-brace, opened}
use native.Mathlib.Omega.{arith}
use mathlib.Core.Path.{sym, ◌∙◌}
use Rattle.litmus_reader.proofs.head.read_head.Goals as goal

pub returns-then-not-is_mark : goal.returns-then-not-is_mark
returns-then-not-is_mark c =
    (rw c.at.ensures (no-brace _ _ _ _ c.read_name.ensures.0 c.in_ok-at.was c.next_token-brace.ensures.0 (sym c.is_mark.ensures ∙ c.if-not-is_mark.true)), tt)

pub returns : goal.returns
returns c =
    (opened _ _ _ _ c.read_name.ensures.0 c.in_ok-at.was c.next_token-brace.ensures.0 (sym c.is_mark.ensures ∙ c.if-not-is_mark.false), (omega arith, c.next_token-brace.ensures.3))
