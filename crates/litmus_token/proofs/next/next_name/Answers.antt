use mathlib.Core.Path.{refl}
use native.Mathlib.Omega.{arith}
use Rattle.litmus_token.proofs.Spans.{bounded, spans-none, spans-name, spans-brace}
use Rattle.litmus_token.specs.Spans.{Named}
use Rattle.litmus_token.proofs.next.next_name.Goals as goal

pub returns-then-start-text : goal.returns-then-start-text
returns-then-start-text c =
    bounded _ _ _ c.requires (spans-none Named _ _ _ _ c.run_end-start.ensures.0 c.run_end-start.ensures.1 (omega arith) refl refl)

pub returns-then-start-end : goal.returns-then-start-end
returns-then-start-end c =
    bounded _ _ _ c.requires (spans-name _ _ _ _ c.run_end-start.ensures.0 c.run_end-start.ensures.2 (omega (arith, c.if-start-text.false)) c.run_end-end.ensures.0 c.run_end-end.ensures.1 c.if-start-end.true refl)

pub returns : goal.returns
returns c =
    bounded _ _ _ c.requires (spans-brace _ _ _ _ c.run_end-start.ensures.0 c.run_end-start.ensures.2 (omega (arith, c.if-start-text.false)) c.run_end-end.ensures.0 c.if-start-end.false refl)
