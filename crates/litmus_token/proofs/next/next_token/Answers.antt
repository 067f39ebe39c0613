use mathlib.Core.Path.{refl}
use native.Mathlib.Omega.{arith}
use Rattle.litmus_token.proofs.Spans.{bounded, spans-none, spans-token}
use Rattle.litmus_token.specs.Spans.{Unnamed}
use Rattle.litmus_token.proofs.next.next_token.Goals as goal

pub returns-then-start-text : goal.returns-then-start-text
returns-then-start-text c =
    bounded _ _ _ c.requires (spans-none Unnamed _ _ _ _ c.run_end-start.ensures.0 c.run_end-start.ensures.1 (omega arith) refl refl)

pub returns : goal.returns
returns c =
    bounded _ _ _ c.requires (spans-token _ _ _ c.run_end-start.ensures.0 c.run_end-start.ensures.2 (omega (arith, c.if-start-text.false)) c.token_end.ensures.0 c.token_end.ensures.1 c.token_end.ensures.2)
