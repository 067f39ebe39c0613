use mathlib.Core.Path.{◌≡◌, sym, ◌∙◌}
use Prim.Native.Nat.{ℕ, ◌≤◌, ◌<◌}
use native.Mathlib.Numerals.{add-one}
use native.Mathlib.Omega.{arith}
use Rattle.litmus_reader.proofs.Columns.{heading-refused, heading-fifth, heading-on, semicolon-on, bar-on, mark-refused}
use Rattle.litmus_reader.proofs.headings.read_headings.Goals as goal

below : (n : ℕ) → n ≤ 4 → (n ≡ 4 → ⊥) → n < 4
below n l e = omega (arith, e)

pub returns-then-not-is_heading : goal.returns-then-not-is_heading
returns-then-not-is_heading c =
    rw c.at.ensures (record { says = λ seen rs. c.loop-n.invariant.0 seen rs ∙ heading-refused _ _ _ _ seen rs c.next_token-token.ensures.0 (sym c.is_heading.ensures ∙ c.if-not-is_heading.true); further = tt })

pub returns-then-n-eq-PROCESSORS : goal.returns-then-n-eq-PROCESSORS
returns-then-n-eq-PROCESSORS c =
    rw c.at-then-n-eq-PROCESSORS.ensures (record { says = λ seen rs. c.loop-n.invariant.0 seen rs ∙ heading-fifth _ _ _ _ seen rs c.next_token-token.ensures.0 (sym c.is_heading.ensures ∙ c.if-not-is_heading.false) c.if-n-eq-PROCESSORS.true; further = tt })

pub returns-then-is_mark : goal.returns-then-is_mark
returns-then-is_mark c =
    record {
      says = λ seen rs. c.loop-n.invariant.0 seen rs ∙ rw add-one (heading-on _ _ _ _ seen rs c.next_token-token.ensures.0 (sym c.is_heading.ensures ∙ c.if-not-is_heading.false) (below _ c.loop-n.invariant.1 c.if-n-eq-PROCESSORS.false)
          ∙ semicolon-on _ _ _ _ seen rs c.next_token-mark.ensures.0 (sym c.is_mark.ensures ∙ c.if-is_mark.true));
      further = (omega arith, c.next_token-mark.ensures.3, omega arith, omega (arith, c.if-n-eq-PROCESSORS.false));
    }

pub returns-then-not-is_mark : goal.returns-then-not-is_mark
returns-then-not-is_mark c =
    let h = sym c.is_heading.ensures ∙ c.if-not-is_heading.false in
    rw c.at-then-not-is_mark.ensures (
    record {
      says = λ seen rs. c.loop-n.invariant.0 seen rs ∙ heading-on _ _ _ _ seen rs c.next_token-token.ensures.0 h (below _ c.loop-n.invariant.1 c.if-n-eq-PROCESSORS.false)
          ∙ mark-refused _ _ _ _ seen rs c.next_token-mark.ensures.0 (sym c.is_mark.ensures ∙ c.if-is_mark.false) (sym c.is_mark-in-loop-n.ensures ∙ c.if-not-is_mark.true);
      further = tt;
    }
    )

pub loop-n-preserved : goal.loop-n-preserved
loop-n-preserved c = (
  λ seen rs. c.loop-n.invariant.0 seen rs ∙ rw add-one (heading-on _ _ _ _ seen rs c.next_token-token.ensures.0 (sym c.is_heading.ensures ∙ c.if-not-is_heading.false) (below _ c.loop-n.invariant.1 c.if-n-eq-PROCESSORS.false)
      ∙ bar-on _ _ _ _ seen rs c.next_token-mark.ensures.0 (sym c.is_mark-in-loop-n.ensures ∙ c.if-not-is_mark.false)),
  omega (arith, c.if-n-eq-PROCESSORS.false),
  omega arith,
  c.next_token-mark.ensures.3,
)
