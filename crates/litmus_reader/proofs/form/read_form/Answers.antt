use mathlib.Core.Path.{◌≡◌, refl}
use Prim.Native.Nat.{◌<◌}
use native.Mathlib.Numerals.{add-one}
use native.Mathlib.Omega.{arith}
use lib.ListN.{length}
use borrow.Author.Rules.{rules}
use Rattle.litmus_reader.proofs.Cells.{begin, cell-unended}
use Rattle.litmus_reader.proofs.Turns.{turn-none, turn-past, fits-there, turn-wrong, turn-closed, turn-shorter, turn_on}
use Rattle.litmus_reader.proofs.form.read_form.Goals as goal

pub loop-i-init : goal.loop-i-init
loop-i-init c =
    (begin _ _ c.args.place.now _ _ _ c.flags_in-alive.ensures c.blank_in-r.ensures, c.mark_in-mark.ensures, omega arith, omega arith, c.requires, search rules)

pub returns-then-token-text : goal.returns-then-token-text
returns-then-token-text c =
    rw c.at.ensures (record { says = cell-unended _ _ _ _ _ _ _ _ _ c.loop-i.invariant.0 _ c.next_token-token.ensures.0 (omega arith); further = tt })

pub returns-in_default : goal.returns-in_default
returns-in_default c =
    let twelve : length c.advance-left.result ≡ 12 = search rules in
    let inside : c.next_token-token.result.start < length c.args.text.now = omega (arith, c.if-token-text.false) in
    rw c.at-in_default.ensures (record { says = turn-none _ _ _ _ _ _ _ _ _ c.loop-i.invariant.0 _ c.next_token-token.ensures.0 inside _ _ _ c.loop-i.invariant.1 c.loop-i.invariant.5 twelve c.advance-left.ensures c.first_alive.ensures c.in_default.is; further = tt })

pub pattern_at-requires : goal.pattern_at-requires
pattern_at-requires c = ((c.first_alive.ensures.found _ c.in-Some.is).0, c.loop-i.invariant.2)

pub note-requires : goal.note-requires
note-requires c =
    let twelve : length c.advance-left.result ≡ 12 = search rules in
    let inside : c.next_token-token.result.start < length c.args.text.now = omega (arith, c.if-token-text.false) in
    fits-there _ _ _ _ _ _ _ _ _ c.loop-i.invariant.0 _ c.next_token-token.ensures.0 inside _ _ _ c.loop-i.invariant.1 c.loop-i.invariant.5 twelve c.advance-left.ensures c.first_alive.ensures _ c.in-Some.is _ c.pattern_at.ensures

pub returns-in-Err : goal.returns-in-Err
returns-in-Err c =
    let twelve : length c.advance-left.result ≡ 12 = search rules in
    let inside : c.next_token-token.result.start < length c.args.text.now = omega (arith, c.if-token-text.false) in
    rw c.at-in-Err.ensures (
    record {
      says = turn-wrong _ _ _ _ _ _ _ _ _ c.loop-i.invariant.0 _ c.next_token-token.ensures.0 inside _ _ _ c.loop-i.invariant.1 c.loop-i.invariant.5 twelve
          c.advance-left.ensures c.first_alive.ensures _ c.in-Some.is _ c.pattern_at.ensures _ c.note.ensures c.in-Err.is;
      further = tt;
    }
    )

pub form_at-form-requires : goal.form_at-form-requires
form_at-form-requires c = (c.first_alive.ensures.found _ c.in-Some.is).0

pub returns-then-i-form : goal.returns-then-i-form
returns-then-i-form c =
    let twelve : length c.advance-left.result ≡ 12 = search rules in
    let inside : c.next_token-token.result.start < length c.args.text.now = omega (arith, c.if-token-text.false) in
    let past = turn-past _ _ _ _ _ _ _ _ _ c.loop-i.invariant.0 _ c.next_token-token.ensures.0 inside _ _ _ c.loop-i.invariant.1 c.loop-i.invariant.5 twelve c.advance-left.ensures c.first_alive.ensures in
    let closes = rw c.form_at-form.ensures at c.if-i-form.true in
    rw c.form_at-form.ensures (
    record {
      says = turn-closed _ _ _ _ _ _ _ _ _ c.loop-i.invariant.0 _ c.next_token-token.ensures.0 inside _ _ _ c.loop-i.invariant.1 c.loop-i.invariant.5 twelve c.advance-left.ensures c.first_alive.ensures _ c.in-Some.is _ c.pattern_at.ensures _ _ c.note.ensures c.in-Ok.is closes refl;
      further = (omega arith, c.next_token-token.ensures.3);
    }
    )

pub loop-i-preserved : goal.loop-i-preserved
loop-i-preserved c =
    let twelve : length c.advance-left.result ≡ 12 = search rules in
    let inside : c.next_token-token.result.start < length c.args.text.now = omega (arith, c.if-token-text.false) in
    let goes = rw c.form_at-form.ensures at c.if-i-form.false in (
      rw add-one (turn_on _ _ _ _ _ _ _ _ _ c.loop-i.invariant.0 _ c.next_token-token.ensures.0 inside _ _ _ c.loop-i.invariant.1 c.loop-i.invariant.5 twelve c.advance-left.ensures c.first_alive.ensures _ c.in-Some.is _ c.pattern_at.ensures _ c.note.ensures c.in-Ok.is goes),
      c.loop-i.invariant.1,
      turn-shorter _ _ _ _ _ _ _ _ _ c.loop-i.invariant.0 _ c.next_token-token.ensures.0 inside _ _ _ c.loop-i.invariant.1 c.loop-i.invariant.5 twelve c.advance-left.ensures c.first_alive.ensures _ c.in-Some.is _ c.pattern_at.ensures goes,
      omega arith,
      c.next_token-token.ensures.3,
      twelve,
    )
