use mathlib.Core.Path.{ap, sym, ◌∙◌}
use mathlib.Core.List.{◌++◌}
use native.Mathlib.Omega.{arith}
use Rattle.model.proofs.Raised.{raised}
use Rattle.litmus_model.specs.Reader.{Control, left}
use Rattle.litmus_form.specs.declared.place.Place.{Place}
use Rattle.litmus_form.specs.Places.{context_of}
use Rattle.litmus_reader.specs.Keeping.{given}
use Rattle.litmus_reader.specs.Passing.{answer}
use Rattle.litmus_reader.proofs.Sequence.{leaves-on, to-form, form-refused, form-on, form-ahead, left-next}
use Rattle.litmus_reader.proofs.forms.read_forms.Goals as goal

pub returns-then-leaves_in : goal.returns-then-leaves_in
returns-then-leaves_in c = (
  record {
    each = λ rs k.
        let x = c.loop-place.invariant.0 rs k in
        (x.0, x.1, x.2 ∙ leaves-on _ _ _ _ _ _ c.next_token-token.ensures.0 (sym c.leaves_in.ensures ∙ c.if-leaves_in.true) ∙ ap (λ (q : Control). answer c.args.text.now c.next_token-token.result.end q c.loop-place.letters x.0) c.loop-place.invariant.1);
  },
  (omega arith, c.next_token-token.ensures.3),
)

pub returns-in_err-r : goal.returns-in_err-r
returns-in_err-r c =
    rw (raised c.from_residual.result c.in_err-r.field-0.0 c.from_residual.ensures.1) (
      record {
        each = λ rs k.
            let x = c.loop-place.invariant.0 rs k in
            (x.0, x.1, x.2 ∙ to-form _ _ _ c.loop-place.place c.loop-place.letters x.0 c.next_token-token.ensures.0 (sym c.leaves_in.ensures ∙ c.if-leaves_in.false) ∙ form-refused _ c.read_form.ensures c.in_err-r.was x.0);
      },
      tt,
    )

pub loop-place-preserved : goal.loop-place-preserved
loop-place-preserved c =
    let h = form-ahead _ c.read_form.ensures c.in_ok-r.was in
    let a = h.0 in (
      λ rs k.
          let x = c.loop-place.invariant.0 rs k in (
            x.0 ++ given c.in_ok-r.r,
            c.keep.ensures.0.each x.0 x.1,
            x.2 ∙ to-form _ _ _ c.loop-place.place c.loop-place.letters x.0 c.next_token-token.ensures.0 (sym c.leaves_in.ensures ∙ c.if-leaves_in.false) ∙ form-on _ _ c.read_form.ensures c.in_ok-r.was c.next_in-place.ensures x.0,
          ),
      ap (λ (p : Place). left (context_of p)) c.next_in-place.ensures ∙ left-next c.loop-place.place ∙ c.loop-place.invariant.1,
      omega arith,
      omega arith,
      h.1,
    )
