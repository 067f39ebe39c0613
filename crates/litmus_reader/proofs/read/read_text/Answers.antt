use mathlib.Core.Path.{refl}
use Rattle.model.proofs.Raised.{raised}
use Rattle.litmus_reader.proofs.Texts.{text-refused, head-on, cells-refused, cells-on, headings-refused, rows-refused, text-read}
use Rattle.litmus_reader.proofs.read.read_text.Goals as goal

pub returns-in_err-headings : goal.returns-in_err-headings
returns-in_err-headings c =
    let cells = rw c.new-letters.ensures at c.read_forms.ensures.0 in
    let h = head-on _ _ c.read_head.ensures.0 _ c.in_ok-cells.was in
    rw (raised c.from_residual-in_err-headings.result c.in_err-headings.field-0.0 c.from_residual-in_err-headings.ensures.1) (text-refused _ (cells-refused refl h cells _ c.in_err-headings.was))

pub returns-in_err-n : goal.returns-in_err-n
returns-in_err-n c =
    let cells = rw c.new-letters.ensures at c.read_forms.ensures.0 in
    let h = head-on _ _ c.read_head.ensures.0 _ c.in_ok-cells.was in
    let t = cells-on refl h cells _ c.in_ok-headings.was in
    rw (raised c.from_residual-in_err-n.result c.in_err-n.field-0.0 c.from_residual-in_err-n.ensures.1) (text-refused _ (headings-refused t c.read_headings.ensures _ c.in_err-n.was))

pub returns-in_err-read_forms : goal.returns-in_err-read_forms
returns-in_err-read_forms c =
    let cells = rw c.new-letters.ensures at c.read_forms.ensures.0 in
    let h = head-on _ _ c.read_head.ensures.0 _ c.in_ok-cells.was in
    let t = cells-on refl h cells _ c.in_ok-headings.was in
    let rows = rw c.first.ensures at c.read_forms-2.ensures.0 in
    rw (raised c.from_residual-in_err-read_forms.result c.in_err-read_forms.field-0.0 c.from_residual-in_err-read_forms.ensures.1) (text-refused _ (rows-refused t c.read_headings.ensures _ c.in_ok-n.was rows _ c.in_err-read_forms.was))

pub returns : goal.returns
returns c =
    let cells = rw c.new-letters.ensures at c.read_forms.ensures.0 in
    let h = head-on _ _ c.read_head.ensures.0 _ c.in_ok-cells.was in
    let t = cells-on refl h cells _ c.in_ok-headings.was in
    let rows = rw c.first.ensures at c.read_forms-2.ensures.0 in
    text-read t c.read_headings.ensures _ c.in_ok-n.was rows _ c.in_ok-read_forms.was
