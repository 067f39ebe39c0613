-- The head of a text, token by token.
use mathlib.Core.Path.{◌≡◌, refl, ap, sym, ◌∙◌, subst}
use mathlib.Core.Bool.{true, false}
use mathlib.Core.List.{List, [], ◌∷◌}
use Prim.Native.Nat.{ℕ, ◌≤◌}
use native.Mathlib.Omega.{arith}
use lib.ListN.{length}
use Rattle.std.specs.Prelude.{Result, Ok, Err}
use Rattle.model.specs.declared.answer.Refused.{Refused}
use Rattle.model.specs.Reply.{number_of}
use Rattle.model.specs.Tests.{refused}
use Rattle.litmus_model.specs.Bytes.{Token, same, some, in_name, is_name}
use Rattle.litmus_model.specs.Forms.{X86, opening}
use Rattle.litmus_model.specs.Splitting.{tokens}
use Rattle.litmus_model.specs.Reader.{at_start, at_name, at_opening, beginning, braces, step, is_at_end, carried, read_text}
use Rattle.litmus_model.proofs.Bools.{false-true}
use Rattle.litmus_model.proofs.Following.{carried-reads}
use Rattle.std.specs.declared.ops.Range.{Range}
use Rattle.litmus_token.specs.Spans.{ahead, part_of, Named, Unnamed, Spans}
use Rattle.litmus_reader.specs.Passing.{answer, Ahead, Names}
use Rattle.litmus_reader.proofs.Steps.{refused-at, plain_at, not-empty, later}

pub start : (text : List ℕ) → read_text text ≡ carried (length text) at_start [] [] (ahead 0 text 0)
unfolding read_text tokens
start text = sym (carried-reads (length text) (tokens text))

first-token : Unnamed 0
first-token e = omega arith

third-token : Unnamed 2
third-token e = omega arith

-- ---- X86

pub no-X86 : (text : List ℕ) (x : Range ℕ) → Spans Unnamed text 0 x → same X86 (part_of text x) ≡ false → read_text text ≡ refused 19 x.start
unfolding step is_at_end
no-X86 text x sp e = start text ∙ refused-at 0 text 0 x at_start [] [] sp first-token refl (rw e)

to-name : (text : List ℕ) (x : Range ℕ) → Spans Unnamed text 0 x → same X86 (part_of text x) ≡ true → read_text text ≡ carried (length text) at_name [] [] (ahead 1 text x.end)
unfolding step
to-name text x sp e = start text ∙ plain_at 0 text 0 x at_start [] [] at_name sp first-token (not-empty 88 (56 ∷ 54 ∷ []) _ e) (rw e)

-- ---- the name

name-there : (t : Token) → is_name t ≡ true → ¬ (t ≡ [])
unfolding some
name-there t e z = false-true (sym (ap (some in_name) z) ∙ e)

pub no_name : (text : List ℕ) (x n : Range ℕ) → Spans Unnamed text 0 x → same X86 (part_of text x) ≡ true → Spans Named text x.end n → is_name (part_of text n) ≡ false → read_text text ≡ refused 19 n.start
unfolding step is_at_end
no_name text x n sp e sn h = to-name text x sp e ∙ refused-at 1 text x.end n at_name [] [] sn refl refl (rw h)

pub named : (text : List ℕ) (x n : Range ℕ) → Spans Unnamed text 0 x → same X86 (part_of text x) ≡ true → Spans Named text x.end n → is_name (part_of text n) ≡ true → Names text (Ok n.end)
unfolding step
named text x n sp e sn h = to-name text x sp e ∙ plain_at 1 text x.end n at_name [] [] at_opening sn refl (name-there _ h) (rw h)

-- ---- the brace

pub no-brace : (text : List ℕ) (out : Result ℕ Refused) (at : ℕ) (b : Range ℕ) → Names text out → out ≡ Ok at → Spans Unnamed text at b → same opening (part_of text b) ≡ false → read_text text ≡ refused 19 b.start
unfolding step is_at_end
no-brace text out at b n e sp h = subst (Names text) e n ∙ refused-at 2 text at b at_opening [] [] sp third-token refl (rw h)

pub opened : (text : List ℕ) (out : Result ℕ Refused) (at : ℕ) (b : Range ℕ) → Names text out → out ≡ Ok at → Spans Unnamed text at b → same opening (part_of text b) ≡ true → read_text text ≡ answer text b.end (beginning braces) [] []
unfolding step
opened text out at b n e sp h =
    subst (Names text) e n ∙ plain_at 2 text at b at_opening [] [] (beginning braces) sp third-token (not-empty 123 [] _ h) (rw h) ∙ ap (carried (length text) (beginning braces) [] []) (later 1 text b.end)

pub not_named : (text : List ℕ) (out : Result ℕ Refused) (r : Refused) → Names text out → out ≡ Err r → read_text text ≡ refused (number_of r.why) r.place
not_named text out r n e = subst (Names text) e n

pub on-ahead : (text : List ℕ) (out : Result ℕ Refused) (at : ℕ) → Ahead 0 text out → out ≡ Ok at → at ≤ length text
on-ahead text out at a e = (subst (Ahead 0 text) e a).1
