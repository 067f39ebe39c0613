-- The reply to a text, from its records.
use mathlib.Core.Path.{◌≡◌, sym, ap, ◌∙◌, subst}
use mathlib.Core.List.{List}
use Prim.Native.Nat.{ℕ}
use Rattle.std.specs.Prelude.{Ok, Err}
use Rattle.model.specs.declared.answer.Refused.{Refused}
use Rattle.model.specs.Code.{Verdict, tested_of}
use Rattle.model.specs.declared.record.Record.{Record}
use Rattle.model.specs.Tests.{Tested, passed, refused, and_then}
use Rattle.model.specs.Reply.{Answer, reply_of, refuse, number_of}
use Rattle.model.specs.Calls.{replied}
use Rattle.model.proofs.Tests.{then-passed, then-refused}
use Rattle.litmus_model.specs.Reader.{read_text}
use Rattle.litmus_model.specs.Call.{tabled, placed, imported}
use Rattle.litmus_model.proofs.Answers.{reads-exactly}
use Rattle.litmus_model.proofs.Tables.{gives-table}
use Rattle.litmus_reader.specs.declared.records.Records.{Records}
use Rattle.litmus_reader.specs.Keeping.{Keeps}
use Rattle.litmus_reader.specs.Forming.{Counts, TextRead}
use Rattle.litmus.specs.Tabled.{Tabled}

module _ (text room : List ℕ) where
  replies : (t : Tested (List Record)) → and_then (read_text text) tabled ≡ t → replied room t (placed room) ≡ imported text room
  unfolding imported
  replies t e = ap (λ (u : Tested (List Record)). replied room u (placed room)) (sym e)

  -- 19, 20, 21
  refused-text : (n i : ℕ) → read_text text ≡ refused n i → refuse n i room ≡ imported text room
  unfolding replied
  refused-text n i e = replies (refused n i) (then-refused (read_text text) tabled n i e)

  of-records : (rs : List Record) → read_text text ≡ passed rs → (kept : Records) → Keeps kept rs → (out : Answer) (after : List ℕ) → Tabled kept room out after → reply_of out after ≡ imported text room
  of-records rs e kept k out after t =
      t.each rs k (gives-table text rs ((reads-exactly text (passed rs)).0 e)).small ∙ replies (tabled rs) (then-passed (read_text text) tabled rs e)

  module _ (out : Verdict) (kept : Records) (t : TextRead text out kept) where
    pub text-refused : (r : Refused) → out ≡ Err r → refuse (number_of r.why) r.place room ≡ imported text room
    text-refused r e = refused-text (number_of r.why) r.place (t.says ∙ ap (λ (o : Verdict). tested_of o t.rs) e)

    pub text-tabled : out ≡ Ok tt → (last : Answer) (after : List ℕ) → Tabled kept room last after → reply_of last after ≡ imported text room
    text-tabled e last after x = of-records t.rs (t.says ∙ ap (λ (o : Verdict). tested_of o t.rs) e) kept (subst (λ (o : Verdict). Counts o kept t.rs) e t.counts) last after x
