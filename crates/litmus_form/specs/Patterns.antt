-- What the code's patterns stand for.
use Rattle.std.specs.Prelude.{cond, [], ◌∷◌, ℕ, get_or, leb}
use Rattle.litmus_model.specs.Forms.{MOV, MFENCE, XCHG, XADD, LOCK, Pattern, exactly, location, register, processor, constant, dollar}
use Rattle.litmus_form.specs.declared.patterns.Pattern as code
use Rattle.litmus_form.specs.declared.patterns.Pattern.TheVariants.{Mov, Mfence, Xchg, Xadd, Lock, Location, Register, Processor, Constant, Dollar, Mark, Closing, Past}

-- a closing mark that is not known yet, and what is past a form's end, fit no token
unfoldable pub pattern_of : code.Pattern → Pattern
pattern_of Mov = exactly MOV
pattern_of Mfence = exactly MFENCE
pattern_of Xchg = exactly XCHG
pattern_of Xadd = exactly XADD
pattern_of Lock = exactly LOCK
pattern_of Location = location
pattern_of Register = register
pattern_of Processor = processor
pattern_of Constant = constant
pattern_of Dollar = dollar
pattern_of (Mark b) = exactly (b ∷ [])
pattern_of Closing = exactly []
pattern_of Past = exactly []

-- a pattern by its number: from 32 on a mark is its byte
abbrev pub numbered : ℕ → code.Pattern
numbered n =
    cond (leb 32 n) (Mark n)
    (get_or (Past ∷ Mov ∷ Mfence ∷ Xchg ∷ Xadd ∷ Lock ∷ Location ∷ Register ∷ Processor ∷ Constant ∷ Dollar ∷ []) n Past)
