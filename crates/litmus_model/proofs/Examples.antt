-- The bytes of words, names and blanks; the reader on document 01's small text, on every form, and on corners; and the call.
use mathlib.Core.Path.{◌≡◌, refl}
use mathlib.Core.Bool.{Bool, cond, not}
use mathlib.Core.List.{List, [], ◌∷◌, ◌++◌}
use Prim.Native.Nat.{ℕ, zero, suc}
use Prim.Native.Char.{code}
use Prim.Native.String.{String}
use Rattle.model.specs.declared.record.Record.{Record}
use Rattle.model.specs.Tests.{Tested, passed, refused}
use Rattle.model.specs.Reply.{Reply, done, refuse}
use Rattle.litmus_model.specs.Bytes.{is_blank, in_word, in_name, is_location}
use Rattle.litmus_model.specs.Reader.{read_text}
use Rattle.litmus_model.specs.Call.{imported}

-- a text as its bytes: each character here is one byte
unfoldable pub bytes : String → List ℕ
bytes String.[] = []
bytes (String.◌∷◌ c s) = code c ∷ bytes s

unfoldable pub read : String → Tested (List Record)
unfolding bytes read_text
read text = read_text (bytes text)

unfoldable pub reply : String → List ℕ → Reply
unfolding bytes imported
reply text room = imported (bytes text) room

-- kind, processor, register, location, value
abbrev pub rec : (k p r x v : ℕ) → Record
rec k p r x v = record { kind = k; processor = p; register = r; location = x; value = v }

-- ---- bytes

-- those below n of which f holds
unfoldable pub those : (ℕ → Bool) → ℕ → List ℕ
those f zero = []
those f (suc n) = those f n ++ cond (f n) (n ∷ []) []

-- of all bytes: what blanks are, what a word is made of, what no name has, and what a location is
pub classes : (those is_blank 256 ≡ bytes "\n\r ")
    × (those in_word 256 ≡ bytes "0123456789ABCDEFGHIJKLMNOPQRSTUVWXYZabcdefghijklmnopqrstuvwxyz")
    × (those (λ b. not (in_name b)) 256 ≡ bytes "\n\r {")
    × (those (λ b. is_location (b ∷ [])) 256 ≡ bytes "abcdefghijklmnopqrstuvwxyz")
unfolding those bytes in_word in_name is_location
classes = (refl, refl, refl, refl)

-- ---- texts of the grammar

pub small : read "X86 SB\n{ x=0; 0:EAX=5; }\n P0          | P1          ;\n MOV [x],$1  | MOV [y],EBX ;\n MFENCE      |             ;\n LOCK XADD [x],EAX | MOV ECX,$-1 ;\nexists (x=1)\n"
    ≡ passed (rec 1 0 0 0 0 ∷ rec 2 0 0 0 5 ∷ rec 3 0 0 0 1 ∷ rec 4 1 1 1 0 ∷ rec 7 0 0 0 0 ∷ rec 11 0 0 0 0 ∷ rec 6 1 2 0 4294967295 ∷ [])
unfolding read
small = refl

-- all eleven kinds: no theorem but this one tells kinds with the same fields apart
pub every-form : read "X86 all {x=1;3:EDX=2;} P0|P1|P2|P3; MOV [x],$1|MOV [y],EBX|MOV ECX,[z]|MOV EDX,$7; MFENCE|XCHG [x],EAX|LOCK XCHG [y],EBX|XADD [z],ECX; LOCK XADD [w],EDX|||; forall"
    ≡ passed (rec 1 0 0 0 1 ∷ rec 2 3 3 0 2
    ∷ rec 3 0 0 0 1 ∷ rec 4 1 1 1 0 ∷ rec 5 2 2 2 0 ∷ rec 6 3 3 0 7
    ∷ rec 7 0 0 0 0 ∷ rec 8 1 0 0 0 ∷ rec 9 2 1 1 0 ∷ rec 10 3 2 2 0
    ∷ rec 11 0 3 3 0 ∷ [])
unfolding read
every-form = refl

-- blanks in front, a name that touches X86, and a row of one empty cell
pub empty-cell : read "\r\n X86-SB{}P0;;~exists" ≡ passed []
unfolding read
empty-cell = refl

-- both ends of what a constant may be, leading zeros, and -0
pub constants : read "X86 n {x=-2147483648; y=004294967295; z=-0;} P0; MOV EAX,$-0; exists"
    ≡ passed (rec 1 0 0 0 2147483648 ∷ rec 1 0 0 1 4294967295 ∷ rec 1 0 0 2 0 ∷ rec 6 0 0 0 0 ∷ [])
unfolding read
constants = refl

-- ---- 19, 20 and 21

-- one beyond each end; the early 21 comes before a later 19
pub beyond : (read "X86 n {} P0; MOV EAX,$4294967296; exists" ≡ refused 21 21) × (read "X86 n {x=-2147483649 x" ≡ refused 21 9)
unfolding read
beyond = (refl, refl)

-- no register follows: but a processor that there is not comes before that
pub no_register : (read "X86 n {4=1;}" ≡ refused 20 7) × (read "X86 n {3=1;}" ≡ refused 19 8)
unfolding read
no_register = (refl, refl)

pub ninth : read "X86 n {a=0;b=0;c=0;d=0;e=0;f=0;g=0;h=0;} P0; MOV [a],$1; MOV [i],$1;" ≡ refused 20 62
unfolding read
ninth = refl

-- a fifth processor; and where its heading cannot stand: at one byte 19 comes before 20
pub fifth : (read "X86 n {} P0|P1|P2|P3|P4;" ≡ refused 20 21) × (read "X86 n {} P0|P4;" ≡ refused 19 12)
unfolding read
fifth = (refl, refl)

-- ~exists is a token only where no letter or digit follows
pub tilde : read "X86 n {} P0; ~exists1" ≡ refused 19 13
unfolding read
tilde = refl

-- ---- the call

pub twice : reply "X86 n {x=0;y=0;x=1;} P0; exists" [] ≡ refuse 6 2 []
unfolding reply
twice = refl

-- a record of eight bytes, in nine and in seven
pub written : (reply "X86 n {x=258;} P0; exists" (9 ∷ 9 ∷ 9 ∷ 9 ∷ 9 ∷ 9 ∷ 9 ∷ 9 ∷ 9 ∷ []) ≡ done 1 (1 ∷ 0 ∷ 0 ∷ 0 ∷ 2 ∷ 1 ∷ 0 ∷ 0 ∷ 9 ∷ []))
    × (reply "X86 n {x=258;} P0; exists" (9 ∷ 9 ∷ 9 ∷ 9 ∷ 9 ∷ 9 ∷ 9 ∷ []) ≡ refuse 13 8 (9 ∷ 9 ∷ 9 ∷ 9 ∷ 9 ∷ 9 ∷ 9 ∷ []))
unfolding reply
written = (refl, refl)
