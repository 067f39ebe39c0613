-- Numbers that are cut off.
use Rattle.std.specs.Prelude.{cond, ℕ, suc, ltb, ℤ, pos, negsuc}
use Rattle.litmus_model.specs.Forms.{negated}

-- a number, or 2^32 if it is larger
unfoldable pub capped : ℕ → ℕ
capped n = cond (ltb 4294967296 n) 4294967296 n

-- the same on both sides of zero
abbrev pub capped_z : ℤ → ℤ
capped_z (pos n) = pos (capped n)
capped_z (negsuc n) = negated (capped (suc n))
