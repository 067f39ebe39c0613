-- Who holds the lock.
use Rattle.std.specs.Prelude.{ℕ, Bool, false, not, ◌==◌, Option, Some, None}

-- the holder of a free lock
abbrev pub nobody : Option ℕ
nobody = None

-- another processor than p holds the lock
abbrev pub blocked_in : Option ℕ → ℕ → Bool
blocked_in None p = false
blocked_in (Some holder) p = not (holder == p)
