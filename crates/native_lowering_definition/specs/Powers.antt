-- Words that are powers of two.
use Rattle.std.specs.Prelude.{ℕ, zero, suc, ◌^◌, ◌==◌, Bool, true, false, Option, Some, None, if◌then◌else◌, nat_lt}

-- k where the word is 2 ^ k, this being the first k that is looked at, and so many of them
unfoldable pub exponent_from : ℕ → ℕ → ℕ → Option ℕ
exponent_from k zero w = None
exponent_from k (suc more) w = if w == 2 ^ k then Some k else exponent_from (suc k) more w

-- k where the word is 2 ^ k
abbrev pub exponent : ℕ → Option ℕ
exponent w = exponent_from 0 32 w

-- k where the divisor is known to be 2 ^ k; read as signed, 2 ^ 31 is below 0
abbrev pub power_known : Option ℕ → Bool → Option ℕ
power_known None signed = None
power_known (Some w) true = if nat_lt w (2 ^ 31) then exponent w else None
power_known (Some w) false = exponent w
