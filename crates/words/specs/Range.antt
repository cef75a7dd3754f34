-- "Each result of 1 to 3 must fit 32 bits signed." Assumes nothing: these are definitions.
use Rattle.std.specs.Prelude.{Bool, cond, ltb, ℤ, pos, negsuc, Option, Some, None}

-- 0 to 2147483647, and -1 (`negsuc 0`) to -2147483648
abbrev pub fits : ℤ → Bool
fits (pos n) = ltb n 2147483648
fits (negsuc n) = ltb n 2147483648

unfoldable pub ranged : ℤ → Option ℤ
ranged z = cond (fits z) (Some z) None
