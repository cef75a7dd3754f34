-- A capped number is at most its cap. Assumes nothing.
use Prim.Native.Nat.{ℕ, ◌≤◌, ◌<◌}
use native.Mathlib.Omega.{arith}
use native.Mathlib.Decide.{dec_lt}
use borrow.Author.Tests.{lt-ltb, le-ltb}
use Rattle.compared.specs.Compared.{capped}

pub capped-most : (n most : ℕ) → capped n most ≤ most
capped-most n most = go (dec_lt n most)
  where
    go : Dec (n < most) → capped n most ≤ most
    go (yes y) = rw (lt-ltb n most y) (omega arith)
    go (no h) = rw (le-ltb n most (omega arith)) (omega arith)
