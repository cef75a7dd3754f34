-- Bytes of a text are the same as themselves. Assumes nothing.
use mathlib.Core.Path.{◌≡◌}
use mathlib.Core.Bool.{true}
use mathlib.Core.List.{List}
use Prim.Native.Nat.{ℕ, ◌+◌, ◌≤◌}
use native.Mathlib.Omega.{arith}
use borrow.Author.Tests.{le-ltb}
use lib.ListN.{length, take, drop, length-drop}
use lib.Seq.{length-take-le}
use Rattle.tokens.specs.Bytes.{same_in}
use Rattle.tokens.proofs.ByteLaws.{spelt-self}

pub same-itself : (text : List ℕ) (p n : ℕ) → p + n ≤ length text → same_in text p p n ≡ true
unfolding same_in
same-itself text p n h =
    let l : n ≤ length (drop p text) = rw length-drop (omega arith) in
    let m : length (take n (drop p text)) ≡ n = length-take-le n (drop p text) l in
    rw (le-ltb (length (take n (drop p text))) n (omega arith)) (spelt-self (take n (drop p text)))
