-- What the loops over fields, records and positions come to. Assumes nothing.
use mathlib.Core.Path.{◌≡◌, sym, ap, ◌∙◌}
use mathlib.Core.Bool.{Bool, true, false, not}
use Prim.Native.Nat.{ℕ}
use borrow.Author.Tests.{eq-eqb, ne_eqb}
use lib.Dec.{eqb}

-- a test that was taken or left, read through what the callee promises
pub refused : {r d : Bool} → r ≡ false → r ≡ d → d ≡ false
refused n e = sym e ∙ n

pub passed : {r d : Bool} → r ≡ true → r ≡ d → d ≡ true
passed n e = sym e ∙ n

-- two numbers that are the same or differ, read through what the callee promises
pub met : {a b d e : ℕ} → a ≡ b → a ≡ d → b ≡ e → not (eqb d e) ≡ false
met {d = d} {e = e} q m n = ap not (eq-eqb d e (sym m ∙ q ∙ n))

pub apart : {a b d e : ℕ} → (a ≡ b → ⊥) → a ≡ d → b ≡ e → not (eqb d e) ≡ true
apart {d = d} {e = e} q m n = ap not (ne_eqb d e (λ h. q (m ∙ h ∙ sym n)))
