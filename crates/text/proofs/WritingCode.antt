-- What the reader is when a word is written or owed. Assumes nothing.
use mathlib.Core.Path.{◌≡◌, refl}
use mathlib.Core.Bool.{Bool, true, false, ◌||◌}
use mathlib.Core.List.{List}
use Prim.Native.Nat.{ℕ, ◌+◌, ◌≤◌, ◌<◌}
use borrow.Author.Tests.{lt-ltb, le-ltb}
use lib.ListN.{set}
use Rattle.text.specs.declared.Carried.{Carried}
use Rattle.text.specs.Written.{with1, wrote_one, pass_by}
use Rattle.text.proofs.RaisedLaws.{grown_by}

-- the same reader, which owes k words more
abbrev pub owing_by : ℕ → Carried → Carried
owing_by k r = record r { owed = r.owed + k }

module _ (r : Carried) where
  pub wrote-more : r.written < 4100 → grown_by 1 r ≡ wrote_one r
  unfolding wrote_one
  wrote-more h = rw (lt-ltb r.written 4100 h)

  pub wrote_none : 4100 ≤ r.written → r ≡ wrote_one r
  unfolding wrote_one
  wrote_none h = rw (le-ltb r.written 4100 h)

  module _ {A : Type 0} (ws : List A) (w : A) where
    pub with_none : 4100 ≤ r.written → ws ≡ with1 ws r w
    unfolding with1
    with_none h = rw (le-ltb r.written 4100 h)

    pub with-more : {vs : List A} → r.written < 4100 → vs ≡ set ws r.written w → vs ≡ with1 ws r w
    unfolding with1
    with-more h e = rw (lt-ltb r.written 4100 h) e

or-false : (b : Bool) → b ≡ (b || false)
or-false true = refl
or-false false = refl

-- nothing is passed
pub passes_none : (r : Carried) → r ≡ pass_by false r
passes_none r = rw (← or-false r.passed)
