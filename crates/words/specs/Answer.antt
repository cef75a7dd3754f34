-- An answer, or a refusal: what the definitions of every layer are written in. Assumes nothing: these are definitions.
use Rattle.std.specs.Prelude.{Bool, true, false}

pub data Answer (E A : Type 0) : Type 0 where
  got : A → Answer E A
  stop : E → Answer E A

-- the first refusal met ends the work; `do` reads by these two
infixl 10 ◌>>=◌
abbrev pub ◌>>=◌ : {E A B : Type 0} → Answer E A → (A → Answer E B) → Answer E B
got a >>= f = f a
stop e >>= f = stop e

infixl 10 ◌>>◌
abbrev pub ◌>>◌ : {E A B : Type 0} → Answer E A → Answer E B → Answer E B
got a >> r = r
stop e >> r = stop e

-- go on if the test passed, else refuse with e
abbrev pub want : {E : Type 0} → E → Bool → Answer E (Unit {0})
want e true = got tt
want e false = stop e
