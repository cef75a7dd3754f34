-- What the code writes to, and what a piece leaves there. Assumes nothing: these are definitions.
use Rattle.std.specs.Prelude.{ℕ, suc, ◌≡◌, cond, List, [], ◌∷◌, ltb, set}
use Rattle.printing.specs.declared.page.Page.{Page}
use Rattle.printing.specs.Signs.{Sign}
use Rattle.printing.specs.Naming.{naming_of, ranks, name_of, bytes_of, numbers_of, noted, noted_all}

-- bytes, and how many are written
pub record Ink : Type 0 where
  pub bytes : List ℕ
  pub at : ℕ

abbrev pub ink : List ℕ → ℕ → Ink
ink bytes at = record { bytes = bytes; at = at }

-- the greatest length that is told
abbrev pub far : ℕ
far = 2147483647

-- a byte more; past the end it is counted alone
unfoldable pub byte_on : Ink → ℕ → Ink
byte_on s b = ink (set s.bytes s.at b) (cond (ltb s.at far) (suc s.at) s.at)

unfoldable pub onto : Ink → List ℕ → Ink
onto s [] = s
onto s (b ∷ t) = onto (byte_on s b) t

abbrev pub ink_of : Page → Ink
ink_of a = ink a.out.now a.at

-- bytes are written, and no number is used; the names stay, and so does the row that is lent
pub record Added (a : Page) (s : List ℕ) (b : Page) : Type 0 where
  pub ink : ink_of b ≡ onto (ink_of a) s
  pub seen : b.seen ≡ a.seen
  pub names : b.names ≡ a.names
  pub row : b.out.ghost_name ≡ a.out.ghost_name

-- the name of a number is written, which is used
pub record Named (a : Page) (i : ℕ) (b : Page) : Type 0 where
  pub ink : ink_of b ≡ onto (ink_of a) (name_of (naming_of a.names) i)
  pub seen : ranks b.seen ≡ noted (ranks a.seen) i
  pub names : b.names ≡ a.names
  pub row : b.out.ghost_name ≡ a.out.ghost_name

-- signs are written: their bytes, and the numbers that they use
pub record Wrote (a : Page) (ss : List Sign) (b : Page) : Type 0 where
  pub ink : ink_of b ≡ onto (ink_of a) (bytes_of (naming_of a.names) ss)
  pub seen : ranks b.seen ≡ noted_all (ranks a.seen) (numbers_of ss)
  pub names : b.names ≡ a.names
  pub row : b.out.ghost_name ≡ a.out.ghost_name
