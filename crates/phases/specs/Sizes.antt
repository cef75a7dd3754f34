-- How many ties, words of marks and cells of a class there are, named once. Assumes nothing: these are definitions.
use Rattle.std.specs.Prelude.{ℕ, ◌+◌}
use Rattle.tables.specs.declared.Sort.TheVariants.{Identities}
use Rattle.tables.specs.Kept.{most_kept}

-- each kept identity is a tie with two ends
abbrev pub most_ties : ℕ
most_ties = most_kept Identities

-- a mark of one bit for each location, 64 in a word
abbrev pub marks_words : ℕ
marks_words = 9

-- the target, and one cell more for each tie
abbrev pub class_cells : ℕ
class_cells = 1 + most_ties
