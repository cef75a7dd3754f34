-- The words that are stored of an input that reads are the numbers of its first two lines. Assumes nothing.
use mathlib.Core.Path.{◌≡◌, sym, ap, subst, ◌∙◌}
use mathlib.Core.List.{List}
use Prim.Native.Nat.{ℕ, ◌≤◌}
use native.Mathlib.Omega.{arith}
use lib.IntN.{ℤ}
use lib.ListN.{length, take, drop}
use lib.Seq.{take-append_seam}
use Rattle.std.specs.Prelude.{Ok}
use Rattle.lister.specs.Bytes.{laid}
use Rattle.lister.specs.Grammar.{ListLine}
use Rattle.lister.specs.Reading.{InputRead, input_of, input_in}
use Rattle.lister.proofs.BufferLaws.{laid-fits}
use Rattle.lister.proofs.InputGrammar.{Takes, Says, input-says}

line-short : {name s : List ℕ} {ws : List ℤ} → ListLine name s ws → length ws ≤ 4096
line-short (ListLine.line f h) = h

stored_is : (ws s : List ℤ) (n : ℕ) → length ws ≡ n → length ws ≤ 4096 → length s ≡ 4096 → take n (laid ws s) ≡ ws
stored_is ws s n e h l = rw (laid-fits ws s (omega arith), ← e) (take-append_seam ws (drop (length ws) s))

module _ (t : List ℕ) {p p' q q' : List ℤ} {n m : ℕ} {b : ℤ} (r : InputRead (input_in t) p p' q q' (Ok (input_of n m b))) where
  said : Takes t (input_in t) n m b
  said = subst (Says t (input_in t)) (sym r.told) (input-says t)

  pub program-stored : length p ≡ 4096 → take n p' ≡ (input_in t).program
  program-stored l = ap (take n) r.program ∙ stored_is (input_in t).program p n said.program (line-short said.fit.before.before.line) l

  pub proposals-stored : length q ≡ 4096 → take m q' ≡ (input_in t).proposals
  proposals-stored l = ap (take m) r.proposals ∙ stored_is (input_in t).proposals q m said.proposals (line-short said.fit.before.line) l
