use mathlib.Core.Path.{◌≡◌, ◌∙◌}
use native.Mathlib.Omega.{arith}
use borrow.Author.Rules.{rules}
use Rattle.words.proofs.BitLaws.{next_past, next-in, next-on, word_in, word_on}
use Rattle.phases.proofs.giving.next_marked.Goals as goal

pub returns-then-at-ge-MARKS_WORDS : goal.returns-then-at-ge-MARKS_WORDS
returns-then-at-ge-MARKS_WORDS c = next_past c.args.class.now c.args.l (omega arith)

pub returns-then-rest-ne0 : goal.returns-then-rest-ne0
returns-then-rest-ne0 c = next-in c.args.class.now c.args.l (omega arith) (search rules) c.if-rest-ne0.true

pub loop-i-init : goal.loop-i-init
loop-i-init c = next-on c.args.class.now c.args.l (omega arith) c.if-rest-ne0.false

pub returns-then-word-ne0 : goal.returns-then-word-ne0
returns-then-word-ne0 c = word_in c.args.class.now c.loop-i.i (omega arith) (search rules) c.if-word-ne0.true ∙ c.loop-i.invariant

pub loop-i-preserved : goal.loop-i-preserved
loop-i-preserved c = word_on c.args.class.now c.loop-i.i (omega arith) c.if-word-ne0.false ∙ c.loop-i.invariant

pub returns : goal.returns
returns c = let z : c.loop-i.i ≡ 9 = omega arith in next_past c.args.class.now 576 (omega arith) ∙ rw z at c.loop-i.invariant
