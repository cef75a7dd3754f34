-- The words of an entry: they read exactly where they are an L and a literal, and behind a 1 they are those of an assignment. Assumes nothing.
use mathlib.Core.Path.{◌≡◌, sym, ap, ◌∙◌}
use Prim.Native.Nat.{ℕ, suc, ◌-◌, ◌<◌, ◌≤◌}
use native.Mathlib.Omega.{arith}
use mathlib.Core.Bool.{true, false}
use mathlib.Core.List.{List, [], ◌∷◌, ◌++◌, append_assoc, append-nil}
use lib.IntN.{ℤ, pos}
use lib.ListN.{length, take, length-append}
use lib.Seq.{take-append_seam, drop-append_seam}
use Rattle.words.specs.Words.{number_at, last_of}
use Rattle.words.specs.Answer.{got, stop}
use Rattle.words.proofs.Laws.{number-first}
use Rattle.words.proofs.AnswerLaws.{stop≢got, step}
use Rattle.tables.specs.declared.Value.{Value}
use Rattle.tables.specs.declared.Value.TheVariants.{Nil, Int}
use Rattle.tables.specs.declared.Value.TheVariants.{Bool as Truth}
use Rattle.program.specs.Forms.{verb_of}
use Rattle.program.specs.declared.Verb.TheVariants.{Assign as assign}
use Rattle.program.specs.Reading.{read_path, number}
use Rattle.program.specs.Grammar.{Path, Expression, statement_of, Yields, Takes}
use Rattle.program.proofs.NumberLaws.{number_read, number-of}
use Rattle.program.proofs.GrammarLaws.{path-complete, expression-complete, yields-complete}
use Rattle.program.proofs.GrammarSound.{path-sound, expression-sound}
use Rattle.rules.specs.Entries.{read_entry, assigning}
use Rattle.rules.specs.Rules.Expressions.{Literal}
use Rattle.rules.specs.Rules.Entries.{Entry, entry}
use Rattle.rules.specs.Steps.Holds.{StatementReads}
use Rattle.rules.proofs.StatementWords.{statement-verb, labels_length}

-- ---- a literal by itself

-- some value whose literal these words are
pub record IsLiteral (e : List ℤ) : Type 0 where
  pub value : Value
  pub literal : Literal e value []

literal-expression : {d : ℕ} {e : List ℤ} {v : Value} → Literal e v [] → Expression false (suc d) e
literal-expression Literal.nil = Expression.nil
literal-expression Literal.no = Expression.no
literal-expression Literal.yes = Expression.yes
literal-expression Literal.integer = Expression.integer

literal-number : {e : List ℤ} {v : Value} → Literal e v [] → (q : List ℤ) → (k : ℕ) × ((r : List ℤ) × (number 20 23 (e ++ q) ≡ got (k, r)))
literal-number Literal.nil q = (20, (q, number-of 20 23 20 q (omega arith) (omega arith)))
literal-number Literal.no q = (21, (q, number-of 20 23 21 q (omega arith) (omega arith)))
literal-number Literal.yes q = (22, (q, number-of 20 23 22 q (omega arith) (omega arith)))
literal-number (Literal.integer {w = w}) q = (23, (w ∷ q, number-of 20 23 23 (w ∷ q) (omega arith) (omega arith)))

-- an expression whose first word is at most 23
low-literal : {d : ℕ} {e : List ℤ} (q : List ℤ) → Expression false d e → number_at (e ++ q) 0 ≤ 23 → IsLiteral e
low-literal q Expression.nil h = record { value = Nil; literal = Literal.nil }
low-literal q Expression.no h = record { value = Truth false; literal = Literal.no }
low-literal q Expression.yes h = record { value = Truth true; literal = Literal.yes }
low-literal q (Expression.integer {w = w}) h = record { value = Int w; literal = Literal.integer }
low-literal q (Expression.at {a = a} x) h = absurd (omega (arith, number-first (pos 24) (a ++ q)))
low-literal q (Expression.operation {o = o} {a = a} {b = b} x y z w) h = absurd (omega (arith, number-first (pos 25) ((pos o ∷ a ++ b) ++ q)))
low-literal q (Expression.identity {a = a} {b = b} x y z) h = absurd (omega (arith, number-first (pos 26) ((a ++ b) ++ q)))

-- ---- an entry

pub entry-complete : {x : List ℤ} → Entry x → (q : List ℤ) → read_entry (x ++ q) ≡ got q
unfolding read_entry
entry-complete (entry {a = a} {e = e} target literal) q =
    let n = literal-number literal q in
    rw (append_assoc a e q, path-complete target (e ++ q), n.1.1, expression-complete (literal-expression {d = 0} literal) q)

pub entry-sound : (p q : List ℤ) → read_entry p ≡ got q → Takes Entry p q
unfolding read_entry
entry-sound p q h =
    step (read_path p) _ h λ r e k.
    step (number 20 23 r) _ k λ x f j.
    let t = path-sound p r e in
    let y = expression-sound 1 false r q j in
    let n = number_read 20 23 r f in
    let l : number_at (y.words ++ q) 0 ≤ 23 = rw (← y.split) (omega (arith, n.is, n.most)) in
    let z = low-literal q y.piece l in
    record { words = t.words ++ y.words; piece = entry t.piece z.literal; split = t.split ∙ ap (λ (s : List ℤ). t.words ++ s) y.split ∙ sym (append_assoc t.words y.words q) }

pub entry-reads : {p q : List ℤ} → Takes Entry p q → read_entry p ≡ got q
entry-reads {q = q} x = rw x.split (entry-complete x.piece q)

pub entry-not : {p r : List ℤ} → read_entry p ≡ stop r → (q : List ℤ) → Takes Entry p q → ⊥
entry-not e q x = stop≢got (sym e ∙ entry-reads x)

-- an entry has words
path-long : {a : List ℤ} → Path a → 0 < length a
path-long (Path.path x n l) = omega arith

pub entry-long : {x : List ℤ} → Entry x → 0 < length x
entry-long (entry {a = a} {e = e} target literal) = omega (arith, path-long target, length-append a e)

-- at most nine of an L, and two of a literal
literal-short : {e : List ℤ} {v : Value} → Literal e v [] → length e ≤ 2
literal-short Literal.nil = omega arith
literal-short Literal.no = omega arith
literal-short Literal.yes = omega arith
literal-short Literal.integer = omega arith

pub entry-short : {x : List ℤ} → Entry x → length x < 12
entry-short (entry {a = a} {e = e} (Path.path x n l) literal) = omega (arith, n, labels_length l, literal-short literal, length-append a e)

pub takes-shorter : {p q : List ℤ} → Takes Entry p q → length q < length p
takes-shorter {p} {q} x = omega (arith, entry-long x.piece, ap length x.split ∙ length-append x.words q)

-- what is left after it are the last words
pub takes-last : {p q : List ℤ} → Takes Entry p q → last_of (length q) p ≡ q
takes-last {p} {q} x =
    let n : length (x.words ++ q) - length q ≡ length x.words = omega (arith, length-append x.words q) in
    rw (x.split, n) (drop-append_seam x.words q)

-- ---- the statement that it is

take-front : (x q : List ℤ) → take (length (x ++ q) - length q) (x ++ q) ≡ x
take-front x q = let e : length (x ++ q) - length q ≡ length x = omega (arith, length-append x q) in rw e (take-append_seam x q)

pub assigning-is : {p q : List ℤ} (x : Takes Entry p q) → assigning p q ≡ pos 1 ∷ x.words
assigning-is {q = q} x = rw x.split (ap (λ (s : List ℤ). pos 1 ∷ s) (take-front x.words q))

pub entry-yields : {d : ℕ} {x : List ℤ} → Entry x → Yields (statement_of d) (pos 1 ∷ x)
entry-yields (entry target literal) = Yields.assign target (literal-expression literal)

pub entry-statement : {x : List ℤ} → Entry x → StatementReads (pos 1 ∷ x)
entry-statement {x} e = record { nest = 0; rest = []; reads = rw append-nil at (yields-complete (entry-yields {d = 0} e) []) }

pub entry-verb : {x : List ℤ} → Entry x → verb_of (number_at (pos 1 ∷ x) 0) ≡ assign
entry-verb {x} e = statement-verb (pos 1 ∷ x) (entry-statement e) assign (number-first (pos 1) x)
