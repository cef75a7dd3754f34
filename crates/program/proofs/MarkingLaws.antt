-- What marking a statement and a block comes to, and what the marks of a program tell. Assumes nothing.
use mathlib.Core.Path.{◌≡◌, refl, sym, ap, ◌∙◌}
use mathlib.Core.Bool.{Bool, true, false, ◌&&◌, ◌||◌}
use mathlib.Core.List.{List}
use Rattle.std.specs.Prelude.{Option, Some, None, Result}
use Prim.Native.Nat.{ℕ, zero, suc, ◌+◌, ◌-◌, ◌*◌, ◌≤◌, ◌<◌}
use native.Mathlib.Omega.{arith}
use native.Mathlib.Decide.{ℕ_discrete}
use borrow.Author.Tests.{eqb-true, eq-eqb, ne_eqb}
use lib.Dec.{eqb, leb}
use lib.IntN.{ℤ}
use lib.ListN.{length, drop, replicate, length-replicate}
use Rattle.words.specs.Words.{number_at, last_of}
use Rattle.words.specs.Bits.{marked, with_mark}
use Rattle.words.proofs.Laws.{number-drop}
use Rattle.words.proofs.BitLaws.{mark-length, mark-is, none-marked}
use Rattle.tables.specs.declared.Sort.{Sort}
use Rattle.tables.proofs.SearchLaws.{cases}
use Rattle.program.specs.Forms.{verb_of}
use Rattle.program.specs.declared.Verb.{Verb}
use Rattle.program.specs.declared.Verb.TheVariants.{Skip as skip, Assign as assign, New as new, Always as always, Once as once, AlwaysSame as always_same, OnceSame as once_same, If as branch, While as loop, Unknown as no_verb}
use Rattle.program.specs.declared.Spot.{Spot}
use Rattle.program.specs.Told.{told, words_left}
use Rattle.program.specs.Reading.{read_expression, read_block, read_statement, after}
use Rattle.program.specs.Where.{or_else, spot_inside, spot_statement, spot_statements, spot_block, always_of, has_verb, is_always}
use Rattle.program.specs.Marking.{found, Marked, MarksOf}
use Rattle.program.proofs.LengthLaws.{Part, part-refl, part-drop, part-trans, after-part, uses-keeps, expression-uses, statement-uses, block-uses}
use Rattle.program.proofs.ReadLaws.{told-left}
use Rattle.program.proofs.RowLaws.{last-part, last-but-one}
use Rattle.program.proofs.WhereLaws.{spot-here, spot-loop, spot-branch, spot-none, spot-deep, spot-long, opened, statement-in, statement-past}

or-none : (a : Bool) → (a || false) ≡ a
or-none true = refl
or-none false = refl

or-marked : (a : Bool) → (a || true) ≡ true
or-marked true = refl
or-marked false = refl

or-both : (a b c : Bool) → ((a || b) || c) ≡ (a || (b || c))
or-both true b c = refl
or-both false b c = refl

found-either : (a b : Option Spot) → found (or_else a b) ≡ (found a || found b)
found-either (Some spot) b = refl
found-either None b = refl

-- a part is no longer than what it is a part of
module _ {q : List ℤ} {total : ℕ} (p : List ℤ) where
  pub rest-short : q ≡ drop 1 p → length p ≤ total → length q ≤ total
  rest-short e h = rw e (omega (arith, (part-drop 1 p).short, h))

  pub last-short : (k : ℕ) → q ≡ last_of k p → length p ≤ total → length q ≤ total
  last-short k e h = rw e (omega (arith, (last-part k p).short, h))

-- nothing more is marked
pub marked-none : {total : ℕ} {marks : List ℕ} → Marked total (λ left. None) marks marks
marked-none {marks = marks} = record { at = λ i a b. sym (or-none (marked marks i)) }

-- marks after marks
pub marked-both : {total : ℕ} {s t : ℕ → Option Spot} {before middle marks : List ℕ}
    → Marked total s before middle → length middle ≡ length before → Marked total t middle marks → Marked total (λ left. or_else (s left) (t left)) before marks
marked-both {total} {s} {t} {before} m e n = record {
  at = λ i a b.
      n.at i a (rw e b) ∙ rw (m.at i a b, found-either (s (total - i)) (t (total - i)))
      (or-both (marked before i) (found (s (total - i))) (found (t (total - i))));
}

-- the same statements, found another way
pub marked-same : {total : ℕ} {s t : ℕ → Option Spot} {before marks : List ℕ} → ((left : ℕ) → s left ≡ t left) → Marked total s before marks → Marked total t before marks
marked-same {total} {s} {t} f m = record { at = λ i a b. rw (← f (total - i)) (m.at i a b) }

-- ---- the statement at p

module _ (d total : ℕ) (p : List ℤ) (short : length p ≤ total) where
  abbrev stated : ℕ → Option Spot
  stated left = spot_statement (λ q. spot_block d left q) d left p

  module _ (before : List ℕ) {first : List ℕ} (e : first ≡ with_mark before (total - length p)) where
    self : (i : ℕ) → i < total → i < 64 * length before → length p ≡ total - i → marked first i ≡ true
    self i a b q = rw e (mark-is before (total - length p) i b ∙ rw (eq-eqb i (total - length p) (omega arith)))

    other : (i : ℕ) → i < total → i < 64 * length before → (length p ≡ total - i → ⊥) → marked first i ≡ marked before i
    other i a b ne = rw e (mark-is before (total - length p) i b ∙ rw (ne_eqb i (total - length p) (λ q. ne (omega arith))))

    -- the statement's own word is marked, then those inside it
    inside : {inner : ℕ → Option Spot} {marks : List ℕ} → ((left : ℕ) → (length p ≡ left → ⊥) → inner left ≡ stated left) → Marked total inner first marks → Marked total stated before marks
    inside {inner} {marks} f m = record { at = λ i a b. go i a b (ℕ_discrete (length p) (total - i)) }
      where
        long : length first ≡ length before
        long = ap length e ∙ mark-length before (total - length p)

        go : (i : ℕ) → i < total → i < 64 * length before → Dec (length p ≡ total - i) → marked marks i ≡ (marked before i || found (stated (total - i)))
        go i a b (yes q) = m.at i a (rw long b) ∙ rw (self i a b q, ← spot-here d (total - i) p q) (sym (or-marked (marked before i)))
        go i a b (no q) = m.at i a (rw long b) ∙ rw (other i a b q, f (total - i) q)

    pub mark-none : (number_at p 0 ≡ 7 → ⊥) → (number_at p 0 ≡ 8 → ⊥) → Marked total stated before first
    mark-none a b = inside (λ left ne. spot-none d left p ne a b) marked-none

    pub mark-loop : {marks : List ℕ} → number_at p 0 ≡ 8 → Marked total (λ left. spot_block d left (after (read_expression 16 false (drop 1 p)))) first marks → Marked total stated before marks
    mark-loop a m = inside (λ left ne. spot-loop d left p ne a) m

    pub mark-branch : {middle marks : List ℕ} → number_at p 0 ≡ 7
        → Marked total (λ left. spot_block d left (after (read_expression 16 false (drop 1 p)))) first middle → length middle ≡ length first
        → Marked total (λ left. spot_block d left (after (read_block d (after (read_expression 16 false (drop 1 p)))))) middle marks → Marked total stated before marks
    mark-branch a m l n = inside (λ left ne. spot-branch d left p ne a) (marked-both m l n)

-- ---- the loop over the statements of a block

pub record Marking (d total n : ℕ) (p : List ℤ) (i here : ℕ) (before marks : List ℕ) : Type 0 where
  pub inside : i ≤ n
  pub short : here ≤ length p
  pub kept : length marks ≡ length before
  pub rest : (k : ℕ) → k < total → k < 64 * length before
      → (marked marks k || found (spot_statements (λ q. spot_block (d - 1) (total - k) q) (d - 1) (total - k) (n - i) (last_of here p)))
      ≡ (marked before k || found (spot_block d (total - k) p))

module _ (d total : ℕ) (p : List ℤ) {marks : List ℕ} where
  pub mark-deep : d ≡ 0 → Marked total (λ left. spot_block d left p) marks marks
  mark-deep e = marked-same (λ left. spot-deep d left p e) marked-none

  pub mark-long : (d ≡ 0 → ⊥) → 255 < number_at p 0 → Marked total (λ left. spot_block d left p) marks marks
  mark-long ne h = marked-same (λ left. spot-long d left p ne h) marked-none

  pub marking-starts : (d ≡ 0 → ⊥) → number_at p 0 ≤ 255 → Marking d total (number_at p 0) p 0 (length p - 1) marks marks
  marking-starts ne h =
      let z : number_at p 0 - 0 ≡ number_at p 0 = omega arith in
      record { inside = omega arith; short = omega arith; kept = refl; rest = λ k a b. rw (z, last-but-one p, opened d (total - k) p d ne h) }

module _ {d total n i here : ℕ} {p q : List ℤ} {before marks next : List ℕ} (inv : Marking d total n p i here before marks) (more : i < n) (is : q ≡ last_of here p) where
  pub marking-goes-on : {r : Result ℕ ℕ} {k : ℕ} → Marked total (λ left. spot_statement (λ r. spot_block (d - 1) left r) (d - 1) left q) marks next → length next ≡ length marks → r ≡ told (read_statement (d - 1) q) → k ≡ words_left r
      → Marking d total n p (i + 1) k before next
  unfolding spot_statements
  marking-goes-on {k = k} m l g left =
      let w : Part p (after (read_statement (d - 1) q)) = part-trans (rw is (last-part here p)) (after-part _ (uses-keeps (statement-uses (d - 1) q))) in
      let y : k ≡ length (after (read_statement (d - 1) q)) = left ∙ told-left (read_statement (d - 1) q) g in
      let a : last_of k p ≡ after (read_statement (d - 1) q) = rw y w.is in
      let z : n - i ≡ suc (n - (i + 1)) = omega arith in
      record {
        inside = omega arith;
        short = omega (arith, w.short);
        kept = l ∙ inv.kept;
        rest = λ k b e.
            let one = spot_statement (λ r. spot_block (d - 1) (total - k) r) (d - 1) (total - k) q in
            let more = spot_statements (λ r. spot_block (d - 1) (total - k) r) (d - 1) (total - k) (n - (i + 1)) (after (read_statement (d - 1) q)) in
            rw (a, m.at k b (rw inv.kept e)) (or-both (marked marks k) (found one) (found more) ∙ rw (← found-either one more) (rw (z, ← is) at (inv.rest k b e)));
      }

pub marking-ends : {d total n i here : ℕ} {p : List ℤ} {before marks : List ℕ} → Marking d total n p i here before marks → n ≤ i → Marked total (λ left. spot_block d left p) before marks
unfolding spot_statements
marking-ends {n = n} {i = i} {marks = marks} inv h = let z : n - i ≡ 0 = omega arith in record { at = λ k a b. sym (or-none (marked marks k)) ∙ (rw z at (inv.rest k a b)) }

-- ---- the verb of a statement is the number of its word

abbrev Verbed : ℕ → Option Spot → Type 0
Verbed w (Some spot) = spot.verb ≡ w
Verbed w None = Unit {0}

verbed-either : (w : ℕ) (a b : Option Spot) → Verbed w a → Verbed w b → Verbed w (or_else a b)
verbed-either w (Some spot) b h k = h
verbed-either w None b h k = k

module _ (whole : List ℤ) (left : ℕ) where
  abbrev word : ℕ
  word = number_at (last_of left whole) 0

  module _ (inner : List ℤ → Option Spot) (each : (q : List ℤ) → Part whole q → Verbed word (inner q)) (nest : ℕ) where
    past-test : {p : List ℤ} → Part whole p → Part whole (after (read_expression 16 false (drop 1 p)))
    past-test {p} w = part-trans w (part-trans (part-drop 1 p) (after-part _ (uses-keeps (expression-uses 16 false (drop 1 p)))))

    past-block : {p : List ℤ} → Part whole p → Part whole (after (read_block nest p))
    past-block {p} w = part-trans w (after-part _ (uses-keeps (block-uses nest p)))

    inside-verb : {p : List ℤ} → Part whole p → (v : Verb) → Verbed word (spot_inside inner (λ q. after (read_block nest q)) p v)
    unfolding spot_inside
    inside-verb w skip = tt
    inside-verb w assign = tt
    inside-verb w new = tt
    inside-verb w always = tt
    inside-verb w once = tt
    inside-verb w always_same = tt
    inside-verb w once_same = tt
    inside-verb {p} w branch =
        verbed-either word (inner (after (read_expression 16 false (drop 1 p)))) (inner (after (read_block nest (after (read_expression 16 false (drop 1 p))))))
        (each _ (past-test w)) (each _ (past-block (past-test w)))
    inside-verb w loop = each _ (past-test w)
    inside-verb w no_verb = tt

    statement-verb : {p : List ℤ} → Part whole p → Verbed word (spot_statement inner nest left p)
    unfolding spot_statement
    statement-verb {p} w = cases (eqb (length p) left)
        (λ e. rw e (ap (λ q. number_at q 0) (sym (rw (eqb-true (length p) left e) at w.is))))
        (λ e. rw e (inside-verb w (verb_of (number_at p 0))))

    statements-verb : (n : ℕ) {p : List ℤ} → Part whole p → Verbed word (spot_statements inner nest left n p)
    unfolding spot_statements
    statements-verb zero w = tt
    statements-verb (suc n) {p} w =
        verbed-either word (spot_statement inner nest left p) (spot_statements inner nest left n (after (read_statement nest p)))
        (statement-verb w) (statements-verb n (part-trans w (after-part _ (uses-keeps (statement-uses nest p)))))

  block-verb : (d : ℕ) (p : List ℤ) → Part whole p → Verbed word (spot_block d left p)
  unfolding spot_block
  block-verb zero p w = tt
  block-verb (suc d) p w = cases (leb (number_at p 0) 255)
      (λ e. rw e (statements-verb (λ q. spot_block d left q) (block-verb d) d (number_at p 0) (part-trans w (part-drop 1 p))))
      (λ e. rw e tt)

-- ---- what the marks of a program tell

verb-is : (w n : ℕ) (s : Option Spot) → Verbed w s → has_verb n s ≡ (found s && eqb w n)
verb-is w n (Some spot) e = rw e
verb-is w n None e = refl

module _ (p : List ℤ) (s : Sort) (at : ℕ) where
  pub always-past : length p ≤ at → false ≡ is_always p s at
  unfolding is_always
  always-past h = rw (← statement-past p at h)

  pub always-marked : {marks : List ℕ} → MarksOf p marks → at < length p → is_always p s at ≡ (marked marks at && eqb (number_at p at) (always_of s))
  unfolding is_always
  always-marked m h =
      let z : length p - (length p - at) ≡ at = omega arith in
      let y : at + 0 ≡ at = omega arith in
      let w : number_at (last_of (length p - at) p) 0 ≡ number_at p at = rw z (number-drop p at 0 ∙ rw y) in
      rw (← statement-in p at h, m.at at h, ← w) (verb-is _ (always_of s) (spot_block 8 (length p - at) p) (block-verb p (length p - at) 8 p (part-refl p)))

-- the marks that a program's block leaves on words without marks
pub marks-of : {p : List ℤ} (n : ℕ) {marks : List ℕ} → length p ≤ 64 * n → Marked (length p) (λ left. spot_block 8 left p) (replicate n 0) marks → MarksOf p marks
marks-of {p} n h m = record { at = λ i a. m.at i a (rw length-replicate (omega arith)) ∙ rw (none-marked n i) }
