-- A default name is a name of the notation. Assumes nothing.
use mathlib.Core.Path.{◌≡◌, refl, sym, subst, ◌∙◌}
use mathlib.Core.Bool.{Bool, true, false, true≢false}
use mathlib.Core.List.{List, [], ◌∷◌, ◌++◌, append-nil}
use Prim.Native.Nat.{ℕ, suc, ◌+◌, ◌-◌, ◌≤◌, ◌<◌}
use native.Mathlib.Omega.{arith}
use borrow.Author.Tests.{eq-eqb}
use lib.Dec.{ltb}
use lib.ListN.{length}
use Rattle.tables.proofs.SearchLaws.{cases}
use Rattle.tokens.specs.Bytes.{is_lower, is_digit, is_named}
use Rattle.tokens.specs.Codes.{name_code}
use Rattle.tokens.specs.Spelling.{row, keywords}
use Rattle.tokens.specs.Tokens.{token, token_from}
use Rattle.tokens.specs.Rules.{All, Over, In, Tail, TokenIs, TokenFrom}
use Rattle.tokens.proofs.TextRules.{follows-complete}
use Rattle.tokens.proofs.ApartLaws.{between_in, high-no-white, digit-named, keyword-second}
use Rattle.lister.specs.Numerals.{digits}
use Rattle.lister.proofs.NumeralLaws.{numeral-natural}
use Rattle.lister.proofs.SizeLaws.{digits-twenty}
use Rattle.printing.specs.Naming.{first_label, default_name}
use Rattle.printing.specs.Faults.{is_name}
use Rattle.printing.proofs.SignLaws.{Counts, numeral-counts}

all-as : {p q : ℕ → Bool} {s : List ℕ} → ((b : ℕ) → p b ≡ true → q b ≡ true) → All p s → All q s
all-as f All.none = All.none
all-as f (All.more {b = b} e a) = All.more (f b e) (all-as f a)

-- a letter and digits
lettered : (b : ℕ) (s : List ℕ) → is_lower b ≡ true → 32 < b → Counts s → length s ≤ 20 → is_name (b ∷ s) ≡ true
unfolding is_name
lettered b s l h c m =
    let n : All is_named s = subst (All is_named) (sym c.is) (All.more (digit-named c.first c.digit) (all-as digit-named c.all)) in
    let bar : (k : ℕ) → In (row (b ∷ s) k) keywords → ⊥ =
    λ k i. true≢false (sym c.digit ∙ subst (λ (x : List ℕ). In (row (b ∷ x) k) keywords → is_digit c.first ≡ false) (sym c.is) (λ j. keyword-second j) i) in
    let t : TokenIs false (b ∷ s ++ []) name_code (suc (length s)) = TokenIs.name l (Tail.plain n Over.ended Over.ended) bar in
    let u : TokenIs false (b ∷ s) name_code (suc (length s)) = subst (λ (x : List ℕ). TokenIs false (b ∷ x) name_code (suc (length s))) (append-nil s) t in
    let e : token_from false (b ∷ s) 0 ≡ token name_code 0 (0 + suc (length s)) =
    follows-complete false (b ∷ s) 0 (omega arith) (token name_code 0 (0 + suc (length s))) (TokenFrom.within refl All.none (Over.other (high-no-white b h)) u (omega arith)) in
    rw (e, eq-eqb (0 + suc (length s)) (suc (length s)) (omega arith))

natural-counts : (n : ℕ) → n < 2147483648 → Counts (digits n)
natural-counts n h = subst Counts (numeral-natural n) (numeral-counts n h)

pub default-good : (i : ℕ) → i < 96 → is_name (default_name i) ≡ true
unfolding default_name
default-good i h =
    cases (ltb i first_label)
    (λ e. rw e (lettered 118 (digits i) (between_in 97 122 118 (omega arith) (omega arith)) (omega arith) (natural-counts i (omega arith)) (digits-twenty i)))
    (λ e. rw e (lettered 102 (digits (i - first_label)) (between_in 97 122 102 (omega arith) (omega arith)) (omega arith) (natural-counts (i - first_label) (omega arith)) (digits-twenty (i - first_label))))
