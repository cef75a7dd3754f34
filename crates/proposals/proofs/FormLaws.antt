-- The form of a proposal, and its entries as the words tell them. Assumes nothing.
use mathlib.Core.Path.{◌≡◌, refl, sym, ap, ◌∙◌}
use mathlib.Core.Bool.{Bool, true, false, ◌&&◌}
use mathlib.Core.List.{List, [], ◌∷◌}
use Prim.Native.Nat.{ℕ, zero, suc, ◌+◌, ◌-◌, ◌*◌, ◌≤◌, ◌<◌}
use native.Mathlib.Omega.{arith}
use native.Mathlib.Numerals.{add-one}
use borrow.Author.Tests.{lt-ltb, le-ltb, le-leb, lt-leb}
use lib.Dec.{ltb, leb}
use lib.IntN.{ℤ, pos}
use lib.ListN.{length, drop}
use lib.Seq.{drop-drop}
use Rattle.std.specs.Prelude.{Result, Ok, Err}
use Rattle.words.specs.Words.{number_of, number_at}
use Rattle.words.specs.Answer.{Answer, got, stop, ◌>>=◌, ◌>>◌, want}
use Rattle.words.proofs.Laws.{number-first, number-drop}
use Rattle.words.proofs.AnswerLaws.{either}
use Rattle.tables.specs.Sizes.{locations}
use Rattle.rules.specs.State.{listed}
use Rattle.rules.specs.Proposals.{Entry, entries, proposal}
use Rattle.rules.specs.Rules.Proposals.{EntriesAre, no_more, next, Formed, formed as by_count}
use Rattle.rules.proofs.ConstraintClauses.{listed-none, listed_more}
use Rattle.rules.proofs.ProposalClauses.{entries_none, entries-no-words, entries-one-word, entries-more, proposal-none, proposal-more}
use Rattle.rules.proofs.EntryLaws.{entries-few, formed-iff, entries-stop}
use Rattle.proposals.specs.Told.{answers, entry_at, entries_in, formed_of}

pub unlike {ℓ} : {X : Type ℓ} → ◌≡◌ {A = ℕ} 0 1 → X
unlike e = absurd (let y : ⊥ = omega arith in y)

-- ---- pairs that rise

answers-then : {A B : Type 0} (b : Bool) (m : Answer ℕ A) (f : A → B) → answers (want 16 b >> (m >>= λ x. got (f x))) ≡ (b && answers m)
answers-then true (got x) f = refl
answers-then true (stop n) f = refl
answers-then false m f = refl

few_words : (m low : ℕ) (q : List ℤ) → length q < 2 → answers (entries (suc m) low q) ≡ false
few_words m low [] h = rw (entries-no-words m low)
few_words m low (l ∷ []) h = rw (entries-one-word m low l)
few_words m low (l ∷ v ∷ q) h = let z : ⊥ = omega arith in absurd z

one-pair : (m low : ℕ) (q : List ℤ) → 2 ≤ length q
    → answers (entries (suc m) low q) ≡ ((leb low (number_at q 0) && ltb (number_at q 0) locations) && answers (entries m (number_at q 0 + 1) (drop 2 q)))
one-pair m low [] h = let z : ⊥ = omega arith in absurd z
one-pair m low (l ∷ []) h = let z : ⊥ = omega arith in absurd z
one-pair m low (l ∷ v ∷ q) h =
    rw (entries-more m low l v q, number-first l (v ∷ q), add-one (number_of l))
    (answers-then (leb low (number_of l) && ltb (number_of l) locations) (entries m (suc (number_of l)) q) (λ x. (record { location = number_of l; payload = v } ∷ x.0, x.1)))

-- the loop over n pairs: i are walked, the next location is not below `low`, and the rest gives the whole's answer
pub record PairsLeft (pairs : List ℤ) (n i low : ℕ) : Type 0 where
  pub inside : i ≤ n
  pub rest : answers (entries (n - i) low (drop (2 * i) pairs)) ≡ answers (entries n 0 pairs)

pub pairs_start : {pairs : List ℤ} {n : ℕ} → PairsLeft pairs n 0 0
pairs_start {n = n} = let z : n - 0 ≡ n = omega arith in record { inside = omega arith; rest = rw z }

module _ {pairs : List ℤ} {n i low : ℕ} (inv : PairsLeft pairs n i low) where
  module _ (more : i < n) {q : List ℤ} (part : q ≡ drop (2 * i) pairs) where
    pairs-turn : answers (entries (suc (n - (i + 1))) low q) ≡ answers (entries n 0 pairs)
    pairs-turn = let z : n - i ≡ suc (n - (i + 1)) = omega arith in rw (z, ← part) at inv.rest

    pub pairs-cut : length q < 2 → false ≡ answers (entries n 0 pairs)
    pairs-cut h = sym (few_words (n - (i + 1)) low q h) ∙ pairs-turn

    module _ (two : 2 ≤ length q) {l : ℕ} (e : l ≡ number_at q 0) where
      pairs-pair : ((leb low l && ltb l locations) && answers (entries (n - (i + 1)) (l + 1) (drop 2 q))) ≡ answers (entries n 0 pairs)
      pairs-pair = (rw e (sym (one-pair (n - (i + 1)) low q two))) ∙ pairs-turn

      pub pairs-low : l < low → false ≡ answers (entries n 0 pairs)
      pairs-low h = rw (lt-leb low l h) at pairs-pair

      module _ (rises : low ≤ l) where
        pub pairs-high : locations ≤ l → false ≡ answers (entries n 0 pairs)
        pairs-high h = rw (le-leb low l rises, le-ltb l locations h) at pairs-pair

        pub pairs-go-on : l < locations → PairsLeft pairs n (i + 1) (l + 1)
        pairs-go-on h =
            let z : 2 * (i + 1) ≡ 2 * i + 2 = omega arith in
            let d : drop 2 q ≡ drop (2 * i + 2) pairs = ap (drop 2) part ∙ drop-drop 2 (2 * i) pairs in
            record { inside = omega arith; rest = rw (z, ← d) (rw (le-leb low l rises, lt-ltb l locations h) at pairs-pair) }

  pub pairs_end : n ≤ i → true ≡ answers (entries n 0 pairs)
  pairs_end h = let z : n - i ≡ 0 = omega arith in rw (z, entries_none low (drop (2 * i) pairs)) at inv.rest

-- ---- the form of a proposal

entries-count : {low n : ℕ} {ws rest : List ℤ} {es : List Entry} → EntriesAre low n ws es rest → n ≡ length es
entries-count no_more = refl
entries-count (next a b others) = ap suc (entries-count others)

formed-count : {w : ℤ} {ws rest : List ℤ} {es : List Entry} → Formed (w ∷ ws) es rest → number_of w ≡ length es
formed-count (by_count is) = entries-count is

pub form-none : (ws : List ℤ) → length ws ≡ 0 → Err 6 ≡ formed_of (proposal ws)
form-none [] h = rw proposal-none
form-none (n ∷ ws) h = let z : ⊥ = omega arith in absurd z

module _ (n : ℤ) (ws : List ℤ) (few : number_of n ≤ locations) where
  proposal-entries : proposal (n ∷ ws) ≡ entries (number_of n) 0 ws
  proposal-entries = rw (proposal-more n ws, le-leb (number_of n) locations few)

  broken : false ≡ answers (entries (number_of n) 0 ws) → Err 16 ≡ formed_of (proposal (n ∷ ws))
  broken h = either (entries (number_of n) 0 ws)
      (λ x e. unlike (let y : false ≡ true = rw e at h in cc))
      (λ k e. rw (proposal-entries, e, entries-stop (number_of n) 0 ws k e))

  formed : true ≡ answers (entries (number_of n) 0 ws) → Ok (number_of n) ≡ formed_of (proposal (n ∷ ws))
  formed h = either (entries (number_of n) 0 ws)
      (λ x e. rw (proposal-entries, e) (ap Ok (formed-count ((formed-iff (n ∷ ws) x.0 x.1).0 (proposal-entries ∙ e)))))
      (λ k e. unlike (let y : true ≡ false = rw e at h in cc))

module _ (ws : List ℤ) (begun : length ws ≡ 0 → ⊥) {n : ℕ} (is : n ≡ number_at ws 0) where
  -- the first word and the others
  with_first {ℓ} : {X : Type ℓ} → ((w : ℤ) (us : List ℤ) → ws ≡ w ∷ us → n ≡ number_of w → X) → X
  with_first {X = X} f = go ws refl
    where
      go : (us : List ℤ) → ws ≡ us → X
      go [] e = absurd (begun (ap length e))
      go (w ∷ us) e = f w us e (is ∙ (rw e (number-first w us)))

  pub form-many : locations < n → Err 16 ≡ formed_of (proposal ws)
  form-many h = with_first λ w us e k. rw (e, proposal-more w us, lt-leb (number_of w) locations (rw k at h))

  module _ (few : n ≤ locations) {q : List ℤ} (part : q ≡ drop 1 ws) {b : Bool} (e : b ≡ answers (entries n 0 q)) where
    pub form-broken : b ≡ false → Err 16 ≡ formed_of (proposal ws)
    form-broken f = with_first λ w us i k. rw i (broken w us (rw k at few) (rw (part, i, k) at (sym f ∙ e)))

    pub form-pairs : b ≡ true → Ok n ≡ formed_of (proposal ws)
    form-pairs f = with_first λ w us i k. rw (i, k) (formed w us (rw k at few) (rw (part, i, k) at (sym f ∙ e)))

-- ---- the entries, told by the words

listed-shift : {A : Type 0} (f g : ℕ → A) → ((i : ℕ) → f (suc i) ≡ g i) → (i n : ℕ) → listed f (suc i) n ≡ listed g i n
listed-shift f g h i zero = rw (listed-none f (suc i), listed-none g i)
listed-shift f g h i (suc n) = rw (listed_more f (suc i) n, listed_more g i n, h i, listed-shift f g h (suc i) n)

entry_next : (a b : ℤ) (ws : List ℤ) (i : ℕ) → entry_at (a ∷ b ∷ ws) (suc i) ≡ entry_at ws i
unfolding entry_at
entry_next a b ws i =
    let x : 2 * suc i ≡ 2 + 2 * i = omega arith in
    let y : 2 + 2 * i + 1 ≡ suc (suc (2 * i + 1)) = omega arith in
    rw (x, y, ← number-drop (a ∷ b ∷ ws) 2 (2 * i))

entry_first : (l : ℕ) (v : ℤ) (ws : List ℤ) → entry_at (pos l ∷ v ∷ ws) 0 ≡ record { location = l; payload = v }
unfolding entry_at
entry_first l v ws = rw (number-first (pos l) (v ∷ ws))

module _ {rest : List ℤ} where
  entries-words : {low n : ℕ} {ws : List ℤ} {es : List Entry} → EntriesAre low n ws es rest → entries_in ws n ≡ es
  entries-words no_more = listed-none (entry_at rest) 0
  entries-words (next {n = n} {l = l} {payload = v} {ws = ws} a b others) =
      listed_more (entry_at (pos l ∷ v ∷ ws)) 0 n
      ∙ rw (entry_first l v ws, listed-shift (entry_at (pos l ∷ v ∷ ws)) (entry_at ws) (entry_next (pos l) v ws) 0 n, entries-words others)

  drop-words : {low n : ℕ} {ws : List ℤ} {es : List Entry} → EntriesAre low n ws es rest → drop (2 * n) ws ≡ rest
  drop-words no_more = refl
  drop-words (next {n = n} a b others) = let z : 2 * suc n ≡ suc (suc (2 * n)) = omega arith in rw z (drop-words others)

-- a proposal of n pairs: its entries and the unread words, as the code has them
pub record Proposed (ws : List ℤ) (n : ℕ) : Type 0 where
  pub few : n ≤ locations
  pub is : proposal ws ≡ got (entries_in (drop 1 ws) n, drop (1 + 2 * n) ws)

pub proposed : {ws : List ℤ} {n : ℕ} → Ok n ≡ formed_of (proposal ws) → Proposed ws n
proposed {ws = ws} {n = n} h = either (proposal ws) there (λ k e. unlike (let y : ◌≡◌ {A = Result ℕ ℕ} (Ok n) (Err k) = rw e at h in cc))
  where
    as-told : {ws rest : List ℤ} {es : List Entry} → Formed ws es rest → n ≡ length es → Proposed ws n
    as-told {rest = rest} {es = es} (by_count {n = m} {ws = ws} is) e =
        let l : n ≡ m = e ∙ sym (entries-count is) in
        let z : 1 + 2 * m ≡ suc (2 * m) = omega arith in
        record {
          few = omega (arith, entries-few is (omega arith));
          is = (formed-iff (pos m ∷ ws) es rest).1 (by_count is) ∙ rw (l, z, entries-words is, drop-words is);
        }

    there : (x : List Entry × List ℤ) → proposal ws ≡ got x → Proposed ws n
    there x e = as-told ((formed-iff ws x.0 x.1).0 e) (let y : ◌≡◌ {A = Result ℕ ℕ} (Ok n) (Ok (length x.0)) = rw e at h in cc)
