-- The entries of a proposal, and its judge. Assumes nothing.
use mathlib.Core.Path.{◌≡◌, refl, sym, ap, ◌∙◌}
use mathlib.Core.Bool.{Bool, true, false, not, cond, ◌&&◌, ◌||◌}
use mathlib.Core.List.{List, []}
use Rattle.std.specs.Prelude.{Option, Result, Ok, Err}
use Prim.Native.Nat.{ℕ, suc, ◌+◌, ◌-◌, ◌*◌, ◌≤◌, ◌<◌}
use native.Mathlib.Omega.{arith}
use native.Mathlib.Numerals.{add-one}
use borrow.Author.Tests.{eq-eqb, ne_eqb}
use lib.Dec.{eqb}
use lib.IntN.{ℤ, pos}
use lib.ListN.{length, drop, set, length-drop, length-set}
use Rattle.words.specs.Words.{word_at, number_of, number_at, eq_z}
use Rattle.words.specs.Answer.{Answer, got, stop, ◌>>=◌, ◌>>◌, want}
use Rattle.tables.specs.declared.Cell.{Cell}
use Rattle.tables.specs.Cells.{Cells, cell_at}
use Rattle.program.specs.declared.Refusal.{Refusal}
use Rattle.rules.specs.State.{Res, refused, listed}
use Rattle.rules.specs.Evaluation.{at}
use Rattle.rules.specs.Constraints.{Part, counted, all_hold, required_hold}
use Rattle.rules.specs.Proposals.{Entry, proposal, may_take, is_target, entries_fit, put_entry, applied, none?, settle}
use Rattle.rules.specs.Proposals.{Asked as Asks}
use Rattle.rules.proofs.ConstraintClauses.{listed-none, listed_more}
use Rattle.rules.proofs.ProposalClauses.{may-take-is}
use Rattle.rules.proofs.ProposalClauses.{entry-fits-is, entries-fit-none, entries-fit-more, put-entry-is, applied-none, applied-more, settle_is}
use Rattle.expressions.specs.declared.Weighed.{Weighed}
use Rattle.expressions.specs.Judging.{weighed_of}
use Rattle.proposals.specs.Told.{entry_at, entries_in, formed_of, tried, judged, Settles}
use Rattle.proposals.specs.Undoing.{undone, Swaps, Applies}
use Rattle.proposals.proofs.UndoLaws.{undone-none, laid-back}
use Rattle.proposals.proofs.FormLaws.{unlike, proposed}

-- ---- a payload, an entry, n entries

and_no : (b : Bool) → (b && false) ≡ false
and_no true = refl
and_no false = refl

and_yes : (b : Bool) → b ≡ (b && true)
and_yes true = refl
and_yes false = refl

module _ (c : Cell) (w : ℤ) {same : Bool} (e : same ≡ eq_z w c.payload) where
  pub take_same : same ≡ true → false ≡ may_take c w
  take_same h = rw (may-take-is c w, sym e ∙ h) (sym (and_no (cond (eqb (number_of c.kind) 2) (eq_z w (pos 0) || eq_z w (pos 1)) (eqb (number_of c.kind) 3))))

  module _ (other : same ≡ false) {k : ℕ} (kind : k ≡ number_of c.kind) where
    pub take-bit : k ≡ 2 → {off on : Bool} → off ≡ eq_z w (pos 0) → on ≡ eq_z w (pos 1) → (off || on) ≡ may_take c w
    take-bit h off on = rw (off, on, may-take-is c w, sym e ∙ other, eq-eqb (number_of c.kind) 2 (sym kind ∙ h)) (and_yes (eq_z w (pos 0) || eq_z w (pos 1)))

    pub take-integer : (k ≡ 2 → ⊥) → eqb k 3 ≡ may_take c w
    take-integer h = rw (kind, may-take-is c w, sym e ∙ other, ne_eqb (number_of c.kind) 2 (λ z. h (kind ∙ z))) (and_yes (eqb (number_of c.kind) 3))

-- the loop over n entries: i are walked, and the rest gives the whole's answer
pub record EntriesLeft (S : Cells) (target : Option ℕ) (pairs : List ℤ) (n i : ℕ) : Type 0 where
  pub inside : i ≤ n
  pub rest : entries_fit S target (listed (entry_at pairs) i (n - i)) ≡ entries_fit S target (entries_in pairs n)

pub entries-start : {S : Cells} {target : Option ℕ} {pairs : List ℤ} {n : ℕ} → EntriesLeft S target pairs n 0
entries-start {n = n} = let z : n - 0 ≡ n = omega arith in record { inside = omega arith; rest = rw z }

module _ {S : Cells} {target : Option ℕ} {pairs : List ℤ} {n i : ℕ} (inv : EntriesLeft S target pairs n i) where
  module _ (more : i < n) {l : ℕ} (e : l ≡ number_at pairs (2 * i)) where
    entries-turn : ((may_take (cell_at S l) (word_at pairs (2 * i + 1)) && not (is_target target l)) && entries_fit S target (listed (entry_at pairs) (i + 1) (n - (i + 1))))
        ≡ entries_fit S target (entries_in pairs n)
    unfolding entry_at
    entries-turn =
        let z : n - i ≡ suc (n - (i + 1)) = omega arith in
        let y : suc i ≡ i + 1 = sym (add-one i) in
        rw (
          z,
          listed_more (entry_at pairs) i (n - (i + 1)),
          entries-fit-more S target (entry_at pairs i) (listed (entry_at pairs) (suc i) (n - (i + 1))),
          entry-fits-is S target (entry_at pairs i),
          ← e,
          y,
        ) at inv.rest

    pub entries-aimed : is_target target l ≡ true → false ≡ entries_fit S target (entries_in pairs n)
    entries-aimed h = rw (h, and_no (may_take (cell_at S l) (word_at pairs (2 * i + 1)))) at entries-turn

    module _ (free : is_target target l ≡ false) {c : Cell} (is : c ≡ cell_at S l) {w : ℤ} (word : w ≡ word_at pairs (2 * i + 1)) where
      pub entries-unfit : false ≡ may_take c w → false ≡ entries_fit S target (entries_in pairs n)
      entries-unfit h = rw (← is, ← word, ← h) at entries-turn

      pub entries-go-on : true ≡ may_take c w → EntriesLeft S target pairs n (i + 1)
      entries-go-on h = record { inside = omega arith; rest = rw (← is, ← word, ← h, free) at entries-turn }

  pub entries-end : n ≤ i → true ≡ entries_fit S target (entries_in pairs n)
  entries-end h = let z : n - i ≡ 0 = omega arith in rw (z, listed-none (entry_at pairs) i, entries-fit-none S target) at inv.rest

-- ---- the loop that applies n pairs: i are applied and can be undone, and the rest gives the whole

pub record Applying (S Z : Cells) (pairs before saved : List ℤ) (n i : ℕ) : Type 0 where
  pub inside : i ≤ n
  pub room : length saved ≡ length before
  pub rest : applied Z (listed (entry_at pairs) i (n - i)) ≡ applied S (entries_in pairs n)
  pub back : undone pairs saved i Z ≡ S

pub applying-starts : {S : Cells} {pairs saved : List ℤ} {n : ℕ} → Applying S S pairs saved saved n 0
applying-starts {S = S} {pairs = pairs} {saved = saved} {n = n} =
    let z : n - 0 ≡ n = omega arith in
    record { inside = omega arith; room = refl; rest = rw z; back = undone-none pairs saved S }

module _ {S Z : Cells} {pairs before saved : List ℤ} {n i : ℕ} (inv : Applying S Z pairs before saved n i) where
  pub applying-goes-on : {Y : Cells} {l : ℕ} {new old : ℤ} {after : List ℤ}
      → i < n → n ≤ length before → l ≡ number_at pairs (2 * i) → new ≡ word_at pairs (2 * i + 1) → Swaps Z Y l new old → after ≡ set saved i old
      → Applying S Y pairs before after n (i + 1)
  unfolding entry_at
  applying-goes-on {Y = Y} {l = l} {new = new} {old = old} more room e w y s =
      let z : n - i ≡ suc (n - (i + 1)) = omega arith in
      let q : suc i ≡ i + 1 = sym (add-one i) in
      let k : put_entry Z (entry_at pairs i) ≡ Y = put-entry-is Z (entry_at pairs i) ∙ (rw (← e, ← w) (sym y.puts)) in
      record {
        inside = omega arith;
        room = rw s (length-set saved i old ∙ inv.room);
        rest = rw (z, listed_more (entry_at pairs) i (n - (i + 1)), applied-more Z (entry_at pairs i) (listed (entry_at pairs) (suc i) (n - (i + 1))), k, q) at inv.rest;
        back = laid-back pairs saved y s e (omega (arith, inv.room)) ∙ inv.back;
      }

  pub applying-ends : n ≤ i → Applies S Z pairs saved n
  applying-ends h =
      let z : n - i ≡ 0 = omega arith in
      let q : i ≡ n = omega (arith, inv.inside) in
      record { is = sym (applied-none Z) ∙ (rw (z, listed-none (entry_at pairs) i) at inv.rest); back = rw q at inv.back }

-- ---- the judge

-- what parts come to, where they read
weighed-is : {parts : Weighed} {m : Res (List Part)} → weighed_of m ≡ Ok parts → {X : Type 0}
    → ((xs : List Part) → m ≡ got xs → all_hold xs ≡ parts.all → required_hold xs ≡ parts.required → X) → X
weighed-is {parts = parts} {m = got xs} e k =
    let i : parts ≡ record { all = all_hold xs; required = required_hold xs } = cc in
    k xs refl (sym (ap (λ (y : Weighed). y.all) i)) (sym (ap (λ (y : Weighed). y.required) i))
weighed-is {m = stop f} e k = unlike cc

module _ (program kept : List ℤ) (own : Option (List ℤ)) (word : List ℤ) (S : Cells) (ws : List ℤ) (n : ℕ) where
  abbrev Tries : Cells → Result ℕ Refusal → Type 0
  Tries Z r = Settles S Z r (tried program kept own word S (entries_in (drop 1 ws) n) (drop (1 + 2 * n) ws))

  module _ {Z : Cells} {saved : List ℤ} (applies : Applies S Z (drop 1 ws) saved n) {g : Result Weighed Refusal} (e : g ≡ weighed_of (counted program kept own Z)) where
    -- what was applied is undone
    pub try-stops : {Y : Cells} {k : Refusal} → g ≡ Err k → Y ≡ undone (drop 1 ws) saved n Z → Tries Y (Err k)
    try-stops {Y = Y} {k = k} h y = rw (← applies.is) (by (counted program kept own Z) _ (sym e ∙ h))
      where
        by : (m : Res (List Part)) (f : List Part → Res (Cells × List ℤ)) → weighed_of m ≡ Err k → Settles S Y (Err k) (m >>= f)
        by (got x) f e = unlike cc
        by (stop x) f e = record { is = cc; leaves = y ∙ applies.back }

    module _ {parts : Weighed} (h : g ≡ Ok parts) where
      pub try-unmet : {Y : Cells} → parts.required ≡ false → Y ≡ undone (drop 1 ws) saved n Z → Tries Y (Err (refused 19 word))
      try-unmet f y = weighed-is (sym e ∙ h) λ xs i a r.
          rw (← applies.is, i, r, f) (record { is = refl; leaves = y ∙ applies.back })

      pub try-takes : parts.required ≡ true → Tries Z (Ok (length ws - (1 + 2 * n)))
      try-takes f = weighed-is (sym e ∙ h) λ xs i a r.
          rw (← applies.is, i, r, f) (record { is = ap Ok (sym (length-drop (1 + 2 * n) ws)); leaves = refl })

module _ (program kept : List ℤ) (asked : Asks) (word : List ℤ) (S : Cells) (ws : List ℤ) (n : ℕ) where
  abbrev Judges : Bool → Cells → Result ℕ Refusal → Type 0
  Judges all Z r = Settles S Z r (judged program kept asked word S all (entries_in (drop 1 ws) n) (drop (1 + 2 * n) ws))

  -- a proposal of no pairs changes nothing
  module _ {parts : Weighed} (before : weighed_of (counted program kept asked.own S) ≡ Ok parts) (nothing : n ≡ 0) where
    nothing-applies : Applies S S (drop 1 ws) [] n
    nothing-applies = rw nothing (record { is = sym (rw (listed-none (entry_at (drop 1 ws)) 0) (applied-none S)); back = undone-none (drop 1 ws) [] S })

    nothing-judged : judged program kept asked word S parts.all (entries_in (drop 1 ws) n) (drop (1 + 2 * n) ws) ≡ tried program kept asked.own word S (entries_in (drop 1 ws) n) (drop (1 + 2 * n) ws)
    nothing-judged = rw (nothing, listed-none (entry_at (drop 1 ws)) 0, entries-fit-none S asked.target, or-last (not parts.all))
      where
        or-last : (b : Bool) → (b || true) ≡ true
        or-last true = refl
        or-last false = refl

    pub judge-unmet : parts.required ≡ false → Judges parts.all S (Err (refused 19 word))
    judge-unmet f = rw nothing-judged (try-unmet program kept asked.own word S ws n nothing-applies (sym before) refl f (sym nothing-applies.back))

    pub judge-takes : parts.required ≡ true → Judges parts.all S (Ok (length ws - 1))
    judge-takes f =
        let z : length ws - 1 ≡ length ws - (1 + 2 * n) = omega arith in
        rw (nothing-judged, z) (try-takes program kept asked.own word S ws n nothing-applies (sym before) refl f)

  module _ (all : Bool) {fit : Bool} (e : fit ≡ entries_fit S asked.target (entries_in (drop 1 ws) n)) where
    pub judge-unfit : fit ≡ false → Judges all S (Err (refused 17 word))
    judge-unfit f = rw (sym e ∙ f) (record { is = refl; leaves = refl })

    pub judge-needless : (n ≡ 0 → ⊥) → fit ≡ true → all ≡ true → Judges all S (Err (refused 18 word))
    judge-needless more f a =
        let z : n ≡ suc (n - 1) = omega (arith, more) in
        let y : none? (entries_in (drop 1 ws) n) ≡ false = rw (z, listed_more (entry_at (drop 1 ws)) 0 (n - 1)) in
        rw (sym e ∙ f, a, y) (record { is = refl; leaves = refl })

    pub judge-tries : {Z : Cells} {r : Result ℕ Refusal} → fit ≡ true → all ≡ false
        → Settles S Z r (tried program kept asked.own word S (entries_in (drop 1 ws) n) (drop (1 + 2 * n) ws)) → Judges all Z r
    judge-tries f a s = rw (sym e ∙ f, a) s

module _ (program kept : List ℤ) (asked : Asks) (word : List ℤ) (S : Cells) (ws : List ℤ) {g : Result Weighed Refusal} (e : g ≡ weighed_of (counted program kept asked.own S)) where
  pub settle-stops : {k : Refusal} → g ≡ Err k → Settles S S (Err k) (settle program kept asked word S ws)
  settle-stops {k = k} h = rw (settle_is program kept asked word S ws) (by (counted program kept asked.own S) _ (sym e ∙ h))
    where
      by : (m : Res (List Part)) (f : List Part → Res (Cells × List ℤ)) → weighed_of m ≡ Err k → Settles S S (Err k) (m >>= f)
      by (got x) f e = unlike cc
      by (stop y) f e = record { is = cc; leaves = refl }

  module _ {parts : Weighed} (reads : g ≡ Ok parts) where
    -- the rest of the judge, where the parts that count read
    settle-rest : settle program kept asked word S ws
        ≡ (want (refused 14 word) asked.room >> (at word (proposal ws) >>= λ x. judged program kept asked word S parts.all x.0 x.1))
    settle-rest = settle_is program kept asked word S ws ∙ weighed-is (sym e ∙ reads) λ xs i a r. rw (i, a)

    pub settle-full : asked.room ≡ false → Settles S S (Err (refused 14 word)) (settle program kept asked word S ws)
    settle-full f = rw (settle-rest, f) (record { is = refl; leaves = refl })

    module _ (room : asked.room ≡ true) where
      pub settle-unformed : {k : ℕ} → Err k ≡ formed_of (proposal ws) → Settles S S (Err (refused k word)) (settle program kept asked word S ws)
      settle-unformed {k = k} f = rw (settle-rest, room) (by (proposal ws) _ f)
        where
          by : (m : Answer ℕ (List Entry × List ℤ)) (h : List Entry × List ℤ → Res (Cells × List ℤ)) → Err k ≡ formed_of m → Settles S S (Err (refused k word)) (at word m >>= h)
          by (got x) h f = unlike cc
          by (stop j) h f = let q : k ≡ j = cc in rw q (record { is = refl; leaves = refl })

      pub settle-judged : {n : ℕ} {Z : Cells} {r : Result ℕ Refusal} → Ok n ≡ formed_of (proposal ws)
          → Settles S Z r (judged program kept asked word S parts.all (entries_in (drop 1 ws) n) (drop (1 + 2 * n) ws)) → Settles S Z r (settle program kept asked word S ws)
      settle-judged f s = rw (settle-rest, room, (proposed f).is) s
