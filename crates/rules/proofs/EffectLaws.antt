-- A proposal that is accepted does to the tables what `Effect` says, and leaves their structure. Assumes nothing.
use mathlib.Core.Path.{◌≡◌, refl, sym, ◌∙◌}
use mathlib.Core.Logic.{◌⊎◌, inl, inr}
use mathlib.Core.Bool.{true}
use mathlib.Core.List.{List}
use Rattle.std.specs.Prelude.{Some}
use Prim.Native.Nat.{ℕ, ◌≤◌, ◌<◌}
use native.Mathlib.Omega.{arith}
use native.Mathlib.Decide.{ℕ_discrete}
use lib.IntN.{ℤ}
use Rattle.words.specs.Words.{word_at, number_of}
use Rattle.tables.specs.declared.Cell.{Cell}
use Rattle.tables.specs.Values.{cell}
use Rattle.tables.specs.Cells.{Cells, cell_at, put_cell, Sized}
use Rattle.fit.specs.Fit.{cell_fits, in_field}
use Rattle.fit.proofs.CellFits.{a-truth, an-integer as integer-shape, shape-fits}
use Rattle.tables.proofs.CellLaws.{read_same, read-other, put-lengths, put-sized, put-records, put-fields, put-label}
use Rattle.fit.proofs.FitChanges.{fit-put}
use Rattle.rules.specs.Proposals.{Entry, Asked}
use Rattle.rules.specs.Rules.Proposals.{Each, more, EntriesAre, no_more, next, Formed, formed, Puts, no_entry, entry, Allowed, Settles}
use Rattle.rules.specs.Effects.{OfKind, a_boolean, an-integer, Effect}
use Rattle.rules.specs.Structure.{Same}
use Rattle.rules.proofs.Structure.{AlikeCell, alike_refl}

-- ---- one entry after the other

of-kind-fits : (count : ℤ) {c : Cell} {n : ℤ} → OfKind c n → cell_fits count (cell c.kind n) ≡ true
of-kind-fits count (a_boolean b) = shape-fits count (a-truth b)
of-kind-fits count (an-integer {n = n}) = shape-fits count (integer-shape n)

of-kind-used : {c : Cell} {n : ℤ} → OfKind c n → number_of c.kind ≡ 0 → ⊥
of-kind-used (a_boolean b) e = omega arith
of-kind-used an-integer e = omega arith

-- Z is S with some entries put
pub record Near (asked : Asked) (S Z : Cells) : Type 0 where
  pub effect : Effect asked S Z
  pub sized : Sized Z

near-refl : (asked : Asked) (S : Cells) → Sized S → Near asked S S
near-refl asked S z = record {
  effect = record {
    cells = λ l. inl refl;
    target = λ l e. refl;
    records = refl;
    fields = λ r. refl;
    labels = λ r f. refl;
    environment = refl;
    heap = refl;
    fit = λ f. f;
  };
  sized = z;
}

module _ (asked : Asked) (S Z : Cells) (l : ℕ) (n : ℤ) (near : Near asked S Z) (small : l < 576)
    (same : cell_at Z l ≡ cell_at S l) (kind : OfKind (cell_at S l) n) (free : asked.target ≡ Some l → ⊥) where
  abbrev c : Cell
  c = cell (cell_at Z l).kind n

  here : OfKind (cell_at Z l) n
  here = rw same kind

  near-put : Near asked S (put_cell Z l c)
  near-put = record {
    effect = record {
      cells = λ k. moves k (ℕ_discrete k l);
      target = λ k e. spares k e (ℕ_discrete k l);
      records = put-records Z l c ∙ near.effect.records;
      fields = λ r. put-fields Z l c r ∙ near.effect.fields r;
      labels = λ r f. put-label Z l c r f ∙ near.effect.labels r f;
      environment = (put-lengths Z l c).0 ∙ near.effect.environment;
      heap = (put-lengths Z l c).1 ∙ near.effect.heap;
      fit = λ f. fit-put Z l c (near.effect.fit f) (of-kind-fits (word_at Z.heap 0) here) (in_field (of-kind-used here) (of-kind-used here));
    };
    sized = put-sized Z l c near.sized;
  }
    where
      moves : (k : ℕ) → Dec (k ≡ l) → (cell_at (put_cell Z l c) k ≡ cell_at S k) ⊎ ((m : ℤ) × (OfKind (cell_at S k) m × (cell_at (put_cell Z l c) k ≡ cell (cell_at S k).kind m)))
      moves k (yes e) = rw e (inr (n, (kind, read_same Z l c near.sized small ∙ rw same)))
      moves k (no m) = rw (read-other Z l k c m) (near.effect.cells k)

      spares : (k : ℕ) → asked.target ≡ Some k → Dec (k ≡ l) → cell_at (put_cell Z l c) k ≡ cell_at S k
      spares k e (yes i) = absurd (free (rw i at e))
      spares k e (no m) = read-other Z l k c m ∙ near.effect.target k e

module _ (asked : Asked) (S : Cells) where
  -- the entries are judged in S and put one by one: no entry touches the cell of a later one, since their locations rise
  puts-near : {Z Y : Cells} {low n : ℕ} {ws rest : List ℤ} {es : List Entry} → EntriesAre low n ws es rest → Each (Allowed S asked.target) es → Puts Z es Y
      → Near asked S Z → ((l : ℕ) → low ≤ l → cell_at Z l ≡ cell_at S l) → Near asked S Y
  puts-near no_more allowed no_entry near same = near
  puts-near {Z} (next {l = l} {payload = v} a b others) (more allowed still) (entry puts) near same =
      puts-near {Z = put_cell Z l (cell (cell_at Z l).kind v)} others still puts (near-put asked S Z l v near b (same l a) allowed.kind allowed.other)
      (λ k m. read-other Z l k (cell (cell_at Z l).kind v) (λ q. omega arith) ∙ same k (omega arith))

  pub formed-near : {Z : Cells} {ws rest : List ℤ} {es : List Entry} → Sized S → Formed ws es rest → Each (Allowed S asked.target) es → Puts S es Z → Near asked S Z
  formed-near z (formed is) allowed puts = puts-near is allowed puts (near-refl asked S z) (λ l m. refl)

pub settles-near : {program kept ws rest : List ℤ} {asked : Asked} {S Z : Cells} → Sized S → Settles program kept asked S ws Z rest → Near asked S Z
settles-near {asked = asked} {S = S} z s = formed-near asked S z s.formed s.allowed s.puts

-- ---- what a proposal leaves has the structure of what was there

of-kind-changes : {c : Cell} {n : ℤ} → OfKind c n → (number_of c.kind ≡ 2 → ⊥) → (number_of c.kind ≡ 3 → ⊥) → ⊥
of-kind-changes (a_boolean b) m n = m refl
of-kind-changes an-integer m n = n refl

pub effect-same : {asked : Asked} {S Z : Cells} → Effect asked S Z → Same S Z
effect-same {S = S} {Z = Z} e = record {
  kinds = λ l. (alike l).kind;
  payloads = λ l. (alike l).payload;
  labels = λ r f b. sym (e.labels r f);
  fields = λ r. sym (e.fields r);
  records = sym e.records;
}
  where
    moved : {c d : Cell} → (d ≡ c) ⊎ ((n : ℤ) × (OfKind c n × (d ≡ cell c.kind n))) → AlikeCell c d
    moved (inl q) = rw q (alike_refl _)
    moved (inr (n, (k, q))) = rw q (record { kind = refl; payload = λ m n. absurd (of-kind-changes k m n) })

    alike : (l : ℕ) → AlikeCell (cell_at S l) (cell_at Z l)
    alike l = moved (e.cells l)
