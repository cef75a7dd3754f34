-- What a step that was made says of its two ends, and steps behind a refusal. Assumes nothing.
use mathlib.Core.Path.{◌≡◌, refl, sym, ◌∙◌}
use mathlib.Core.Bool.{Bool, false}
use mathlib.Core.List.{List, []}
use Prim.Native.Nat.{ℕ, ◌+◌, ◌≤◌}
use native.Mathlib.Omega.{arith}
use borrow.Author.Tests.{eq-eqb, ne_eqb}
use lib.IntN.{ℤ}
use lib.ListN.{length, set, length-set}
use lib.Seq.{take-set-le}
use Rattle.words.specs.Answer.{Answer, got, stop}
use Rattle.words.proofs.AnswerLaws.{stop≢got, got-inj}
use Rattle.text.specs.Reading.{Fault, fault, Reader, Form, form}
use Rattle.text.specs.declared.Carried.{Carried}
use Rattle.text.specs.Told.{reader_of}
use Rattle.text.specs.declared.Lent.{Lent}
use Rattle.text.specs.Pieces.{lent, form_of, piece_of, Fit, Does, Piece}
use Rattle.text.proofs.RowsLaws.{going, fit-room, fit-stops, fit-names, fit-here}
use Rattle.text.proofs.DoesLaws.{Program, does-stopped, does-got, form-none}

-- what fits may be used to show a step
pub does-given : {deep : Bool} {m k m1 k1 from : ℕ} {a b : Lent} {r s : Carried} {p : Program}
    → (Fit m k from a r → Does deep m k m1 k1 from a r p b s) → Does deep m k m1 k1 from a r p b s
does-given h =
    record {
      reads = λ fit. (h fit).reads fit;
      fit = λ fit. (h fit).fit fit;
      words_before = λ fit. (h fit).words_before fit;
      origins_before = λ fit. (h fit).origins_before fit;
    }

module _ {deep : Bool} {m k m1 k1 from : ℕ} {a b : Lent} {r s : Carried} {p : Program} (d : Does deep m k m1 k1 from a r p b s) (fit : Fit m k from a r) where
  -- what goes on after a step went on before it
  pub does-went : s.number ≡ 0 → r.number ≡ 0
  unfolding piece_of
  does-went z = going r (λ y. y) (λ n. stop≢got (sym (rw (ne_eqb r.number 0 n, eq-eqb s.number 0 z) at (d.reads fit))))

  -- a step that stops
  pub does-halted : r.number ≡ 0 → (s.number ≡ 0 → ⊥) → p (form_of deep from a r) (reader_of a.names r) ≡ stop (fault s.number s.place)
  unfolding piece_of
  does-halted z h = sym (rw (eq-eqb r.number 0 z, ne_eqb s.number 0 h) at (d.reads fit))

  -- a step that answers
  pub does-answered : {x : Form × Reader} → r.number ≡ 0 → p (form_of deep from a r) (reader_of a.names r) ≡ got x
      → (s.number ≡ 0) × (x ≡ (form_of deep from b s, reader_of b.names s))
  does-answered z g = going s (λ y. (y, got-inj (sym g ∙ does-got d fit z y))) (λ n. stop≢got (sym (does-halted z n) ∙ g))

-- where the rows are full a refusal came before
pub does-full : {deep : Bool} {m k m1 k1 from : ℕ} {a : Lent} {r : Carried} {p : Program} → m ≤ 3 → 4100 ≤ r.written + k → Does deep m k m1 k1 from a r p a r
does-full few h = does-given λ fit. does-stopped λ z. let y : ⊥ = omega (arith, fit-room few fit z) in y

-- a step that leaves the rows and always stops
pub does-halts : {deep : Bool} {m k m1 k1 from : ℕ} {before after : List ℕ} {ws : List ℤ} {os : List ℕ} {r s : Carried} {p : Program}
    → r.number ≡ 0 → length after ≡ length before → s.written ≡ r.written
    → (192 ≤ length before → (s.number ≡ 0 → ⊥) × ((f : Form) → p f (reader_of before r) ≡ stop (fault s.number s.place)))
    → Does deep m k m1 k1 from (lent before ws os) r p (lent after ws os) s
unfolding piece_of
does-halts {r = r} {s = s} z kept written h =
    record {
      reads = λ fit. rw (ne_eqb s.number 0 (h fit.names).0, eq-eqb r.number 0 z) (sym ((h fit.names).1 _));
      fit = λ fit. fit-names kept (fit-stops written (h fit.names).0 fit);
      words_before = λ fit. refl;
      origins_before = λ fit. refl;
    }

-- a word that is stored after a refusal
pub put-stopped : {deep : Bool} {m k m1 k1 from : ℕ} {names : List ℕ} {ws vs : List ℤ} {os us : List ℕ} {r : Carried} {p : Program} (i : ℕ) (w : ℤ) (o : ℕ)
    → (r.number ≡ 0 → ⊥) → from ≤ i → vs ≡ set ws i w → us ≡ set os i o → Does deep m k m1 k1 from (lent names ws os) r p (lent names vs us) r
unfolding piece_of
put-stopped {from = from} {ws = ws} {os = os} {r = r} i w o h far is also =
    record {
      reads = λ fit. rw (ne_eqb r.number 0 h);
      fit = λ fit.
          record {
            names = fit.names;
            words = rw (is, length-set) fit.words;
            origins = rw (also, length-set) fit.origins;
            begins = fit.begins;
            counts = λ y. absurd (h y);
            certain = λ y. absurd (h y);
            owed = λ y. absurd (h y);
          };
      words_before = λ fit. rw is (take-set-le from ws i w far);
      origins_before = λ fit. rw also (take-set-le from os i o far);
    }

-- where nothing is written yet
pub form-empty : (a : Lent) (r : Carried) → form_of false r.written a r ≡ form [] []
unfolding form_of
form-empty a r = rw ((form-none false a r).0, (form-none false a r).1)

-- what is written stays
pub piece-grows : {m m1 from : ℕ} {a b : Lent} {r s : Carried} {step : Reader → Answer Fault (Form × Reader)} → Piece m m1 a r step b s → Fit m 0 from a r → r.written ≤ s.written
piece-grows d fit = (d.fit (fit-here fit)).begins
