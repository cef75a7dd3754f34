-- Pieces in a row as the loops write them: the parts of C, the fields of a record, and the statements of a block. Assumes nothing.
use mathlib.Core.Path.{◌≡◌, refl, sym, ap, ◌∙◌}
use mathlib.Core.List.{List, [], ◌∷◌, ◌++◌, append_assoc, append-nil}
use Prim.Native.Nat.{ℕ, zero, suc, ◌+◌, ◌-◌, ◌≤◌, ◌<◌}
use native.Mathlib.Omega.{arith}
use native.Mathlib.Numerals.{add-one}
use lib.IntN.{ℤ}
use lib.ListN.{drop}
use lib.Seq.{drop-drop}
use Rattle.words.specs.Words.{number_at}
use Rattle.words.proofs.Laws.{number-drop}
use Rattle.printing.specs.Signs.{Sign, dot_sign, label, between_bytes}
use Rattle.printing.specs.Naming.{Naming, naming_of, bytes_of, numbers_of}
use Rattle.printing.specs.Printing.{Printed, row_text, labels_text}
use Rattle.printing.specs.Page.{Added, Wrote}
use Rattle.printing.specs.declared.page.Page.{Page}
use Rattle.printing.proofs.PageLaws.{wrote_none, wrote_then, wrote-plain}
use Rattle.printing.proofs.PieceLaws.{Gives}

-- what stands before piece i
abbrev pub between : ℕ → List Sign → List Sign
between zero sep = []
between (suc i) sep = sep

between-bytes : (N : Naming) (i : ℕ) (sep : List Sign) → between_bytes i (bytes_of N sep) ≡ bytes_of N (between i sep)
between-bytes N zero sep = refl
between-bytes N (suc i) sep = refl

between-numbers : (i : ℕ) (sep : List Sign) → numbers_of sep ≡ [] → numbers_of (between i sep) ≡ []
between-numbers zero sep e = refl
between-numbers (suc i) sep e = e

between_next : (i : ℕ) (sep : List Sign) → between (i + 1) sep ≡ sep
between_next i sep = rw (add-one i)

-- the loop over n pieces has written i of them, and the words `rest` are behind these; with the pieces to come they are the whole
pub record InRow (a : Page) (sep : List Sign) (one : List ℤ → Printed) (n : ℕ) (whole : Printed) (i : ℕ) (rest : List ℤ) (b : Page) : Type 0 where
  pub done : List Sign
  pub wrote : Wrote a done b
  pub signs : done ++ (row_text (between i sep) sep one (n - i) rest).0 ≡ whole.0
  pub behind : (row_text (between i sep) sep one (n - i) rest).1 ≡ whole.1

pub row-starts : {a : Page} {sep : List Sign} {one : List ℤ → Printed} {n : ℕ} {q rest : List ℤ} {whole : Printed}
    → rest ≡ q → row_text [] sep one n q ≡ whole → InRow a sep one n whole 0 rest a
row-starts {n = n} l e =
    let z : n - 0 ≡ n = omega arith in
    record { done = []; wrote = wrote_none; signs = rw (l, z) (ap (λ (x : Printed). x.0) e); behind = rw (l, z) (ap (λ (x : Printed). x.1) e) }

module _ {a b : Page} {sep : List Sign} {one : List ℤ → Printed} {n i : ℕ} {rest : List ℤ} {whole : Printed} (inv : InRow a sep one n whole i rest b) where
  -- a piece more, with what stands before it
  pub row-goes-on : {d c : Page} {r : List ℤ}
      → i < n → Added b (between_bytes i (bytes_of (naming_of b.names) sep)) d → numbers_of sep ≡ [] → Gives d (one rest) c r → InRow a sep one n whole (i + 1) r c
  unfolding row_text
  row-goes-on h e m g =
      let z : n - i ≡ suc (n - (i + 1)) = omega arith in
      record {
        done = inv.done ++ (between i sep ++ (one rest).0);
        wrote = wrote_then inv.wrote (wrote_then {ss = between i sep} (wrote-plain (rw (between-bytes (naming_of b.names) i sep) at e) (between-numbers i sep m)) g.wrote);
        signs = rw (between_next i sep, g.rest) (append_assoc inv.done (between i sep ++ (one rest).0) _ ∙ rw (append_assoc (between i sep) (one rest).0) (rw z at inv.signs));
        behind = rw (between_next i sep, g.rest) (rw z at inv.behind);
      }

  pub row_ends : n ≤ i → Gives a whole b rest
  unfolding row_text
  row_ends h =
      let z : n - i ≡ 0 = omega arith in
      let d : inv.done ≡ whole.0 = sym (append-nil inv.done) ∙ rw z at inv.signs in
      record { wrote = rw d at inv.wrote; rest = rw z at inv.behind }

-- ---- the labels of a path

-- i of n labels are written
pub record InLabels (a : Page) (n : ℕ) (p : List ℤ) (i : ℕ) (b : Page) : Type 0 where
  pub done : List Sign
  pub wrote : Wrote a done b
  pub signs : done ++ labels_text (n - i) (drop i p) ≡ labels_text n p

pub labels-start : {a : Page} {n : ℕ} {p : List ℤ} → InLabels a n p 0 a
labels-start {n = n} = let z : n - 0 ≡ n = omega arith in record { done = []; wrote = wrote_none; signs = rw z }

module _ {a b : Page} {n i : ℕ} {p : List ℤ} (inv : InLabels a n p i b) where
  pub labels-go-on : {c : Page} → i < n → Wrote b (dot_sign ∷ label (number_at p i) ∷ []) c → InLabels a n p (i + 1) c
  unfolding labels_text
  labels-go-on h w =
      let z : n - i ≡ suc (n - (i + 1)) = omega arith in
      let y : number_at (drop i p) 0 ≡ number_at p i = number-drop p i 0 ∙ ap (number_at p) (omega arith) in
      record {
        done = inv.done ++ (dot_sign ∷ label (number_at p i) ∷ []);
        wrote = wrote_then inv.wrote w;
        signs = append_assoc inv.done _ _ ∙ rw (z, y, drop-drop 1 i p) at inv.signs;
      }

  pub labels-end : n ≤ i → Wrote a (labels_text n p) b
  unfolding labels_text
  labels-end h =
      let z : n - i ≡ 0 = omega arith in
      let d : inv.done ≡ labels_text n p = sym (append-nil inv.done) ∙ rw z at inv.signs in
      rw d at inv.wrote
