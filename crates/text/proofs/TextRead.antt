-- What the grammar yields within the limits is accepted, with those words, origins and names. Assumes nothing; what it needs of crate tokens comes as arguments.
use mathlib.Core.Path.{◌≡◌, refl, sym, ◌∙◌}
use mathlib.Core.Bool.{false}
use mathlib.Core.List.{List, [], ◌∷◌, ◌++◌, append-nil}
use Prim.Native.Nat.{ℕ, suc, ◌+◌, ◌-◌, ◌≤◌}
use native.Mathlib.Omega.{arith}
use lib.IntN.{ℤ, pos}
use lib.ListN.{length}
use Rattle.words.specs.Answer.{got}
use Rattle.program.specs.Forms.{most_words, most_statements, block_depth}
use Rattle.program.specs.Grammar.{statements_of, Yields as Yo, Program}
use Rattle.tokens.specs.declared.Token.{Token}
use Rattle.tokens.specs.Codes.{end_code, name_code}
use Rattle.tokens.specs.Claims.{MakesUp}
use Rattle.text.specs.Grammar.{row, Yields, Text}
use Rattle.text.specs.Reading.{Named, Reader, Form, is, need, row_at, block_at, first_reader, text_at}
use Rattle.text.specs.Claims.{NamesAre, Sorted, meaning, Reads}
use Rattle.text.proofs.Taken.{SameSelf, Given, At, ending, taken, takes, is-so}
use Rattle.text.proofs.PathsRead.{M, made}
use Rattle.text.proofs.OperatorsRead.{stops-by}
use Rattle.text.proofs.StatementCuts.{as-block}
use Rattle.text.proofs.BlocksRead.{Rows, row-not, rows-read, blocks}

none-sorted : {last : ℕ} {ts vts lts : List Token} → Sorted last ts vts lts → ts ≡ [] → (vts ≡ []) × (lts ≡ [])
none-sorted Sorted.none e = (refl, refl)
none-sorted (Sorted.other h s) e = absurd (let z : ◌≡◌ {A = ℕ} 0 1 = cc in omega arith)
none-sorted (Sorted.behind_dot h s) e = absurd (let z : ◌≡◌ {A = ℕ} 0 1 = cc in omega arith)
none-sorted (Sorted.before_colon a b c s) e = absurd (let z : ◌≡◌ {A = ℕ} 0 1 = cc in omega arith)
none-sorted (Sorted.variable a b c s) e = absurd (let z : ◌≡◌ {A = ℕ} 0 1 = cc in omega arith)

ended : {last : ℕ} {t : Token} {vts lts : List Token} → Sorted last (t ∷ []) vts lts → (t.code ≡ name_code → ⊥) → (vts ≡ []) × (lts ≡ [])
ended (Sorted.other h s) n = none-sorted s refl
ended (Sorted.behind_dot h s) n = absurd (n h)

no_names : {text : List ℕ} {ns ms : List Named} {ts : List Token} → NamesAre text ns ts ms → ts ≡ [] → ns ≡ ms
no_names NamesAre.none e = refl
no_names (NamesAre.more h) e = absurd (let z : ◌≡◌ {A = ℕ} 0 1 = cc in omega arith)

module _ (G : Given) (end : (ending G).code ≡ end_code) where
  -- at the end of the text all its names are known
  all_named_lem : {r : Reader} {c : ℕ} → At G r c [] → (r.variables ≡ G.vs) × (r.labels ≡ G.ls)
  all_named_lem a = let i = ended a.sorted (λ z. omega arith) in (no_names a.variable_names i.0, no_names a.label_names i.1)

  needs-end : {r : Reader} {c : ℕ} → At G r c [] → c + 0 ≤ most_words → need G.text end_code 0 r ≡ got (taken G 0 r)
  unfolding need
  needs-end a h = rw (is-so G end_code a end) (takes G 0 a h)

  abbrev Answered : List ℤ → List ℕ → Type 0
  Answered words origins = (f : Form) × ((r : Reader) × ((text_at G.text ≡ got (f, r)) × ((f.words ≡ words) × ((f.origins ≡ origins) × ((r.variables ≡ G.vs) × (r.labels ≡ G.ls))))))

  nothing_read : At G (first_reader G.text) 1 [] → Answered (pos 0 ∷ []) (0 ∷ [])
  unfolding text_at
  nothing_read a = (made (pos 0 ∷ []) (0 ∷ []) 1, (first_reader G.text, (rw (is-so G end_code a end) refl, (refl, (refl, all_named_lem a)))))

  row-answered : {n c : ℕ} {ws : List ℤ} {os : List ℕ} → is G.text (first_reader G.text) end_code ≡ false
      → Rows G (row_at G.text (λ v. block_at G.text (block_depth - 1) v) (most_statements - 1) (first_reader G.text)) n 0 c [] ws os → c + 0 ≤ most_words → Answered (pos n ∷ ws) (0 ∷ os)
  unfolding text_at
  row-answered {n} {ws = ws} {os = os} e i h =
      (made (pos n ∷ ws) (0 ∷ os) 1, (taken G 0 i.reader, (rw (e, i.answer, needs-end i.behind h) refl, (refl, (refl, all_named_lem i.behind)))))

  some_read : {n : ℕ} {ts : List Token} {ws : List ℤ} {os : List ℕ} → Yields (M G) (row n) ts ws os → Program (pos n ∷ ws) → At G (first_reader G.text) 1 ts → Answered (pos n ∷ ws) (0 ∷ os)
  some_read {n} {ts} {ws} {os} d l a = by (as-block l.yields (sym (append-nil (pos n ∷ ws))))
    where
      at : At G (first_reader G.text) 1 (ts ++ [])
      at = rw (append-nil ts) a

      by : (e : ℕ) × ((block_depth ≡ suc e) × ((n ≤ most_statements) × ((ss : List ℤ) × (Yo (statements_of e n) ss × (ws ≡ ss ++ []))))) → Answered (pos n ∷ ws) (0 ∷ os)
      by (e, (q, (h, (ss, (y, z))))) =
          let v : 7 ≡ e = omega arith in let y' : Yo (statements_of 7 n) ss = rw v y in
          row-answered (row-not G [] end_code d (λ x y. omega arith) at)
          (rows-read G 7 (λ v. block_at G.text 7 v) (blocks G 7) (first_reader G.text) [] [] [] (most_statements - 1) (1 + length ws) d y' (append-nil ws ∙ z) (omega arith) at (λ x. omega arith)
          (stops-by end_code (ending G) end (λ x. omega arith) (λ x. omega arith) (λ x. omega arith) refl) (λ x. omega arith) (λ x. omega arith) refl (omega (arith, l.short))).0 (omega (arith, l.short))

pub accepted-complete : MakesUp → SameSelf → (text : List ℕ) (words : List ℤ) (origins : List ℕ) (vs ls : List Named) → Reads text words origins vs ls
    → (f : Form) × ((r : Reader) × ((text_at text ≡ got (f, r)) × ((f.words ≡ words) × ((f.origins ≡ origins) × ((r.variables ≡ vs) × (r.labels ≡ ls))))))
accepted-complete makes-up same_self text words origins vs ls R = by R.yields R.limits first
  where
    G : Given
    G = record { makes-up = makes-up; same_self = same_self; text = text; vs = vs; ls = ls; to = R.to; last = R.last; few_variables = R.few_variables; few_labels = R.few_labels }

    first : At G (first_reader text) 1 R.tokens
    first = record {
      variable_tokens = R.variable_tokens;
      label_tokens = R.label_tokens;
      counted = refl;
      unpassed = refl;
      inside = omega arith;
      spelt = R.spelt;
      sorted = R.sorted;
      variable_names = R.variable_names;
      label_names = R.label_names;
      numbers = R.numbers;
    }

    by : {ts : List Token} {words : List ℤ} {origins : List ℕ} → Text (meaning text vs ls) ts words origins → Program words → At G (first_reader text) 1 ts
        → (f : Form) × ((r : Reader) × ((text_at text ≡ got (f, r)) × ((f.words ≡ words) × ((f.origins ≡ origins) × ((r.variables ≡ vs) × (r.labels ≡ ls))))))
    by Text.nothing l a = nothing_read G R.ends a
    by (Text.some d) l a = some_read G R.ends d l a
