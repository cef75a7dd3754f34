-- What a reader takes: a token, a variable, a label with the token that makes it one. Assumes the two laws of tokens that `TokenLaws` names.
use mathlib.Core.Path.{◌≡◌, refl, sym, ◌∙◌}
use mathlib.Core.Bool.{Bool, true, false, not, ◌&&◌}
use mathlib.Core.List.{List, [], ◌∷◌}
use Prim.Native.Nat.{ℕ, ◌+◌, ◌-◌, ◌≤◌, ◌<◌}
use native.Mathlib.Omega.{arith}
use borrow.Author.Tests.{leb-true, eqb-true, eqb-false, not-true}
use lib.Dec.{eqb, leb}
use lib.ListN.{length}
use Rattle.words.specs.Answer.{got}
use Rattle.words.specs.Range.{fits}
use Rattle.words.proofs.AnswerLaws.{got-inj, step, tested}
use Rattle.tables.specs.Sizes.{variables, labels}
use Rattle.tables.proofs.SearchLaws.{cases, and_left, and_right}
use Rattle.program.specs.Forms.{most_words}
use Rattle.program.specs.Reading.{among}
use Rattle.program.proofs.AmongLaws.{among_none, among-on}
use Rattle.tokens.specs.declared.Token.{Token}
use Rattle.tokens.specs.Codes.{name_code, number_code, colon_code, dot_code}
use Rattle.tokens.specs.Bytes.{part, same_in}
use Rattle.tokens.specs.Tokens.{token_from}
use Rattle.tokens.specs.Numbers.{integer_of}
use Rattle.tokens.specs.Claims.{Makes}
use Rattle.text.specs.Reading.{Named, Reader, due_after, peek, refusal, take, need, number_in, known, with_name, room_for, variable, label, is, fault}
use Rattle.text.specs.Claims.{TokensOf, NamesAre, Sorted, NumbersFit}
use Rattle.text.proofs.NameLaws.{Extends, number-stays, number-within, with-most, unknown-apart}
use Rattle.text.proofs.TookLaws.{Spot, spot, total, Fine, Opens, Took, Below, ordinary}

-- what the crate tokens shows of a text: tokens and white space make it up, and bytes are the same as themselves
pub record TokenLaws (text : List ℕ) : Type 0 where
  pub makes-up : (due : Bool) (at : ℕ) → at ≤ length text → Makes text at (token_from due text at)
  pub same-itself : (p n : ℕ) → p + n ≤ length text → same_in text p p n ≡ true

module _ (text : List ℕ) where
  -- the reader behind the token, with k words
  abbrev pub behind : ℕ → Reader → Reader
  behind k r = record {
    at = (peek text r).end;
    last = (peek text r).code;
    certain = r.certain + r.owed + k;
    owed = 0;
    passed = false;
    variables = r.variables;
    labels = r.labels;
  }

  -- the reader behind a label, which has one word
  abbrev pub labelled : Reader → Reader
  labelled r = record {
    at = (peek text r).end;
    last = (peek text r).code;
    certain = r.certain + r.owed + 1;
    owed = 0;
    passed = false;
    variables = r.variables;
    labels = with_name text r.labels (peek text r);
  }

  pub by-take {ℓ} : {X : Type ℓ} (k : ℕ) (r s : Reader) → take text k r ≡ got s → (r.passed ≡ false → total r + k ≤ most_words → behind k r ≡ s → X) → X
  unfolding take
  by-take k r s e c =
      tested (fault 22 (peek text r).place) (not r.passed && leb (r.certain + r.owed + k) most_words) _ e λ t g.
      c (not-true r.passed (and_left (not r.passed) _ t)) (leb-true (r.certain + r.owed + k) most_words (and_right (not r.passed) _ t)) (got-inj g)

  -- the token that is judged is taken, with k words
  pub record One (k : ℕ) (r s : Reader) : Type 0 where
    pub took : Took text (spot r) (spot s) (peek text r ∷ [])
    pub sum : total s ≡ total r + k
    pub unpassed : r.passed ≡ false

  pub record Variable (k : ℕ) (r : Reader) (x : ℕ × Reader) : Type 0 where
    pub took : Took text (spot r) (spot x.1) (peek text r ∷ [])
    pub name : (peek text r).code ≡ name_code
    pub number : (vs : List Named) → Extends x.1.variables vs → number_in text vs (peek text r) ≡ x.0
    pub within : x.0 < variables
    pub sum : total x.1 ≡ total r + k
    pub unpassed : r.passed ≡ false
    pub names : x.1.variables ≡ with_name text r.variables (peek text r)

  -- a label, whose token and the one beside it are taken; `old` were the labels before
  pub record Label (t : Token) (seen : List ℕ) (old : List Named) (n : ℕ) (q : Spot) : Type 0 where
    pub name : t.code ≡ name_code
    pub number : (ls : List Named) → Extends q.labels ls → number_in text ls t ≡ n
    pub within : n < labels
    pub below : n < length q.labels
    pub apart : Below (length old) seen → among n seen ≡ false

  not-among : (old : List Named) (t : Token) (seen : List ℕ) → known text old t ≡ false → Below (length old) seen → among (number_in text old t) seen ≡ false
  not-among old t [] k b = among_none (number_in text old t)
  not-among old t (n ∷ ns) k (Below.more h b) = among-on (number_in text old t) n ns (unknown-apart text old t n k h) (not-among old t ns k b)

  -- `.` and a label
  pub record Dotted (r s : Reader) (x : ℕ × Reader) : Type 0 where
    pub took : Took text (spot r) (spot x.1) (peek text r ∷ peek text s ∷ [])
    pub label : Label (peek text s) [] s.labels x.0 (spot x.1)
    pub sum : total x.1 ≡ total r + 1

  -- the label of a field and its `:`
  pub record Field (seen : List ℕ) (r : Reader) (x : ℕ × Reader) (s : Reader) : Type 0 where
    pub took : Took text (spot r) (spot s) (peek text r ∷ peek text x.1 ∷ [])
    pub colon : (peek text x.1).code ≡ colon_code
    pub label : Label (peek text r) seen r.labels x.0 (spot s)
    pub sum : total s ≡ total r + 1

module _ {text : List ℕ} (L : TokenLaws text) where
  end-inside : (r : Reader) → r.at ≤ length text → (peek text r).end ≤ length text
  unfolding peek
  end-inside r f = go (L.makes-up (due_after r.last) r.at f)
    where
      go : {t : Token} → Makes text r.at t → t.end ≤ length text
      go (Makes.whole x y a b c d) = c
      go (Makes.end a e b) = rw e (omega arith)
      go (Makes.longer a e) = rw e (omega arith)

  pub name-same : (r : Reader) → r.at ≤ length text → (peek text r).code ≡ name_code
      → same_in text (peek text r).place (peek text r).place ((peek text r).end - (peek text r).place) ≡ true
  unfolding peek
  name-same r f n = go (L.makes-up (due_after r.last) r.at f) n
    where
      go : {t : Token} → Makes text r.at t → t.code ≡ name_code → same_in text t.place t.place (t.end - t.place) ≡ true
      go {t} (Makes.whole x y a b c d) n = L.same-itself t.place (t.end - t.place) (omega arith)
      go (Makes.end a e b) n = absurd (let z : ◌≡◌ {A = ℕ} 0 1 = rw e at n in omega arith)
      go (Makes.longer a e) n = absurd (let z : ◌≡◌ {A = ℕ} 4 1 = rw e at n in omega arith)

  take-other : (k : ℕ) (r s : Reader) → Fine text (spot r) → ((peek text r).code ≡ name_code → ⊥) → ((peek text r).code ≡ colon_code → ⊥) → ((peek text r).code ≡ dot_code → ⊥)
      → ((peek text r).code ≡ number_code → fits (integer_of (part text (peek text r).place (peek text r).end)) ≡ true) → take text k r ≡ got s → One text k r s
  unfolding peek
  take-other k r s f no_name no-colon no-dot number e =
      by-take text k r s e λ u h g. rw (← g) (record {
        took = record {
          spelt = TokensOf.more refl TokensOf.none;
          numbers = NumbersFit.more number NumbersFit.none;
          variable_tokens = [];
          label_tokens = [];
          variable_names = NamesAre.none;
          label_names = NamesAre.none;
          opens = Opens.first no-colon;
          sorted = λ v vs xs ys x y. Sorted.other no_name y;
          fine = record { inside = end-inside r f.inside; few_variables = f.few_variables; few_labels = f.few_labels; no-dot = no-dot };
        };
        sum = omega arith;
        unpassed = u;
      })

  pub take-one : (k : ℕ) (r s : Reader) (c : ℕ) → Fine text (spot r) → (peek text r).code ≡ c → ordinary c ≡ true → take text k r ≡ got s → One text k r s
  take-one k r s c f i o e =
      let low : 10 ≤ c = leb-true 10 c (and_left (leb 10 c) _ o) in
      let rest : not (eqb c colon_code) && not (eqb c dot_code) ≡ true = and_right (leb 10 c) _ o in
      let no-colon : c ≡ colon_code → ⊥ = eqb-false c colon_code (not-true (eqb c colon_code) (and_left (not (eqb c colon_code)) _ rest)) in
      let no-dot : c ≡ dot_code → ⊥ = eqb-false c dot_code (not-true (eqb c dot_code) (and_right (not (eqb c colon_code)) _ rest)) in
      take-other k r s f (λ n. absurd (omega arith)) (λ n. no-colon (sym i ∙ n)) (λ n. no-dot (sym i ∙ n)) (λ n. absurd (omega arith)) e

  pub need-one : (c k : ℕ) (r s : Reader) → Fine text (spot r) → ordinary c ≡ true → need text c k r ≡ got s → ((peek text r).code ≡ c) × One text k r s
  unfolding need
  need-one c k r s f o e =
      tested (refusal text (peek text r)) (is text r c) _ e λ t g.
      let i : (peek text r).code ≡ c = eqb-true (peek text r).code c t in (i, take-one k r s c f i o g)

  pub take-number : (k : ℕ) (r s : Reader) → Fine text (spot r) → (peek text r).code ≡ number_code → fits (integer_of (part text (peek text r).place (peek text r).end)) ≡ true
      → take text k r ≡ got s → One text k r s
  take-number k r s f i o e = take-other k r s f (λ n. absurd (omega arith)) (λ n. absurd (omega arith)) (λ n. absurd (omega arith)) (λ n. o) e

  -- ---- names

  pub variable-one : (k : ℕ) (r : Reader) (x : ℕ × Reader) → Fine text (spot r) → variable text k r ≡ got x → Variable text k r x
  unfolding variable peek
  variable-one k r x f e =
      tested (refusal text (peek text r)) (is text r name_code) _ e λ t e1.
      tested (fault 21 (peek text r).place) (room_for text variables r.variables (peek text r)) _ e1 λ m e2.
      step (take text k r) _ e2 λ s e3 e4.
      by-take text k r s e3 λ u h g.
      let i : (peek text r).code ≡ name_code = eqb-true (peek text r).code name_code t in
      let few : length (with_name text r.variables (peek text r)) ≤ variables = with-most text variables r.variables (peek text r) m f.few_variables in
      let low : number_in text r.variables (peek text r) < length (with_name text r.variables (peek text r)) = number-within text r.variables (peek text r) in
      rw (← got-inj e4, ← g) (record {
        took = record {
          spelt = TokensOf.more refl TokensOf.none;
          numbers = NumbersFit.more {t = peek text r} (λ n. absurd (omega arith)) NumbersFit.none;
          variable_tokens = peek text r ∷ [];
          label_tokens = [];
          variable_names = NamesAre.more NamesAre.none;
          label_names = NamesAre.none;
          opens = Opens.first {t = peek text r} (λ n. absurd (omega arith));
          sorted = λ v vs xs ys x y. Sorted.variable f.no-dot i x (rw i at y);
          fine = record { inside = end-inside r f.inside; few_variables = few; few_labels = f.few_labels; no-dot = λ n. absurd (omega arith) };
        };
        name = i;
        number = λ vs l. number-stays text r.variables (peek text r) vs (name-same r f.inside i) l;
        within = omega arith;
        sum = omega arith;
        unpassed = u;
        names = refl;
      })

  by-label {ℓ} : {X : Type ℓ} (seen : List ℕ) (r : Reader) (x : ℕ × Reader) → r.at ≤ length text → length r.labels ≤ labels → label text seen r ≡ got x
      → (Label text (peek text r) seen r.labels x.0 (spot x.1) → length (with_name text r.labels (peek text r)) ≤ labels → r.passed ≡ false
      → labelled text r ≡ x.1 → X) → X
  unfolding label
  by-label seen r x a b e c =
      tested (refusal text (peek text r)) (is text r name_code && not (known text r.labels (peek text r) && among (number_in text r.labels (peek text r)) seen)) _ e λ t e1.
      tested (fault 21 (peek text r).place) (room_for text labels r.labels (peek text r)) _ e1 λ m e2.
      step (take text 1 r) _ e2 λ s e3 e4.
      by-take text 1 r s e3 λ u h g.
      let i : (peek text r).code ≡ name_code = eqb-true (peek text r).code name_code (and_left (is text r name_code) _ t) in
      let new : known text r.labels (peek text r) && among (number_in text r.labels (peek text r)) seen ≡ false = not-true _ (and_right (is text r name_code) _ t) in
      let few : length (with_name text r.labels (peek text r)) ≤ labels = with-most text labels r.labels (peek text r) m b in
      let low : number_in text r.labels (peek text r) < length (with_name text r.labels (peek text r)) = number-within text r.labels (peek text r) in
      (rw (← got-inj e4, ← g) at c) (record {
        name = i;
        number = λ ls l. number-stays text r.labels (peek text r) ls (name-same r a i) l;
        within = omega arith;
        below = low;
        apart = λ z. cases (known text r.labels (peek text r)) (λ y. rw y at new) (λ y. not-among text r.labels (peek text r) seen y z);
      }) few u refl

  dotted-behind : (r : Reader) (x : ℕ × Reader) → Fine text (spot r) → (peek text r).code ≡ dot_code → label text [] (behind text 0 r) ≡ got x → Dotted text r (behind text 0 r) x
  unfolding peek
  dotted-behind r x f i d =
      let in-s : (peek text r).end ≤ length text = end-inside r f.inside in
      by-label [] (behind text 0 r) x in-s f.few_labels d λ l few u q.
      let n : (peek text (behind text 0 r)).code ≡ name_code = l.name in
      record {
        took = rw (← q) (record {
          spelt = TokensOf.more refl (TokensOf.more refl TokensOf.none);
          numbers = NumbersFit.more {t = peek text r} (λ m. absurd (omega arith)) (NumbersFit.more {t = peek text (behind text 0 r)} (λ m. absurd (omega arith)) NumbersFit.none);
          variable_tokens = [];
          label_tokens = peek text (behind text 0 r) ∷ [];
          variable_names = NamesAre.none;
          label_names = NamesAre.more NamesAre.none;
          opens = Opens.first {t = peek text r} (λ m. absurd (omega arith));
          sorted = λ v vs xs ys h y. Sorted.other {t = peek text r} (λ m. absurd (omega arith)) (behind_dot (peek text r).code (peek text (behind text 0 r)) i n y);
          fine = record { inside = end-inside (behind text 0 r) in-s; few_variables = f.few_variables; few_labels = few; no-dot = λ m. absurd (omega arith) };
        });
        label = l;
        sum = rw (← q) (omega arith);
      }
    where
      behind_dot : {us vs ls : List Token} (c : ℕ) (t : Token) → c ≡ dot_code → t.code ≡ name_code → Sorted t.code us vs ls → Sorted c (t ∷ us) vs (t ∷ ls)
      behind_dot c t i n y = rw i (Sorted.behind_dot n (rw n at y))

  pub dotted : (r s : Reader) (x : ℕ × Reader) → Fine text (spot r) → (peek text r).code ≡ dot_code → take text 0 r ≡ got s → label text [] s ≡ got x → Dotted text r s x
  dotted r s x f i e d = by-take text 0 r s e λ p h g. rw (← g) (dotted-behind r x f i (rw (← g) at d))

  field-behind : (seen : List ℕ) (r : Reader) (n : ℕ) → Fine text (spot r) → Label text (peek text r) seen r.labels n (spot (labelled text r))
      → length (with_name text r.labels (peek text r)) ≤ labels → (peek text (labelled text r)).code ≡ colon_code → Field text seen r (n, labelled text r) (behind text 0 (labelled text r))
  unfolding peek
  field-behind seen r n f l few i =
      let name : (peek text r).code ≡ name_code = l.name in
      record {
        took = record {
          spelt = TokensOf.more refl (TokensOf.more refl TokensOf.none);
          numbers = NumbersFit.more {t = peek text r} (λ m. absurd (omega arith)) (NumbersFit.more {t = peek text (labelled text r)} (λ m. absurd (omega arith)) NumbersFit.none);
          variable_tokens = [];
          label_tokens = peek text r ∷ [];
          variable_names = NamesAre.none;
          label_names = NamesAre.more NamesAre.none;
          opens = Opens.first {t = peek text r} (λ m. absurd (omega arith));
          sorted = λ v vs xs ys h y. Sorted.before_colon f.no-dot name i (Sorted.other {t = peek text (labelled text r)} (λ m. absurd (omega arith)) y);
          fine = record {
            inside = end-inside (labelled text r) (end-inside r f.inside);
            few_variables = f.few_variables;
            few_labels = few;
            no-dot = λ m. absurd (omega arith);
          };
        };
        colon = i;
        label = record { name = name; number = l.number; within = l.within; below = l.below; apart = l.apart };
        sum = omega arith;
      }

  pub field-one : (seen : List ℕ) (r : Reader) (x : ℕ × Reader) (s : Reader) → Fine text (spot r) → label text seen r ≡ got x → need text colon_code 0 x.1 ≡ got s
      → Field text seen r x s
  unfolding need
  field-one seen r x s f d e =
      by-label seen r x f.inside f.few_labels d λ l few u q.
      tested (refusal text (peek text x.1)) (is text x.1 colon_code) _ e λ t g.
      let i : (peek text x.1).code ≡ colon_code = eqb-true (peek text x.1).code colon_code t in
      by-take text 0 x.1 s g λ p h j. rw (← j) (go x.0 x.1 l few i q)
    where
      go : (n : ℕ) (y : Reader) → Label text (peek text r) seen r.labels n (spot y) → length (with_name text r.labels (peek text r)) ≤ labels → (peek text y).code ≡ colon_code
          → labelled text r ≡ y → Field text seen r (n, y) (behind text 0 y)
      go n y l few i q = rw (← q) (field-behind seen r n f (rw (← q) at l) few (rw (← q) at i))
