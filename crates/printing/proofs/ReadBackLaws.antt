-- What is written is read back, to the same words and names, and is then written as it was. Assumes nothing.
use mathlib.Core.Path.{◌≡◌, refl, sym, ap, ◌∙◌}
use mathlib.Core.Bool.{true, true≢false}
use mathlib.Core.List.{List, [], ◌∷◌, ◌++◌}
use Prim.Native.Nat.{ℕ, ◌+◌, ◌-◌, ◌≤◌, ◌<◌}
use native.Mathlib.Omega.{arith}
use borrow.Author.Tests.{ltb-true, ltb-false}
use lib.Dec.{ltb}
use lib.IntN.{ℤ}
use lib.ListN.{length}
use Rattle.words.specs.Answer.{got}
use Rattle.tables.specs.Sizes.{labels}
use Rattle.tables.proofs.SearchLaws.{cases}
use Rattle.program.specs.Reading.{read_program}
use Rattle.program.proofs.GrammarLaws.{program-sound}
use Rattle.tokens.specs.declared.Token.{Token}
use Rattle.tokens.specs.Codes.{semicolon_code}
use Rattle.tokens.specs.Tokens.{most_bytes, token_from}
use Rattle.tokens.specs.Rules.{All}
use Rattle.lister.specs.Numerals.{numeral}
use Rattle.text.specs.Reading.{Named, due_after}
use Rattle.text.specs.Names.{named}
use Rattle.text.specs.Claims.{Reads, meaning}
use Rattle.text.proofs.TextClaims.{accepted-exactly}
use Rattle.printing.specs.Signs.{Sign}
use Rattle.printing.specs.Printing.{program_text}
use Rattle.printing.specs.Naming.{Naming, numbers, first_label, is_given, name_of, bytes_of, numbers_of}
use Rattle.printing.specs.Faults.{is_name, used_from}
use Rattle.printing.specs.Whole.{text_of, standings, first_fault}
use Rattle.printing.specs.Rules.{Text}
use Rattle.printing.specs.Spaced.{Fine, InOrder, variables_of, labels_of}
use Rattle.printing.specs.Claims.{Words, Used, OfOneSort, Had, AtFault, ReadsBack}
use Rattle.printing.proofs.StatedLaws.{program-said}
use Rattle.printing.proofs.FineLaws.{text-fine}
use Rattle.printing.proofs.YieldLaws.{text-yields}
use Rattle.printing.proofs.FittedLaws.{text-fitted}
use Rattle.printing.proofs.DefaultNames.{default-good}
use Rattle.printing.proofs.CalledLaws.{order-grows, Stands, names-found}
use Rattle.printing.proofs.FaultsExactly.{faults-exactly}
use Rattle.printing.proofs.OrderLaws.{given-fit, variables-in-order, labels-in-order, variables-apart, labels_apart, used-few}
use Rattle.printing.proofs.SignTokens.{Good, Told, signs-tokens}
use Rattle.printing.proofs.SignSorted.{SortedAs, signs-sorted}
use Rattle.printing.proofs.ToldNaming.{Called, told, variable-called, label-called, variable-uncalled, label-uncalled}

-- the same names of the numbers that are used are the same bytes
bytes_same : (N P : Naming) (ss : List Sign) → ((i : ℕ) → Used i (numbers_of ss) → name_of N i ≡ name_of P i) → bytes_of N ss ≡ bytes_of P ss
bytes_same N P [] f = refl
bytes_same N P (Sign.blank s ∷ ss) f = ap (λ t. s ++ t) (bytes_same N P ss f)
bytes_same N P (Sign.fixed c s ∷ ss) f = ap (λ t. s ++ t) (bytes_same N P ss f)
bytes_same N P (Sign.integer z ∷ ss) f = ap (λ t. numeral z ++ t) (bytes_same N P ss f)
bytes_same N P (Sign.variable x ∷ ss) f = rw (f x Used.here, bytes_same N P ss (λ i u. f i (Used.later u)))
bytes_same N P (Sign.label l ∷ ss) f = rw (f (first_label + l) Used.here, bytes_same N P ss (λ i u. f i (Used.later u)))

-- a number that is used is the first, or one of the others
used-cases {ℓ} : {X : Type ℓ} {i k : ℕ} {is : List ℕ} → Used i (k ∷ is) → (i ≡ k → X) → (Used i is → X) → X
used-cases Used.here f g = f refl
used-cases (Used.later u) f g = g u

-- a number that is used is a variable's or a label's
by-sort {ℓ} : {X : Type ℓ} {i : ℕ} (ss : List Sign) → Used i (numbers_of ss) → (Used i (variables_of ss) → X) → ((l : ℕ) → i ≡ first_label + l → Used l (labels_of ss) → X) → X
by-sort [] u f g = elim u [ ]
by-sort (Sign.blank s ∷ ss) u f g = by-sort ss u f g
by-sort (Sign.fixed c s ∷ ss) u f g = by-sort ss u f g
by-sort (Sign.integer z ∷ ss) u f g = by-sort ss u f g
by-sort (Sign.variable x ∷ ss) Used.here f g = f Used.here
by-sort (Sign.variable x ∷ ss) (Used.later u) f g = by-sort ss u (λ v. f (Used.later v)) g
by-sort (Sign.label l ∷ ss) u f g = used-cases u (λ e. g l e Used.here) (λ v. by-sort ss v f (λ m e w. g m e (Used.later w)))

order_below : {k n x : ℕ} {xs : List ℕ} → InOrder k xs n → Used x xs → x < n
order_below InOrder.none u = elim u [ ]
order_below (InOrder.old h o) Used.here = omega (arith, order-grows o)
order_below (InOrder.old h o) (Used.later u) = order_below o u
order_below (InOrder.new o) Used.here = omega (arith, order-grows o)
order_below (InOrder.new o) (Used.later u) = order_below o u

module _ (N : Naming) (p : List ℤ) (w : Words p) (reads : read_program p ≡ got tt) (fit : first_fault N p ≡ numbers) where
  abbrev signs : List Sign
  signs = program_text p

  abbrev text : List ℕ
  text = bytes_of N signs

  -- how many variables and labels are used
  abbrev many : ℕ
  many = used_from (standings p) 0 first_label

  abbrev marks : ℕ
  marks = used_from (standings p) first_label labels

  rule : Text p signs
  rule = program-said (program-sound p reads).yields

  -- ---- the names that are used

  name-good : (i : ℕ) → i < numbers → is_name (name_of N i) ≡ true
  unfolding name_of
  name-good i h = cases (is_given N i) (λ e. rw e (given-fit N p reads fit i h e).1) (λ e. rw e (default-good i h))

  few : many ≤ first_label
  few = used-few (standings p) 0 first_label

  few-marks : marks ≤ labels
  few-marks = used-few (standings p) first_label labels

  -- a number that is used is one of the first of its sort
  data Among (i : ℕ) : Type 0 where
    variable : i < many → Among i
    label : (l : ℕ) → l < marks → i ≡ first_label + l → Among i

  among : (i : ℕ) → Used i (numbers_of signs) → Among i
  among i u =
      by-sort signs u (λ v. Among.variable (order_below (variables-in-order N p reads fit) v))
      (λ l e v. Among.label l (order_below (labels-in-order N p reads fit) v) e)

  among_below : (i : ℕ) → Among i → i < numbers
  among_below i (Among.variable h) = omega (arith, few)
  among_below i (Among.label l h e) = omega (arith, few-marks)

  good : Good N signs
  good i u = name-good i (among_below i (among i u))

  -- ---- the text is read

  module _ (short : length text ≤ most_bytes) where
    record Readable : Type 0 where
      names : List Named
      marked : List Named
      origins : List ℕ
      back : Reads text p origins names marked
      name-count : length names ≡ many
      mark-count : length marked ≡ marks
      name-stands : (i : ℕ) → i < many → Stands text (name_of N i) (named names i)
      mark-stands : (i : ℕ) → i < marks → Stands text (name_of N (first_label + i)) (named marked i)

    readable : Readable
    readable =
        let fine : Fine semicolon_code signs = text-fine rule in
        let k : Told N text semicolon_code 0 signs = signs-tokens N text short fine good (text-fitted rule w) 0 [] All.none (omega arith) refl in
        let e : Token = token_from (due_after k.behind) text k.to in
        let s : SortedAs N text semicolon_code k.tokens e signs = signs-sorted N text e k.ends fine (text-fitted rule w) k.spells in
        let v = names-found text (name_of N) many (variables-apart N p reads fit) s.variable_names (variables-in-order N p reads fit) in
        let l = names-found text (λ (i : ℕ). name_of N (first_label + i)) marks (labels_apart N p reads fit) s.label_names (labels-in-order N p reads fit) in
        let y = text-yields (meaning text v.names l.names) k.tokens rule (s.tells v.names l.names v.numbers l.numbers) in
        record {
          names = v.names;
          marked = l.names;
          origins = y.0;
          back = record {
            tokens = k.tokens;
            to = k.to;
            last = k.behind;
            spelt = k.spelt;
            ends = k.ends;
            yields = y.1;
            variable_tokens = s.variables;
            label_tokens = s.labels;
            sorted = s.sorted;
            variable_names = v.are;
            label_names = l.are;
            few_variables = rw v.count few;
            few_labels = rw l.count few-marks;
            numbers = s.fit;
            limits = program-sound p reads;
          };
          name-count = v.count;
          mark-count = l.count;
          name-stands = v.stand;
          mark-stands = l.stand;
        }

    -- ---- and written again

    module _ (r : Readable) where
      abbrev again : Naming
      again = told text short r.names r.marked

      among-called : (i : ℕ) → Among i → Called again i (name_of N i)
      among-called i (Among.variable h) =
          variable-called text short r.names r.marked i (omega (arith, few)) (omega (arith, r.name-count)) (r.name-stands i h)
      among-called i (Among.label l h e) =
          rw e (label-called text short r.names r.marked l (omega (arith, few-marks)) (omega (arith, r.mark-count)) (r.mark-stands l h))

      given-among : (i : ℕ) → i < numbers → is_given again i ≡ true → Among i
      given-among i h g =
          cases (ltb i first_label)
          (λ e. cases (ltb i many) (λ k. Among.variable (ltb-true i many k))
          (λ k. absurd (true≢false (sym g ∙ variable-uncalled text short r.names r.marked i (ltb-true i first_label e) (omega (arith, ltb-false i many k, r.name-count))))))
          (λ e. let q : first_label ≤ i = ltb-false i first_label e in
          let z : i ≡ first_label + (i - first_label) = omega arith in
          cases (ltb (i - first_label) marks) (λ k. Among.label (i - first_label) (ltb-true (i - first_label) marks k) z)
          (λ k.
          let u = label-uncalled text short r.names r.marked (i - first_label) (omega arith) (omega (arith, ltb-false (i - first_label) marks k, r.mark-count)) in
          absurd (true≢false (sym (rw z at g) ∙ u))))

      same_text : bytes_of again signs ≡ text
      same_text = bytes_same again N signs (λ i u. (among-called i (among i u)).name)

      had-among : (i : ℕ) → i < numbers → Had again p i → Among i
      had-among i h (Had.given g) = given-among i h g
      had-among i h (Had.used u) = among i u

      apart : (i j : ℕ) → i < numbers → j < i → OfOneSort i j → Among i → Among j → name_of N i ≡ name_of N j → ⊥
      apart i j h l o (Among.variable a) (Among.variable b) e = let z : i ≡ j = variables-apart N p reads fit i j a b e in omega arith
      apart i j h l o (Among.variable a) (Among.label k b q) e = omega (arith, few)
      apart i j h l (OfOneSort.both_variables x y) (Among.label k b q) (Among.variable c) e = omega arith
      apart i j h l (OfOneSort.both_labels x y) (Among.label k b q) (Among.variable c) e = omega (arith, few)
      apart i j h l o (Among.label k b q) (Among.label m c s) e =
          let z : k ≡ m = labels_apart N p reads fit k m b c (rw (q, s) at e) in omega arith

      no-fault : (i : ℕ) → i < numbers → AtFault again p i → ⊥
      no-fault i h (AtFault.outside g f) = true≢false (sym (among-called i (given-among i h g)).part ∙ f)
      no-fault i h (AtFault.unnamed g f) =
          let c = among-called i (given-among i h g) in true≢false (sym (name-good i h) ∙ rw c.bytes at f)
      no-fault i h (AtFault.twin {j = j} a l o b e) =
          let x : Among i = had-among i h a in
          let y : Among j = had-among j (omega arith) b in
          apart i j h l o x y (sym (among-called i x).name ∙ e ∙ (among-called j y).name)
      no-fault i h (AtFault.early u q o n) = (faults-exactly N p reads).before i (rw fit h) (AtFault.early u q o n)

      fit-again : first_fault again p ≡ numbers
      fit-again =
          let f = faults-exactly again p reads in
          cases (ltb (first_fault again p) numbers)
          (λ e. let h : first_fault again p < numbers = ltb-true (first_fault again p) numbers e in absurd (no-fault (first_fault again p) h (f.there h)))
          (λ e. omega (arith, f.most, ltb-false (first_fault again p) numbers e))

pub reads-back : ReadsBack
unfolding text_of
reads-back N p w reads fit short =
    let r : Readable N p w reads fit short = readable N p w reads fit short in
    let x = (accepted-exactly (bytes_of N (program_text p)) p r.origins r.names r.marked).1 r.back in
    let q = x.1.1.1.1.1.0 in
    let l = x.1.1.1.1.1.1 in
    record {
      form = x.0;
      reader = x.1.0;
      reads = x.1.1.0;
      words = x.1.1.1.0;
      variable_count = ap length q ∙ r.name-count;
      label_count = ap length l ∙ r.mark-count;
      fit = rw (q, l) (fit-again N p w reads fit short r);
      again = rw (q, l) (same_text N p w reads fit short r);
    }
