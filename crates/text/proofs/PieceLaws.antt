-- Paths and operands that are read are the grammar's, within the limits. Assumes the two laws of tokens that `TokenLaws` names.
use mathlib.Core.Path.{◌≡◌, refl}
use mathlib.Core.Bool.{Bool, true, false, cond, not, ◌&&◌, ◌||◌}
use mathlib.Core.List.{List, [], ◌∷◌, ◌++◌}
use Prim.Native.Nat.{ℕ, zero, suc, ◌+◌, ◌≤◌}
use native.Mathlib.Omega.{arith}
use borrow.Author.Tests.{eqb-true, eq-eqb, not-true, not-false}
use lib.Dec.{eqb}
use lib.IntN.{ℤ, pos}
use lib.ListN.{length, length-append}
use Rattle.words.specs.Answer.{Answer, got, ◌>>=◌}
use Rattle.words.specs.Range.{fits}
use Rattle.words.proofs.AnswerLaws.{got-inj, stop≢got, step}
use Rattle.tables.proofs.SearchLaws.{cases, and_left, and_right}
use Rattle.program.specs.Forms.{most_steps}
use Rattle.program.specs.Grammar as Limits
use Rattle.tokens.specs.declared.Token.{Token}
use Rattle.tokens.specs.Codes.{name_code, number_code, dot_code, nil_code, false_code, true_code, identical_code}
use Rattle.tokens.specs.Bytes.{part}
use Rattle.tokens.specs.Numbers.{integer_of}
use Rattle.text.specs.Grammar.{Meaning, Labels, Path, Expression}
use Rattle.text.specs.Reading.{Fault, Named, Reader, Form, form, passing, with_name, peek, take, variable, label, is}
use Rattle.text.specs.Reading.{steps, path, literal, literal_at, outside, everywhere, path_or_same, operand}
use Rattle.text.specs.Claims.{meaning}
use Rattle.text.proofs.NameLaws.{Extends, names-extend}
use Rattle.text.proofs.TookLaws.{spot, total, Fine, Took, took-none, took-on, Later, before}
use Rattle.text.proofs.TakenLaws.{TokenLaws, One, take-one, take-number, Variable, variable-one, Dotted, dotted, by-take}
use Rattle.text.proofs.AnswerSteps.{passing-one, label-never}

-- a test that decides between two ways
pub either_way {ℓ} : {E A : Type 0} {X : Type ℓ} {x : A} (c : Bool) (a b : Answer E A) → cond c a b ≡ got x → (c ≡ true → a ≡ got x → X) → (c ≡ false → b ≡ got x → X) → X
either_way true a b e f g = f refl e
either_way false a b e f g = g refl e

pub or-false : (a b : Bool) → a || b ≡ false → b ≡ false
or-false true b e = absurd (let z : ◌≡◌ {A = ℕ} 0 1 = cc in omega arith)
or-false false b e = e

pub or_left : (a b : Bool) → a || b ≡ false → a ≡ false
or_left true b e = absurd (let z : ◌≡◌ {A = ℕ} 0 1 = cc in omega arith)
or_left false b e = refl

-- a reader that a limit has passed takes nothing
pub never {ℓ} : {X : Type ℓ} (a : Bool) → a || true ≡ false → X
never a e = absurd (let z : true ≡ false = or-false a true e in let y : ◌≡◌ {A = ℕ} 0 1 = cc in omega arith)

pub leaf : {in_c : Bool} {ws : List ℤ} → ((d : ℕ) → Limits.Expression in_c (suc d) ws) → (d : ℕ) → 1 ≤ d → Limits.Expression in_c d ws
leaf f zero h = absurd (omega arith)
leaf f (suc d) h = f d

labels-one : {M : Meaning} {n k : ℕ} {d l : Token} {ts : List Token} {ws : List ℤ} {os : List ℕ}
    → d.code ≡ dot_code → l.code ≡ name_code → M.label l ≡ k → Labels M n ts ws os → Labels M (suc n) (d ∷ l ∷ ts) (pos k ∷ ws) (l.place ∷ os)
labels-one {d = d} {l = l} a b e k = rw (← e) (Labels.one d l a b k)

path-one : {M : Meaning} {n k : ℕ} {x : Token} {ts : List Token} {ws : List ℤ} {os : List ℕ}
    → x.code ≡ name_code → M.variable x ≡ k → Labels M n ts ws os → Path M (x ∷ ts) (pos k ∷ pos n ∷ ws) (x.place ∷ x.place ∷ os)
path-one {x = x} b e k = rw (← e) (Path.path x b k)

module _ (text : List ℕ) where
  -- a piece that is read from r to s: its tokens, what the grammar says of them, what the limits say, and its words, of which `extra` more are counted
  pub record Piece (P : Meaning → List Token → List ℤ → List ℕ → Type 0) (W : Form → Type 0) (r s : Reader) (extra : ℕ) (f : Form) : Type 0 where
    pub rest : List Token
    pub took : Took text (spot r) (spot s) (peek text r ∷ rest)
    pub yields : (vs ls : List Named) → Later (spot s) vs ls → P (meaning text vs ls) (peek text r ∷ rest) f.words f.origins
    pub limits : W f
    pub sum : total s ≡ total r + (extra + length f.words)
    pub unpassed : r.passed ≡ false

  pub record Steps (n : ℕ) (r : Reader) (x : Form × Reader) : Type 0 where
    pub tokens : List Token
    pub took : Took text (spot r) (spot x.1) tokens
    pub yields : (vs ls : List Named) → Later (spot x.1) vs ls → Labels (meaning text vs ls) (length x.0.words) tokens x.0.words x.0.origins
    pub limits : Limits.Labels (length x.0.words) x.0.words
    pub few : length x.0.words ≤ n
    pub sum : total x.1 ≡ total r + length x.0.words

  abbrev pub PathIs : Reader → Reader → ℕ → Form → Type 0
  PathIs r s k f = Piece (λ M. Path M) (λ g. Limits.Path g.words) r s k f

  -- an expression's words, nested so deep as its form says or deeper
  abbrev pub Nested : Bool → Form → Type 0
  Nested in_c f = (d : ℕ) → f.depth ≤ d → Limits.Expression in_c d f.words

  abbrev pub Operand : Bool → Reader → Reader → ℕ → Form → Type 0
  Operand in_c r s k f = Piece (λ M. Expression M in_c 6) (λ g. Nested in_c g × (g.depth ≡ 1)) r s k f

module _ {text : List ℕ} (L : TokenLaws text) where
  no_steps : (n : ℕ) (r : Reader) (x : Form × Reader) → Fine text (spot r) → ◌≡◌ {A = Answer Fault (Form × Reader)} (got (form [] [], r)) (got x) → Steps text n r x
  no_steps n r x f e =
      rw (← got-inj e) (record { tokens = []; took = took-none f; yields = λ vs ls l. Labels.none; limits = Limits.Labels.none; few = omega arith; sum = omega arith })

  pub steps-sound : (n : ℕ) (r : Reader) (x : Form × Reader) → Fine text (spot r) → steps text n r ≡ got x → Steps text n r x
  unfolding steps
  steps-sound zero r x f e =
      either_way (is text r dot_code) _ _ e
      (λ t e1.
      step (take text 0 r) _ e1 λ s e2 e3.
      step (label text [] (passing true s)) _ e3 λ y e4 e5.
      label-never text [] (passing true s) y (passing-one s) e4)
      (λ t e1. no_steps zero r x f e1)
  steps-sound (suc n) r x f e =
      either_way (is text r dot_code) _ _ e
      (λ t e1.
      step (take text 0 r) _ e1 λ s e2 e3.
      step (label text [] s) _ e3 λ y e4 e5.
      step (steps text n y.1) _ e5 λ g e6 e7.
      let i : (peek text r).code ≡ dot_code = eqb-true (peek text r).code dot_code t in
      let d : Dotted text r s y = dotted L r s y f i e2 e4 in
      let z : Steps text n y.1 g = steps-sound n y.1 g d.took.fine e6 in
      rw (← got-inj e7) (record {
        tokens = peek text r ∷ peek text s ∷ z.tokens;
        took = took-on d.took z.took;
        yields = λ vs ls l. labels-one i d.label.name (d.label.number ls (before z.took l).labels) (z.yields vs ls l);
        limits = Limits.Labels.one d.label.within z.limits;
        few = omega (arith, z.few);
        sum = omega (arith, z.sum, d.sum);
      }))
      (λ t e1. no_steps (suc n) r x f e1)

  pub path-sound : (k extra : ℕ) (r : Reader) (x : Form × Reader) → k ≡ 2 + extra → Fine text (spot r) → path text k r ≡ got x → PathIs text r x.1 extra x.0
  unfolding path
  path-sound k extra r x h f e =
      step (variable text k r) _ e λ y e1 e2.
      step (steps text most_steps y.1) _ e2 λ g e3 e4.
      let v : Variable text k r y = variable-one L k r y f e1 in
      let z : Steps text most_steps y.1 g = steps-sound most_steps y.1 g v.took.fine e3 in
      rw (← got-inj e4) (record {
        rest = z.tokens;
        took = took-on v.took z.took;
        yields = λ vs ls l. path-one v.name (v.number vs (before z.took l).variables) (z.yields vs ls l);
        limits = Limits.Path.path v.within z.few z.limits;
        sum = omega (arith, z.sum, v.sum);
        unpassed = v.unpassed;
      })

  -- the path's variable has been named
  pub path_names : (k : ℕ) (r : Reader) (x : Form × Reader) → Fine text (spot r) → path text k r ≡ got x → Extends (with_name text r.variables (peek text r)) x.1.variables
  unfolding path
  path_names k r x f e =
      step (variable text k r) _ e λ y e1 e2.
      step (steps text most_steps y.1) _ e2 λ g e3 e4.
      let v : Variable text k r y = variable-one L k r y f e1 in
      let z : Steps text most_steps y.1 g = steps-sound most_steps y.1 g v.took.fine e3 in
      rw (← got-inj e4, ← v.names) (names-extend text z.took.variable_names)

  -- ---- operands

  literal-is : (in_c : Bool) (ws : List ℤ) (r : Reader) (x : Form × Reader)
      → (take text (length ws) (passing (outside text (peek text r)) r) >>= λ s. got (form ws (everywhere (peek text r).place ws), s)) ≡ got x
      → ((s : Reader) → take text (length ws) (passing (outside text (peek text r)) r) ≡ got s → One text (length ws) (passing (outside text (peek text r)) r) s)
      → ((vs ls : List Named) → Expression (meaning text vs ls) in_c 6 (peek text r ∷ []) ws (everywhere (peek text r).place ws))
      → ((d : ℕ) → Limits.Expression in_c (suc d) ws) → Operand text in_c r x.1 0 x.0
  unfolding peek
  literal-is in_c ws r x e one y l =
      step (take text (length ws) (passing (outside text (peek text r)) r)) _ e λ s e1 e2.
      let o : One text (length ws) (passing (outside text (peek text r)) r) s = one s e1 in
      rw (← got-inj e2) (record {
        rest = [];
        took = o.took;
        yields = λ vs ls b. y vs ls;
        limits = ((λ d h. leaf l d h), refl);
        sum = omega (arith, o.sum);
        unpassed = or_left r.passed (outside text (peek text r)) o.unpassed;
      })

  number_fits_lem : (r s : Reader) → (peek text r).code ≡ number_code → take text 2 (passing (outside text (peek text r)) r) ≡ got s
      → fits (integer_of (part text (peek text r).place (peek text r).end)) ≡ true
  unfolding outside
  number_fits_lem r s i e =
      by-take text 2 (passing (outside text (peek text r)) r) s e λ p h g.
      let q : outside text (peek text r) ≡ false = or-false r.passed (outside text (peek text r)) p in
      not-false _ (rw (eq-eqb (peek text r).code number_code i) at q)

  pub literal-sound : (in_c : Bool) (r : Reader) (x : Form × Reader) → Fine text (spot r) → literal_at text r (literal text (peek text r)) ≡ got x → Operand text in_c r x.1 0 x.0
  unfolding literal_at literal peek
  literal-sound in_c r x f e =
      cases (eqb (peek text r).code nil_code)
      (λ t. let i : (peek text r).code ≡ nil_code = eqb-true (peek text r).code nil_code t in
      literal-is in_c (pos 20 ∷ []) r x (rw t at e) (λ s e1. take-one L 1 _ s nil_code f i refl e1) (λ vs ls. Expression.nil (peek text r) i) (λ d. Limits.Expression.nil))
      (λ a. cases (eqb (peek text r).code false_code)
      (λ t. let i : (peek text r).code ≡ false_code = eqb-true (peek text r).code false_code t in
      literal-is in_c (pos 21 ∷ []) r x (rw (a, t) at e) (λ s e1. take-one L 1 _ s false_code f i refl e1) (λ vs ls. Expression.no (peek text r) i) (λ d. Limits.Expression.no))
      (λ b. cases (eqb (peek text r).code true_code)
      (λ t. let i : (peek text r).code ≡ true_code = eqb-true (peek text r).code true_code t in
      literal-is in_c (pos 22 ∷ []) r x (rw (a, b, t) at e) (λ s e1. take-one L 1 _ s true_code f i refl e1) (λ vs ls. Expression.yes (peek text r) i) (λ d. Limits.Expression.yes))
      (λ c. cases (eqb (peek text r).code number_code)
      (λ t. let i : (peek text r).code ≡ number_code = eqb-true (peek text r).code number_code t in
      literal-is in_c (pos 23 ∷ integer_of (part text (peek text r).place (peek text r).end) ∷ []) r x (rw (a, b, c, t) at e)
      (λ s e1. take-number L 2 _ s f i (number_fits_lem r s i e1) e1) (λ vs ls. Expression.number (peek text r) i) (λ d. Limits.Expression.integer))
      (λ d. stop≢got (rw (a, b, c, d) at e)))))

  pub path-or-same-sound : (in_c : Bool) (r : Reader) (x : Form × Reader) → Fine text (spot r) → path_or_same text in_c r ≡ got x → Operand text in_c r x.1 0 x.0
  unfolding path_or_same
  path-or-same-sound in_c r x f e =
      step (path text 3 r) _ e λ g e1 e2.
      let p : PathIs text r g.1 1 g.0 = path-sound 3 1 r g refl f e1 in
      either_way (not in_c && is text g.1 identical_code) _ _ e2
      (λ t e3.
      step (take text 0 g.1) _ e3 λ s e4 e5.
      step (path text 2 s) _ e5 λ h e6 e7.
      let i : (peek text g.1).code ≡ identical_code = eqb-true (peek text g.1).code identical_code (and_right (not in_c) _ t) in
      let c : in_c ≡ false = not-true in_c (and_left (not in_c) _ t) in
      let o : One text 0 g.1 s = take-one L 0 g.1 s identical_code p.took.fine i refl e4 in
      let q : PathIs text s h.1 0 h.0 = path-sound 2 0 s h refl o.took.fine e6 in
      rw (← got-inj e7) (record {
        rest = p.rest ++ peek text g.1 ∷ peek text s ∷ q.rest;
        took = took-on p.took (took-on o.took q.took);
        yields = λ vs ls l. Expression.identity (peek text g.1) c (p.yields vs ls (before o.took (before q.took l))) i (q.yields vs ls l);
        limits = ((λ d k. leaf (λ d. Limits.Expression.identity c p.limits q.limits) d k), refl);
        sum = rw (length-append g.0.words h.0.words) (omega (arith, p.sum, o.sum, q.sum));
        unpassed = p.unpassed;
      }))
      (λ t e3. rw (← got-inj e3) (record {
        rest = p.rest;
        took = p.took;
        yields = λ vs ls l. Expression.at (peek text r) (p.yields vs ls l);
        limits = ((λ d k. leaf (λ d. Limits.Expression.at p.limits) d k), refl);
        sum = omega (arith, p.sum);
        unpassed = p.unpassed;
      }))

  pub operand_sound : (in_c : Bool) (r : Reader) (x : Form × Reader) → Fine text (spot r) → operand text in_c r ≡ got x → Operand text in_c r x.1 0 x.0
  unfolding operand
  operand_sound in_c r x f e = either_way (is text r name_code) _ _ e (λ t e1. path-or-same-sound in_c r x f e1) (λ t e1. literal-sound in_c r x f e1)
