-- The marked cells are the target's class, and what the code answers of it. Assumes nothing.
use Rattle.std.specs.Prelude.{Result, Ok, Err}
use mathlib.Core.Path.{◌≡◌, refl, sym, ◌∙◌}
use mathlib.Core.Bool.{Bool, true, false, not, ◌&&◌, ◌||◌}
use mathlib.Core.List.{List, Memᴰ as OneOf}
use mathlib.Core.Logic.{◌⊎◌, inl, inr}
use Prim.Native.Nat.{ℕ, ◌<◌}
use native.Mathlib.Omega.{arith}
use borrow.Author.Tests.{eqb-true, eq-eqb}
use lib.Dec.{eqb}
use lib.IntN.{ℤ}
use lib.ListN.{length, replicate, length-replicate}
use Rattle.words.specs.Answer.{got, stop}
use Rattle.words.specs.Bits.{marked, with_mark}
use Rattle.words.proofs.BitLaws.{none-marked}
use Rattle.tables.specs.declared.Sort.TheVariants.{Identities}
use Rattle.tables.specs.declared.Value.{Value}
use Rattle.tables.specs.declared.Value.TheVariants.{Nil, Bool as Truth, Int, Ref}
use Rattle.tables.specs.Sizes.{locations}
use Rattle.tables.specs.Cells.{Cells}
use Rattle.tables.specs.Kept.{kept_count}
use Rattle.tables.proofs.FindLaws.{kept_in}
use Rattle.tables.proofs.SearchLaws.{cases}
use Rattle.program.specs.declared.Refusal.{Refusal}
use Rattle.rules.specs.State.{Res, refused}
use Rattle.rules.specs.Identities.{Tie, is_node, ties, member, frozen_by, class_of, names, clash_free}
use Rattle.rules.specs.Rules.Identities.{IsNamed, by_tie, backwards, onwards}
use Rattle.rules.proofs.ClassLaws.{or_left, or_right, or_cases, false≢true, class-all, class-target, class-iff}
use Rattle.rules.proofs.IdentityClauses.{node-nil, node-bool, node-int, node-ref}
use Rattle.rules.proofs.PhaseLaws.{names-iff}
use Rattle.phases.specs.declared.Passed.{Passed}
use Rattle.phases.specs.Sizes.{marks_words}
use Rattle.phases.specs.Tying.{identity_at, tie_no, joins, named_by, Found, Even, Grows, Walked, Passes, PassesOn}
use Rattle.phases.specs.Freezing.{free_ties}
use Rattle.phases.specs.Classing.{class_for, Unmarked, Finds, Classes}
use Rattle.phases.proofs.CountLaws.{many-least}
use Rattle.phases.proofs.MarkLaws.{both_ways, mark-long, cells-size, cells-member, first-only, first-there, first-size, grows_none, grows_then}
use Rattle.phases.proofs.TieLaws.{ties-found, ties-lost, ties-have, ties-number}
use Rattle.phases.proofs.FreeLaws.{free-clash, ties-free, ties-none-free}

-- references and nil, and the others
pub node-of : {v : Value} → (v ≡ Nil) ⊎ ((r : ℕ) × v ≡ Ref r) → true ≡ is_node v
node-of (inl e) = rw e (sym node-nil)
node-of (inr (r, e)) = rw e (sym (node-ref r))

pub node-other : (v : Value) → (v ≡ Nil → ⊥) → ((r : ℕ) → v ≡ Ref r → ⊥) → false ≡ is_node v
node-other Nil n r = absurd (n refl)
node-other (Truth b) n r = sym (node-bool b)
node-other (Int i) n r = sym (node-int i)
node-other (Ref k) n r = absurd (r k refl)

-- marks as they are made
pub unmarked-none : Unmarked (replicate marks_words 0)
unmarked-none = record { long = length-replicate {A = ℕ} marks_words 0; none = none-marked marks_words }

classed-refuses : {class : List ℕ} {f : Refusal} {m : Res (List ℕ)} → m ≡ stop f → Classes class (Err f) m
classed-refuses {f = f} e = record {
  refuses = λ g h. let u : f ≡ g = cc in rw (← u) e;
  finds = λ h. cc;
}

classed-finds : {class : List ℕ} {m : Res (List ℕ)} → Finds class m → Classes class (Ok tt) m
classed-finds f = record { refuses = λ g h. cc; finds = λ h. f }

module _ (program kept : List ℤ) (S : Cells) (word : List ℤ) (target : ℕ) (v : Value) where
  abbrev T : ℕ → Res Tie
  T = tie_no program kept S

  abbrev n : ℕ
  n = kept_count kept Identities

  -- ---- what the ties name

  module _ (ts : List Tie) (followed : ties program kept S ≡ got ts) where
    named_here : (m : Res Tie) (t : Tie) → m ≡ got t → named_by target m ≡ true → OneOf t ts → IsNamed ts target
    named_here m t e q o = or_cases (eqb t.one target) (eqb t.two target) (rw e at q)
        (λ w. (t, (o, inl (eqb-true t.one target w)))) (λ w. (t, (o, inr (eqb-true t.two target w))))

    names-are : {class class' : List ℕ} {named again : Bool} → Walked T n target class class' named again → named ≡ names ts target
    names-are {named = named} w = both_ways named (names ts target)
        (λ e. let k = w.named e in let t = w.found k.0 k.1.0 in
        (names-iff ts target).1 (named_here (T k.0) t.0 t.1 k.1.1 (ties-have program kept S ts followed k.0 k.1.0 t.0 t.1)))
        (λ e. cases named (λ q. q) (λ q. no_name q ((names-iff ts target).0 e)))
      where
        no_name : named ≡ false → IsNamed ts target → named ≡ true
        no_name q (t, (o, x)) =
            let k = ties-number program kept S ts followed t o in
            let z : named_by target (T k.0) ≡ false = w.unnamed q k.0 k.1.0 in
            let y : eqb t.one target || eqb t.two target ≡ false = rw k.1.1 at z in
            elim x [
              | inl e ↦ false≢true (sym y ∙ or_left (eqb t.one target) (eqb t.two target) (eq-eqb t.one target e))
              | inr e ↦ false≢true (sym y ∙ or_right (eqb t.one target) (eqb t.two target) (eq-eqb t.two target e))
            ]

    -- ---- marks that grew from the target's, as far as ties reach

    module _ {clear : List ℕ} (u : Unmarked clear) (low : target < locations) {class : List ℕ} (g : Grows T n (with_mark clear target) class) (closed : Even T n (marked class)) where
      abbrev inside : ℕ → Bool
      inside l = member l (class_of ts target)

      class-even : Even T n inside
      class-even k b t e =
          let o = ties-have program kept S ts followed k b t e in
          both_ways (inside t.one) (inside t.two)
          (λ q. (class-iff ts target t.two).1 (onwards ((class-iff ts target t.one).0 q) (by_tie t o)))
          (λ q. (class-iff ts target t.one).1 (onwards ((class-iff ts target t.two).0 q) (backwards (by_tie t o))))

      pub class-marks : (l : ℕ) → marked class l ≡ inside l
      class-marks l = both_ways (marked class l) (inside l)
          (g.within inside class-even (λ k e. rw (first-only clear u.long u.none target k e) (class-target ts target)) l)
          (class-all (λ k. marked class k ≡ true) ts target
          (λ t o. let k = ties-number program kept S ts followed t o in let q = closed k.0 k.1.0 t k.1.1 in (λ e. sym q ∙ e, λ e. q ∙ e))
          (g.keeps target (first-there clear u.long u.none target low)) l)

      class-long : length class ≡ marks_words
      class-long = g.long ∙ mark-long clear u.long target

      class-finds : {m : Res (List ℕ)} → m ≡ got (class_of ts target) → Finds class m
      class-finds e = record {
        list = class_of ts target;
        is = e;
        long = class-long;
        few = omega (arith, cells-size class, g.few, first-size clear u.long u.none target, many-least (λ k. joins class (T k)) 0 n, kept_in kept Identities);
        marks = class-marks;
        same = λ l. cells-member class class-long l ∙ class-marks l;
      }

  -- ---- where no tie is kept

  pub class-alone : {clear class : List ℕ} → Unmarked clear → target < locations → class ≡ with_mark clear target → n ≡ 0 → Classes class (Ok tt) (class_for program kept S word target v)
  unfolding class_for
  class-alone {clear = clear} {class = class} u low e none =
      let no_tie : (X : ℕ → Type 0) (k : ℕ) → k < n → X k = λ X k b. let z : ⊥ = omega arith in absurd z in
      let w = ties-found program kept S (no_tie (λ k. (t : Tie) × (T k ≡ got t))) in
      let g : Grows T n (with_mark clear target) class = rw e (grows_none (with_mark clear target)) in
      let c : Even T n (marked class) = no_tie (λ k. (t : Tie) → T k ≡ got t → marked class t.one ≡ marked class t.two) in
      let unnamed : names w.0 target ≡ false = cases (names w.0 target)
      (λ q. let x = (names-iff w.0 target).0 q in let k = ties-number program kept S w.0 w.1 x.0 x.1.0 in no_tie (λ j. names w.0 target ≡ false) k.0 k.1.0) (λ q. q) in
      let free : clash_free S (frozen_by w.0) v (class_of w.0 target) ≡ true =
      sym (free-clash S (marked class) v (class_of w.0 target) (class-marks w.0 w.1 u low g c) (frozen_by w.0)) ∙ sym (ties-free S (marked class) v program kept w.0 w.1) ∙ (rw none (ties-none-free S (marked class) v (identity_at program kept) 0)) in
      classed-finds (class-finds w.0 w.1 u low g c (rw (w.1, unnamed, free)))

  -- ---- where ties are kept

  module _ {count : ℕ} (kept-so-many : count ≡ n) {clear first class : List ℕ} (u : Unmarked clear) (low : target < locations) (start : first ≡ with_mark clear target) {r : Result Passed Refusal} (p : Passes T count false target first class r) where
    pub class-lost : {class' : List ℕ} {f : Refusal} → r ≡ Err f → Classes class' (Err f) (class_for program kept S word target v)
    unfolding class_for
    class-lost {f = f} e =
        let s = p.lost f e in
        classed-refuses (rw (ties-lost program kept S f s.at (omega (arith, s.inside)) s.is (s.first refl)))

    module _ {x : Passed} (e : r ≡ Ok x) where
      pub walked-over : Walked T n target first class x.names x.again
      walked-over = rw kept-so-many at (p.over x e)

      pub leads-on : Found T count
      leads-on = (p.over x e).found

      abbrev list : List Tie
      list = (ties-found program kept S walked-over.found).0

      followed : ties program kept S ≡ got list
      followed = (ties-found program kept S walked-over.found).1

      abbrev node : Bool
      node = not (names list target) || is_node v

      module _ {is : Bool} (what : is ≡ is_node v) where
        node-is : node ≡ not (x.names && not is)
        node-is = rw (← (names-are list followed walked-over), ← what) (by x.names is)
          where
            by : (a b : Bool) → (not a || b) ≡ not (a && not b)
            by true true = refl
            by true false = refl
            by false b = refl

        pub class-unfit : {class' : List ℕ} → x.names && not is ≡ true → Classes class' (Err (refused 13 word)) (class_for program kept S word target v)
        unfolding class_for
        class-unfit q = classed-refuses (rw (followed, node-is, q))

        module _ (fits : x.names && not is ≡ false) {class' : List ℕ} (o : PassesOn T count x.again class class') {free : Bool} (f : free ≡ free_ties S (marked class') v (identity_at program kept) 0 count) where
          all-grows : Grows T n (with_mark clear target) class'
          all-grows = rw start at (grows_then walked-over.grows (rw kept-so-many at o.grows))

          all_closed : Even T n (marked class')
          all_closed = rw kept-so-many at (o.closed (rw (← kept-so-many) at walked-over.closed))

          free-is : clash_free S (frozen_by list) v (class_of list target) ≡ free
          free-is = sym (free-clash S (marked class') v (class_of list target) (class-marks list followed u low all-grows all_closed) (frozen_by list))
              ∙ sym (ties-free S (marked class') v program kept list followed) ∙ sym (rw kept-so-many at f)

          pub class-clashes : free ≡ false → Classes class' (Err (refused 12 word)) (class_for program kept S word target v)
          unfolding class_for
          class-clashes q = classed-refuses (rw (followed, node-is, fits, free-is, q))

          pub class-found : free ≡ true → Classes class' (Ok tt) (class_for program kept S word target v)
          unfolding class_for
          class-found q = classed-finds (class-finds list followed u low all-grows all_closed (rw (followed, node-is, fits, free-is, q)))
