-- Cells that take one value, in whatever order, and that hold again what they held. Assumes nothing.
use mathlib.Core.Path.{◌≡◌, refl, sym, ap, ◌∙◌}
use mathlib.Core.Bool.{true}
use mathlib.Core.List.{List, [], ◌∷◌, ◌++◌, append_assoc}
use Prim.Native.Nat.{ℕ, suc, ◌+◌, ◌-◌, ◌*◌, ◌≤◌, ◌<◌}
use native.Mathlib.Omega.{arith}
use native.Mathlib.Decide.{ℕ_discrete}
use lib.IntN.{ℤ}
use lib.ListN.{length, set}
use lib.Seq.{set_out}
use Rattle.std.proofs.lemmas.List.{append-nil, length_push}
use Rattle.std.proofs.Common.{length-append}
use Rattle.words.specs.Bits.{marked, next_marked, marked_from}
use Rattle.words.proofs.BitLaws.{next-least, next-most, next-marked, next-from, from-none, from_more}
use Rattle.tables.specs.declared.Value.{Value}
use Rattle.tables.specs.declared.Cell.{Cell}
use Rattle.tables.specs.Values.{cell_of}
use Rattle.tables.specs.Sizes.{locations}
use Rattle.tables.specs.Cells.{Cells, cell_at, put_cell, pair_at, put_pair}
use Rattle.tables.proofs.CellLaws.{Clear, put-put, put-swap, put_back, put-lengths, read-other, pair-length, pair_same, pair-other}
use Rattle.rules.specs.Identities.{member, put_all}
use Rattle.rules.proofs.IdentityClauses.{put-all-none, put-all-more}
use Rattle.rules.proofs.ClassLaws.{member-none, member-cons, member-head, member-tail}
use Rattle.phases.specs.Sizes.{marks_words}
use Rattle.phases.specs.Taking.{cells_of, held_again, Gives}

module _ (v : Value) where
  put-twice : (S : Cells) (l k : ℕ) → put_cell (put_cell S l (cell_of v)) k (cell_of v) ≡ put_cell (put_cell S k (cell_of v)) l (cell_of v)
  put-twice S l k = go (ℕ_discrete k l)
    where
      go : Dec (k ≡ l) → put_cell (put_cell S l (cell_of v)) k (cell_of v) ≡ put_cell (put_cell S k (cell_of v)) l (cell_of v)
      go (yes e) = rw e
      go (no n) = put-swap S l k (cell_of v) (cell_of v) n

  -- one cell before others, or after them
  put-after : (S : Cells) (l : ℕ) (ls : List ℕ) → put_all (put_cell S l (cell_of v)) ls v ≡ put_cell (put_all S ls v) l (cell_of v)
  put-after S l [] = rw (put-all-none (put_cell S l (cell_of v)) v, put-all-none S v)
  put-after S l (k ∷ ls) =
      rw (put-all-more (put_cell S l (cell_of v)) k ls v, put-all-more S k ls v, put-twice S l k) (put-after (put_cell S k (cell_of v)) l ls)

  -- one that is among the others changes nothing
  put-among : (S : Cells) (l : ℕ) (ls : List ℕ) → member l ls ≡ true → put_all (put_cell S l (cell_of v)) ls v ≡ put_all S ls v
  put-among S l [] e = member-none l e
  put-among S l (k ∷ ls) e =
      rw (put-all-more (put_cell S l (cell_of v)) k ls v, put-all-more S k ls v)
      (member-cons l k ls e
      (λ q. rw (q, put-put S k (cell_of v) (cell_of v)))
      (λ m. rw (put-twice S l k) (put-among (put_cell S k (cell_of v)) l ls m)))

  put_both : (S : Cells) (ls ks : List ℕ) → put_all (put_all S ls v) ks v ≡ put_all (put_all S ks v) ls v
  put_both S ls [] = rw (put-all-none (put_all S ls v) v, put-all-none S v)
  put_both S ls (k ∷ ks) =
      rw (put-all-more (put_all S ls v) k ks v, put-all-more S k ks v, ← put-after S k ls) (put_both (put_cell S k (cell_of v)) ls ks)

  put-within : (S : Cells) (ls ks : List ℕ) → ((l : ℕ) → member l ls ≡ true → member l ks ≡ true) → put_all (put_all S ls v) ks v ≡ put_all S ks v
  put-within S [] ks h = rw (put-all-none S v)
  put-within S (l ∷ ls) ks h =
      rw (put-all-more S l ls v)
      (put-within (put_cell S l (cell_of v)) ls ks (λ k e. h k (member-tail k l ls e)) ∙ put-among S l ks (h l (member-head l l ls refl)))

  -- two lists with the same members
  pub put-members : (S : Cells) (ls ks : List ℕ) → ((l : ℕ) → member l ls ≡ member l ks) → put_all S ls v ≡ put_all S ks v
  put-members S ls ks h =
      sym (put-within S ks ls (λ l e. h l ∙ e)) ∙ put_both S ks ls ∙ put-within S ls ks (λ l e. sym (h l) ∙ e)

  -- one cell more, behind the others
  put_last : (S : Cells) (ls : List ℕ) (l : ℕ) → put_all S (ls ++ (l ∷ [])) v ≡ put_cell (put_all S ls v) l (cell_of v)
  put_last S [] l = rw (put-all-more S l [] v, put-all-none (put_cell S l (cell_of v)) v, put-all-none S v)
  put_last S (k ∷ ls) l = rw (put-all-more S k (ls ++ (l ∷ [])) v, put-all-more S k ls v) (put_last (put_cell S k (cell_of v)) ls l)

-- ---- a cell that is laid by

-- a cell is laid by in two words; past the end there are none
pub laid-past : (saved : List ℤ) (i : ℕ) (c : Cell) → length saved ≤ i → saved ≡ put_pair saved (2 * i) c
laid-past saved i c h = sym (rw (set_out saved (2 * i) c.kind (omega arith)) (set_out saved (2 * i + 1) c.payload (omega arith)))

pub laid : (before : List ℤ) (i : ℕ) (c : Cell) {between after : List ℤ} {kind payload : ℤ}
    → kind ≡ c.kind → payload ≡ c.payload → between ≡ set before (2 * i) kind → after ≡ set between (2 * i + 1) payload → after ≡ put_pair before (2 * i) c
laid before i c k p a b = rw (← k, ← p, ← a) b

-- ---- cells that hold again what was laid by

module _ (saved : List ℤ) where
  again-none : (i : ℕ) (S : Cells) → held_again saved [] i S ≡ S
  unfolding held_again
  again-none i S = refl

  again-more : (l : ℕ) (ls : List ℕ) (i : ℕ) (S : Cells) → held_again saved (l ∷ ls) i S ≡ held_again saved ls (i + 1) (put_cell S l (pair_at saved (2 * i)))
  unfolding held_again
  again-more l ls i S = refl

  again-last : (ls : List ℕ) (l i : ℕ) (S : Cells) → held_again saved (ls ++ (l ∷ [])) i S ≡ put_cell (held_again saved ls i S) l (pair_at saved (2 * (i + length ls)))
  again-last [] l i S = let z : i + 0 ≡ i = omega arith in rw (again-more l [] i S, again-none (i + 1) (put_cell S l (pair_at saved (2 * i))), again-none i S, z)
  again-last (k ∷ ls) l i S =
      let z : i + 1 + length ls ≡ i + suc (length ls) = omega arith in
      rw (again-more k (ls ++ (l ∷ [])) i S, again-more k ls i S) (again-last ls l (i + 1) (put_cell S k (pair_at saved (2 * i))) ∙ rw z)

  -- another cell stays, and may be put before or after
  again-other : (ls : List ℕ) (l i : ℕ) (S : Cells) (c : Cell) → ((k : ℕ) → member k ls ≡ true → k ≡ l → ⊥) → held_again saved ls i (put_cell S l c) ≡ put_cell (held_again saved ls i S) l c
  again-other [] l i S c h = rw (again-none i (put_cell S l c), again-none i S)
  again-other (k ∷ ls) l i S c h =
      rw (again-more k ls i (put_cell S l c), again-more k ls i S, put-swap S l k c (pair_at saved (2 * i)) (λ e. h k (member-head k k ls refl) e))
      (again-other ls l (i + 1) (put_cell S k (pair_at saved (2 * i))) c (λ j m. h j (member-tail j k ls m)))

  again-cell : (ls : List ℕ) (l i : ℕ) (S : Cells) → ((k : ℕ) → member k ls ≡ true → k ≡ l → ⊥) → cell_at (held_again saved ls i S) l ≡ cell_at S l
  again-cell [] l i S h = rw (again-none i S)
  again-cell (k ∷ ls) l i S h =
      rw (again-more k ls i S) (again-cell ls l (i + 1) (put_cell S k (pair_at saved (2 * i))) (λ j m. h j (member-tail j k ls m)) ∙ read-other S k l (pair_at saved (2 * i)) (λ e. h k (member-head k k ls refl) (sym e)))

  -- what is laid by later changes nothing of it
  again-before : (ls : List ℕ) (i k : ℕ) (c : Cell) (S : Cells) → i + length ls ≤ k → held_again (put_pair saved (2 * k) c) ls i S ≡ held_again saved ls i S
  unfolding held_again
  again-before [] i k c S h = refl
  again-before (l ∷ ls) i k c S h =
      let d : Clear (2 * k) (2 * i) = record { starts = λ e. omega arith; after = λ e. omega arith; before = λ e. omega arith } in
      rw (pair-other saved (2 * k) c (2 * i) d) (again-before ls (i + 1) k c (put_cell S l (pair_at saved (2 * i))) (omega arith))

-- ---- the marked cells from l on

module _ (class : List ℕ) (long : length class ≡ marks_words) where
  pub next_low : (l : ℕ) → l ≤ locations → next_marked class l ≤ locations
  next_low l h = omega (arith, long, next-most class l (omega (arith, long)))

  pub next-there : (l : ℕ) → next_marked class l < locations → marked class (next_marked class l) ≡ true
  next-there l h = next-marked class l (omega (arith, long))

  pub next-cells : (l : ℕ) → l ≤ locations → marked_from class (next_marked class l) (locations - next_marked class l) ≡ marked_from class l (locations - l)
  next-cells l h =
      let z : 64 * length class ≡ locations = omega (arith, long) in
      let m = next_marked class l in
      sym (ap (λ x. marked_from class m (x - m)) z) ∙ next-from class l (omega (arith, long)) ∙ ap (λ x. marked_from class l (x - l)) z

-- ---- the loop in which the cells take the value: those of `done` have it, the rest are marked from l on

pub record Giving (S Z : Cells) (class : List ℕ) (before saved : List ℤ) (v : Value) (i l : ℕ) : Type 0 where
  pub done : List ℕ
  pub split : done ++ marked_from class l (locations - l) ≡ cells_of class
  pub counted : length done ≡ i
  pub rising : (k : ℕ) → member k done ≡ true → k < l
  pub few : i ≤ l
  pub inside : l ≤ locations
  pub here : l < locations → marked class l ≡ true
  pub environment : length Z.environment ≡ length S.environment
  pub heap : length Z.heap ≡ length S.heap
  pub long : length saved ≡ length before
  pub is : Z ≡ put_all S done v
  pub back : held_again saved done 0 Z ≡ S

pub giving-starts : {S : Cells} {class : List ℕ} {saved : List ℤ} {v : Value} {l : ℕ} → length class ≡ marks_words → l ≡ next_marked class 0 → Giving S S class saved saved v 0 l
giving-starts {S = S} {class = class} {saved = saved} {v = v} long e = rw e (record {
  done = [];
  split = next-cells class long 0 (omega arith);
  counted = refl;
  rising = λ k m. member-none k m;
  few = omega arith;
  inside = next_low class long 0 (omega arith);
  here = next-there class long 0;
  environment = refl;
  heap = refl;
  long = refl;
  is = sym (put-all-none S v);
  back = again-none saved 0 S;
})

member-last {ℓ} : {X : Type ℓ} (k : ℕ) (ls : List ℕ) (l : ℕ) → member k (ls ++ (l ∷ [])) ≡ true → (member k ls ≡ true → X) → (k ≡ l → X) → X
member-last k [] l m f g = member-cons k l [] m g (λ e. member-none k e)
member-last k (j ∷ ls) l m f g = member-cons k j (ls ++ (l ∷ [])) m (λ e. f (member-head k j ls e)) (λ e. member-last k ls l e (λ q. f (member-tail k j ls q)) g)

module _ {S Z : Cells} {class : List ℕ} {before saved : List ℤ} {v : Value} {i l : ℕ} (inv : Giving S Z class before saved v i l) where
  giving-rest : l < locations → marked_from class l (locations - l) ≡ l ∷ marked_from class (l + 1) (locations - (l + 1))
  giving-rest h = from_more class l locations h (inv.here h)

  module _ (turn : l < locations) (long : length class ≡ marks_words) (room : 2 * length (cells_of class) ≤ length before) where
    pub giving-room : 2 * i + 1 < length saved
    giving-room =
        let w : length inv.done + suc (length (marked_from class (l + 1) (locations - (l + 1)))) ≡ length (cells_of class)
        = sym (length-append inv.done (l ∷ marked_from class (l + 1) (locations - (l + 1)))) ∙ rw (giving-rest turn) at (ap length inv.split) in
        omega (arith, inv.counted, inv.long)

    pub giving-goes-on : {Y : Cells} {old c : Cell} {after : List ℤ} {next : ℕ} → old ≡ cell_at Z l → after ≡ put_pair saved (2 * i) old → c ≡ cell_of v → Y ≡ put_cell Z l c → next ≡ next_marked class (l + 1)
        → Giving S Y class before after v (i + 1) next
    giving-goes-on {Y = Y} {old = old} {c = c} {after = after} o a k y e = rw e (record {
      done = inv.done ++ (l ∷ []);
      split = append_assoc inv.done (l ∷ []) (marked_from class (next_marked class (l + 1)) (locations - next_marked class (l + 1)))
          ∙ rw (next-cells class long (l + 1) (omega arith), ← (giving-rest turn)) inv.split;
      counted = length_push inv.done l ∙ rw inv.counted;
      rising = λ j m. member-last j inv.done l m (λ q. omega (arith, inv.rising j q, next-least class (l + 1))) (λ q. omega (arith, next-least class (l + 1)));
      few = omega (arith, inv.few, next-least class (l + 1));
      inside = next_low class long (l + 1) (omega arith);
      here = next-there class long (l + 1);
      environment = rw y ((put-lengths Z l c).0 ∙ inv.environment);
      heap = rw y ((put-lengths Z l c).1 ∙ inv.heap);
      long = rw a (pair-length saved (2 * i) old ∙ inv.long);
      is = y ∙ rw (k, inv.is) (sym (put_last v S inv.done l));
      back = held;
    })
      where
        other : (j : ℕ) → member j inv.done ≡ true → j ≡ l → ⊥
        other j m q = omega (arith, inv.rising j m)

        same-cell : cell_at Z l ≡ cell_at S l
        same-cell = sym (again-cell saved inv.done l 0 Z other) ∙ ap (λ X. cell_at X l) inv.back

        held : held_again after (inv.done ++ (l ∷ [])) 0 Y ≡ S
        held =
            let z : 0 + length inv.done ≡ i = omega (arith, inv.counted) in
            again-last after inv.done l 0 Y
            ∙ rw (z, a, o, pair_same saved (2 * i) (cell_at Z l) giving-room, again-before saved inv.done 0 i (cell_at Z l) Y (omega (arith, inv.counted)), y, again-other saved inv.done l 0 Z c other, inv.back, same-cell)
            (put_back S l c)

  pub giving-ends : locations ≤ l → Gives S Z class saved v
  giving-ends h =
      let w : inv.done ≡ cells_of class = sym (append-nil inv.done) ∙ rw (from-none class l locations h) at inv.split in
      record { is = rw (← w) inv.is; back = rw (← w) inv.back }

-- ---- the loop in which they hold again what was laid by

pub record TakingBack (S Z : Cells) (class : List ℕ) (saved : List ℤ) (i l : ℕ) : Type 0 where
  pub few : i ≤ l
  pub inside : l ≤ locations
  pub here : l < locations → marked class l ≡ true
  pub environment : length Z.environment ≡ length S.environment
  pub heap : length Z.heap ≡ length S.heap
  pub rest : held_again saved (marked_from class l (locations - l)) i Z ≡ held_again saved (cells_of class) 0 S

pub taking-starts : {S : Cells} {class : List ℕ} {saved : List ℤ} {l : ℕ} → length class ≡ marks_words → l ≡ next_marked class 0 → TakingBack S S class saved 0 l
taking-starts {S = S} {class = class} {saved = saved} long e = rw e (record {
  few = omega arith;
  inside = next_low class long 0 (omega arith);
  here = next-there class long 0;
  environment = refl;
  heap = refl;
  rest = rw (next-cells class long 0 (omega arith));
})

module _ {S Z : Cells} {class : List ℕ} {saved : List ℤ} {i l : ℕ} (inv : TakingBack S Z class saved i l) where
  pub taking-goes-on : {Y : Cells} {c : Cell} {next : ℕ} → l < locations → length class ≡ marks_words → c ≡ pair_at saved (2 * i) → Y ≡ put_cell Z l c → next ≡ next_marked class (l + 1) → TakingBack S Y class saved (i + 1) next
  taking-goes-on {Y = Y} {c = c} turn long k y e = rw e (record {
    few = omega (arith, inv.few, next-least class (l + 1));
    inside = next_low class long (l + 1) (omega arith);
    here = next-there class long (l + 1);
    environment = rw y ((put-lengths Z l c).0 ∙ inv.environment);
    heap = rw y ((put-lengths Z l c).1 ∙ inv.heap);
    rest = let w : held_again saved (marked_from class (l + 1) (locations - (l + 1))) (i + 1) (put_cell Z l (pair_at saved (2 * i))) ≡ held_again saved (cells_of class) 0 S
        = sym (again-more saved l (marked_from class (l + 1) (locations - (l + 1))) i Z) ∙ rw (from_more class l locations turn (inv.here turn)) at inv.rest in
        rw (next-cells class long (l + 1) (omega arith), y, k) w;
  })

  pub taking-ends : locations ≤ l → Z ≡ held_again saved (cells_of class) 0 S
  taking-ends h = sym (again-none saved i Z) ∙ rw (from-none class l locations h) at inv.rest
