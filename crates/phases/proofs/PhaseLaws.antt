-- The class of a target, the two phases, and a new record that is taken back. Assumes nothing.
use mathlib.Core.Path.{◌≡◌, refl, sym, ap, ◌∙◌}
use mathlib.Core.Bool.{Bool, true, false, not, ◌&&◌, ◌||◌}
use mathlib.Core.List.{List, [], ◌++◌}
use Rattle.std.specs.Prelude.{Some, None, Result, Ok, Err}
use Prim.Native.Nat.{ℕ, ◌-◌, ◌*◌, ◌≤◌, ◌<◌}
use native.Mathlib.Omega.{arith}
use borrow.Author.Tests.{lt-ltb, le-ltb}
use lib.IntN.{ℤ}
use lib.ListN.{length, drop}
use Rattle.words.specs.Words.{word_at, number_at}
use Rattle.words.specs.Bits.{marked}
use Rattle.words.specs.Answer.{got, stop, ◌>>=◌, ◌>>◌, want}
use Rattle.tables.specs.declared.Value.{Value}
use Rattle.tables.specs.declared.Value.TheVariants.{Ref}
use Rattle.tables.specs.Sizes.{variables, most_records, most_fields, locations}
use Rattle.tables.specs.Cells.{Cells, cells}
use Rattle.tables.specs.Records.{record_count, with_record, laid_by, brought_back}
use Rattle.tables.proofs.SearchLaws.{and_left, and_right, and-true}
use Rattle.tables.proofs.RecordLaws.{add_back, add_same}
use Rattle.program.specs.declared.Refusal.{Refusal}
use Rattle.program.specs.Forms.{expression_depth}
use Rattle.program.specs.Reading.{number, read_path, after}
use Rattle.program.proofs.NumberLaws.{number_fits_lem}
use Rattle.rules.specs.State.{State, Res, refused, reads}
use Rattle.rules.specs.Paths.{Way, way_at}
use Rattle.rules.specs.Evaluation.{evaluate}
use Rattle.rules.specs.Identities.{Tie, is_node, ties, member, frozen_by, class_of, names, clash_free, put_all, identity_phase}
use Rattle.rules.specs.Proposals.{settle}
use Rattle.rules.specs.Statements.{Left, value_phase, do_assign, field_words, do_new}
use Rattle.rules.proofs.WayLaws.{way-below}
use Rattle.rules.proofs.ClassLaws.{or_left, or_right, or_cases, member-none}
use Rattle.rules.proofs.PhaseLaws.{member-append, clash-iff}
use Rattle.rules.proofs.IdentityClauses.{phase-is}
use Rattle.rules.proofs.StatementClauses.{value-phase-is, assign-is, new_is}
use Rattle.expressions.specs.declared.Named.{Named}
use Rattle.expressions.specs.Told.{named_of}
use Rattle.proposals.specs.Told.{settled_of, settled_cells, Settles}
use Rattle.phases.specs.declared.Done.{Done}
use Rattle.phases.specs.Told.{done_of, done_state, Does}
use Rattle.phases.specs.Taking.{cells_of, held_again, Gives}
use Rattle.phases.specs.Freezing.{free_way}
use Rattle.phases.specs.Classing.{class_for, Classes, gives, gives_new}
use Rattle.phases.proofs.MarkLaws.{both_ways}
use Rattle.phases.proofs.TieLaws.{NamedAt, named-lost, named-at}
use Rattle.phases.proofs.FreeLaws.{free-clash, way-free}
use Rattle.phases.proofs.PutLaws.{put-members}

-- the cells, and the constraints beside them
abbrev pub state_of : Cells → List ℤ → State
state_of S kept = record { cells = S; kept = kept }

-- ---- a statement that is refused, or done

pub refuses : {S : State} {m : Res Left} {f : Refusal} → m ≡ stop f → Does S S (Err f) m
refuses e = rw e (record { is = refl; leaves = refl })

pub does-same : {S Z : State} {r : Result Done Refusal} {m o : Res Left} → m ≡ o → Does S Z r m → Does S Z r o
does-same e d = rw e at d

-- what is accepted leaves the same tables, whatever stood before
pub accepts-over : {S T Z : State} {r : Result Done Refusal} {m : Res Left} {x : Done} → Does S Z r m → r ≡ Ok x → Does T Z (Ok x) m
accepts-over {S = S} {T = T} {Z = Z} {m = m} d h = by m (sym h ∙ d.is) d.leaves
  where
    by : {x : Done} (o : Res Left) → Ok x ≡ done_of o → Z ≡ done_state S o → Does T Z (Ok x) o
    by (got l) e z = record { is = e; leaves = z }
    by (stop f) e z = cc

pub record NotDone (S Z : State) (f : Refusal) (m : Res Left) : Type 0 where
  pub is : m ≡ stop f
  pub stays : Z ≡ S

pub not_done : {S Z : State} {r : Result Done Refusal} {m : Res Left} {f : Refusal} → Does S Z r m → r ≡ Err f → NotDone S Z f m
not_done {S = S} {Z = Z} {m = m} d h = by m (sym h ∙ d.is) d.leaves
  where
    by : {f : Refusal} (o : Res Left) → Err f ≡ done_of o → Z ≡ done_state S o → NotDone S Z f o
    by (got l) e z = cc
    by (stop g) e z = record { is = cc; stays = z }

-- ---- the value phase

module _ (program kept p : List ℤ) (target : ℕ) (ws : List ℤ) {Z Y : Cells} {r : Result ℕ Refusal}
    (e : Settles Z Y r (settle program kept (record { own = None; target = Some target; room = true }) p Z ws)) where
  value-takes : {S : Cells} {left : ℕ} → r ≡ Ok left → Does (state_of S kept) (state_of Y kept) (Ok (record { unread = left; accepted = 1 })) (value_phase program kept p target Z ws)
  value-takes {S = S} h =
      rw (value-phase-is program kept p target Z ws)
      (by (settle program kept (record { own = None; target = Some target; room = true }) p Z ws) (sym h ∙ e.is) e.leaves)
    where
      by : {left : ℕ} (m : Res (Cells × List ℤ)) → Ok left ≡ settled_of m → Y ≡ settled_cells Z m
          → Does (state_of S kept) (state_of Y kept) (Ok (record { unread = left; accepted = 1 })) (m >>= λ x. got (record { state = record { cells = x.0; kept = kept }; unread = x.1; accepted = 1 }))
      by {left = left} (got x) h l = let q : left ≡ length x.1 = cc in record { is = rw q; leaves = rw l }
      by (stop f) h l = cc

  value-refuses : {f : Refusal} → r ≡ Err f → (value_phase program kept p target Z ws ≡ stop f) × (Y ≡ Z)
  value-refuses h =
      rw (value-phase-is program kept p target Z ws)
      (by (settle program kept (record { own = None; target = Some target; room = true }) p Z ws) _ (sym h ∙ e.is) e.leaves)
    where
      by : {f : Refusal} (m : Res (Cells × List ℤ)) (k : Cells × List ℤ → Res Left) → Err f ≡ settled_of m → Y ≡ settled_cells Z m → ((m >>= k) ≡ stop f) × (Y ≡ Z)
      by (got x) k h l = cc
      by {f = f} (stop g) k h l = let a : g ≡ f = cc in (rw a, l)

  -- ---- the cells of a class take the value, and then the value phase

  module _ {S : Cells} {class : List ℕ} {saved : List ℤ} {v : Value} (g : Gives S Z class saved v) where
    pub move-takes : {left : ℕ} → r ≡ Ok left
        → Does (state_of S kept) (state_of Y kept) (Ok (record { unread = left; accepted = 1 })) (value_phase program kept p target (put_all S (cells_of class) v) ws)
    move-takes h = rw (← g.is) (value-takes h)

    pub move-refuses : {X : Cells} {f : Refusal} → r ≡ Err f → X ≡ held_again saved (cells_of class) 0 Y
        → Does (state_of S kept) (state_of X kept) (Err f) (value_phase program kept p target (put_all S (cells_of class) v) ws)
    move-refuses {X = X} h u =
        let x : X ≡ S = u ∙ rw (value-refuses h).1 g.back in
        rw (x, ← g.is) (refuses (value-refuses h).0)

-- ---- the identity phase is the class, what its target's prefix freezes, and then the cells that take the value

clash-both : (S : Cells) (a b : List ℕ) (v : Value) (c : List ℕ) → clash_free S (a ++ b) v c ≡ (clash_free S a v c && clash_free S b v c)
clash-both S a b v c = both_ways (clash_free S (a ++ b) v c) (clash_free S a v c && clash_free S b v c)
    (λ e. and-true (clash_free S a v c) (clash_free S b v c)
    ((clash-iff S a v c).1 (λ l m n. (clash-iff S (a ++ b) v c).0 e l m ((member-append l a b).1 (or_left (member l a) (member l b) n))))
    ((clash-iff S b v c).1 (λ l m n. (clash-iff S (a ++ b) v c).0 e l m ((member-append l a b).1 (or_right (member l a) (member l b) n)))))
    (λ e. (clash-iff S (a ++ b) v c).1 (λ l m n. or_cases (member l a) (member l b) ((member-append l a b).0 n)
    (λ q. (clash-iff S a v c).0 (and_left (clash_free S a v c) (clash_free S b v c) e) l m q)
    (λ q. (clash-iff S b v c).0 (and_right (clash_free S a v c) (clash_free S b v c) e) l m q)))

module _ (program kept : List ℤ) (before now : Cells) (word : List ℤ) (target : ℕ) (prefix : List ℕ) (v : Value) where
  phase-by-class : identity_phase program kept before now word target prefix v ≡ (class_for program kept before word target v >>= λ ls. want (refused 12 word) (clash_free before prefix v ls) >> got (put_all now ls v))
  unfolding class_for
  phase-by-class = phase-is program kept before now word target prefix v ∙ by (ties program kept before)
    where
      last : (a b : Bool) (ls : List ℕ) → (want (refused 13 word) a >> (want (refused 12 word) (clash_free before prefix v ls && b) >> got (put_all now ls v)))
          ≡ ((want (refused 13 word) a >> (want (refused 12 word) b >> got ls)) >>= λ ks. want (refused 12 word) (clash_free before prefix v ks) >> got (put_all now ks v))
      last true true ls = each (clash_free before prefix v ls)
        where
          each : (d : Bool) → (want (refused 12 word) (d && true) >> got (put_all now ls v)) ≡ (want (refused 12 word) d >> got (put_all now ls v))
          each true = refl
          each false = refl
      last true false ls = each (clash_free before prefix v ls)
        where
          each : (d : Bool) → (want (refused 12 word) (d && false) >> got (put_all now ls v)) ≡ stop (refused 12 word)
          each true = refl
          each false = refl
      last false b ls = refl

      by : (m : Res (List Tie))
          → (m >>= λ ts. want (refused 13 word) (not (names ts target) || is_node v) >> (want (refused 12 word) (clash_free before (prefix ++ frozen_by ts) v (class_of ts target)) >> got (put_all now (class_of ts target) v)))
          ≡ ((m >>= λ ts. want (refused 13 word) (not (names ts target) || is_node v) >> (want (refused 12 word) (clash_free before (frozen_by ts) v (class_of ts target)) >> got (class_of ts target))) >>= λ ls. want (refused 12 word) (clash_free before prefix v ls) >> got (put_all now ls v))
      by (got ts) = rw (clash-both before prefix (frozen_by ts) v (class_of ts target)) (last (not (names ts target) || is_node v) (clash_free before (frozen_by ts) v (class_of ts target)) (class_of ts target))
      by (stop f) = refl

  -- what follows the identity phase, by what the code knows of the class
  module _ {class : List ℕ} {r : Result (Unit {0}) Refusal} (c : Classes class r (class_for program kept before word target v)) (k : Cells → Res Left) where
    class-refuses : {f : Refusal} → r ≡ Err f → (identity_phase program kept before now word target prefix v >>= k) ≡ stop f
    class-refuses {f = f} h = rw (phase-by-class, c.refuses f h)

    module _ (h : r ≡ Ok tt) {free : Bool} (e : free ≡ clash_free before prefix v (c.finds h).list) where
      way-clashes : free ≡ false → (identity_phase program kept before now word target prefix v >>= k) ≡ stop (refused 12 word)
      way-clashes q = rw (phase-by-class, (c.finds h).is, ← e, q)

      class-moves : free ≡ true → k (put_all now (cells_of class) v) ≡ (identity_phase program kept before now word target prefix v >>= k)
      class-moves q =
          let f = c.finds h in
          rw (phase-by-class, f.is, ← e, q, put-members v now (cells_of class) f.list f.same)

-- ---- an assignment

gives_at : (program p kept ws : List ℤ) (S : Cells) (v : Value) (w : Way) → way_at S (drop 1 p) ≡ got w
    → gives program p (state_of S kept) ws v ≡ (identity_phase program kept S S p w.cell w.prefix v >>= λ Z. value_phase program kept p w.cell Z ws)
unfolding gives
gives_at program p kept ws S v w e = rw e

module _ (program p kept ws : List ℤ) (S : Cells) (v : Value) {q : List ℤ} (part : q ≡ drop 1 p) where
  pub give-lost : {r : Result Named Refusal} {f : Refusal} → r ≡ named_of (way_at S q) → r ≡ Err f → Does (state_of S kept) (state_of S kept) (Err f) (gives program p (state_of S kept) ws v)
  unfolding gives
  give-lost t h = refuses (rw (← part, named-lost (way_at S q) (sym h ∙ t)))

  module _ {l : Result Named Refusal} {x : Named} (t : l ≡ named_of (way_at S q)) (at : l ≡ Ok x) where
    abbrev named : NamedAt (way_at S q) x
    named = named-at (way_at S q) (sym at ∙ t)

    pub target-low : x.cell < locations
    target-low = rw named.cell (way-below S q named.way named.is)

    module _ {class : List ℕ} {r : Result (Unit {0}) Refusal} (c : Classes class r (class_for program kept S p x.cell v)) where
      gives-on : (identity_phase program kept S S p x.cell named.way.prefix v >>= λ Z. value_phase program kept p x.cell Z ws) ≡ gives program p (state_of S kept) ws v
      gives-on = ap (λ l. identity_phase program kept S S p l named.way.prefix v >>= λ Z. value_phase program kept p l Z ws) named.cell
          ∙ sym (gives_at program p kept ws S v named.way (ap (way_at S) (sym part) ∙ named.is))

      pub give-clash : {f : Refusal} → r ≡ Err f → Does (state_of S kept) (state_of S kept) (Err f) (gives program p (state_of S kept) ws v)
      give-clash h = refuses (sym gives-on ∙ class-refuses program kept S S p x.cell named.way.prefix v c (λ Z. value_phase program kept p x.cell Z ws) h)

      module _ (h : r ≡ Ok tt) {free : Bool} (e : free ≡ free_way S (marked class) v q) where
        free-is : free ≡ clash_free S named.way.prefix v (c.finds h).list
        free-is = e ∙ way-free S (marked class) v q named.way named.is ∙ free-clash S (marked class) v (c.finds h).list (c.finds h).marks named.way.prefix

        pub give-way-clash : free ≡ false → Does (state_of S kept) (state_of S kept) (Err (refused 12 p)) (gives program p (state_of S kept) ws v)
        give-way-clash f = refuses (sym gives-on ∙ way-clashes program kept S S p x.cell named.way.prefix v c (λ Z. value_phase program kept p x.cell Z ws) h free-is f)

        pub give-moves : free ≡ true → value_phase program kept p x.cell (put_all S (cells_of class) v) ws ≡ gives program p (state_of S kept) ws v
        give-moves f = class-moves program kept S S p x.cell named.way.prefix v c (λ Z. value_phase program kept p x.cell Z ws) h free-is f ∙ gives-on

-- ---- a new record

-- the heap that is seen is the one that is lent
pub heap-seen : {e h a b : List ℤ} → cells e h ≡ cells a b → h ≡ b
heap-seen q = ap (λ (S : Cells). S.heap) q

-- a variable is reached through no cells
nothing-clashes : (S : Cells) (v : Value) (c : List ℕ) → true ≡ clash_free S [] v c
nothing-clashes S v c = sym ((clash-iff S [] v c).1 (λ l m n. member-none l n))

module _ (program p kept ws e h : List ℤ) (x : ℕ) (fs : List ℤ) (n : ℕ) where
  abbrev New : Cells → Result Done Refusal → Type 0
  New Z r = Does (state_of (cells e h) kept) (state_of Z kept) r (gives_new program p (state_of (cells e h) kept) ws x fs n)

  pub new-nowhere : variables ≤ x → New (cells e h) (Err (refused 2 (drop 1 p)))
  unfolding gives_new
  new-nowhere l = refuses (rw (le-ltb x variables l))

  module _ (variable : x < variables) where
    pub new-full : most_records ≤ record_count h → New (cells e h) (Err (refused 10 p))
    unfolding gives_new
    new-full l = refuses (rw (lt-ltb x variables variable, le-ltb (record_count h) most_records l))

    module _ (room : record_count h < most_records) {class : List ℕ} {r : Result (Unit {0}) Refusal} (c : Classes class r (class_for program kept (cells e h) p x (Ref (record_count h)))) where
      pub new-clash : {f : Refusal} → r ≡ Err f → New (cells e h) (Err f)
      unfolding gives_new
      new-clash q = refuses (rw (lt-ltb x variables variable, lt-ltb (record_count h) most_records room)
          (class-refuses program kept (cells e h) (cells e (with_record h fs n)) p x [] (Ref (record_count h)) c (λ Z. value_phase program kept p x Z ws) q))

      pub new-moves : r ≡ Ok tt
          → value_phase program kept p x (put_all (cells e (with_record h fs n)) (cells_of class) (Ref (record_count h))) ws ≡ gives_new program p (state_of (cells e h) kept) ws x fs n
      unfolding gives_new
      new-moves q = rw (lt-ltb x variables variable, lt-ltb (record_count h) most_records room)
          (class-moves program kept (cells e h) (cells e (with_record h fs n)) p x [] (Ref (record_count h)) c (λ Z. value_phase program kept p x Z ws) q (nothing-clashes (cells e h) (Ref (record_count h)) (c.finds q).list) refl)

-- the record is added, and taken away where the rest is refused
module _ (program p kept ws e h fs : List ℤ) (class : List ℕ) (n x : ℕ) {k d o left : List ℤ} {v : ℕ} {r : Result Done Refusal} (a : k ≡ with_record h fs n) (b : v ≡ record_count h)
    (y : Does (state_of (cells e k) kept) (state_of (cells d o) left) r (value_phase program kept p x (put_all (cells e k) (cells_of class) (Ref v)) ws)) where
  pub new-accepts : {x' : Done} → r ≡ Ok x'
      → Does (state_of (cells e h) kept) (state_of (cells d o) left) (Ok x')
      (value_phase program kept p x (put_all (cells e (with_record h fs n)) (cells_of class) (Ref (record_count h))) ws)
  new-accepts q = rw (← a, ← b) (accepts-over y q)

  pub new-back : (saved : List ℤ) {laid g : List ℤ} {f : Refusal} → 26 ≤ length saved → laid ≡ laid_by h saved → r ≡ Err f → g ≡ brought_back laid o
      → Does (state_of (cells e h) kept) (state_of (cells d g) left) (Err f)
      (value_phase program kept p x (put_all (cells e (with_record h fs n)) (cells_of class) (Ref (record_count h))) ws)
  new-back saved {g = g} long l q back =
      let s = not_done y q in
      let z : d ≡ e = ap (λ (t : State). t.cells.environment) s.stays in
      let u : o ≡ k = ap (λ (t : State). t.cells.heap) s.stays in
      let j : left ≡ kept = ap (λ (t : State). t.kept) s.stays in
      let i : g ≡ h = back ∙ rw (l, u, a) (add_back h fs saved n long) in
      rw (← a, ← b, z, i, j) (refuses s.is)

-- ---- the statements

module _ (program p kept ws : List ℤ) (S : Cells) where
  -- an assignment is its expression, and then its target
  pub assign-by : do_assign program p (state_of S kept) ws ≡ (evaluate expression_depth S (after (read_path (drop 1 p))) >>= λ x. gives program p (state_of S kept) ws x.0)
  unfolding gives
  assign-by = assign-is program p (state_of S kept) ws

  -- a new is its fields' words, and then its variable
  pub new_by : {q : List ℤ} {x : ℕ} → q ≡ drop 1 p → x ≡ number_at q 0 → x < variables
      → do_new program p (state_of S kept) ws ≡ (reads (number 0 most_fields (drop 1 q)) >>= λ z. field_words z.0 S z.1 >>= λ fs. gives_new program p (state_of S kept) ws x fs z.0)
  unfolding gives_new
  new_by {q = q} {x = x} first named variable =
      rw (new_is program p (state_of S kept) ws, ← first, number_fits_lem 0 (variables - 1) q (omega arith) (omega arith), ← named, lt-ltb x variables variable)

  -- only the words of its n fields count
  pub new-same : (x : ℕ) (fields fs : List ℤ) (n : ℕ) → ((i : ℕ) → i < 3 * n → word_at fields i ≡ word_at fs i)
      → gives_new program p (state_of S kept) ws x fields n ≡ gives_new program p (state_of S kept) ws x fs n
  unfolding gives_new
  new-same x fields fs n h = rw (add_same S.heap fields fs n h)
