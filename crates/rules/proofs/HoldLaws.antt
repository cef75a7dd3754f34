-- What is kept still holds after a proposal, after always and once, and after an identity.
-- Assumes nothing.
use Rattle.std.specs.Prelude.{Option, Some}
use mathlib.Core.Path.{◌≡◌, refl, sym, ap, ◌∙◌}
use mathlib.Core.Bool.{true, false}
use mathlib.Core.List.{List, [], ◌∷◌, ◌++◌}
use Prim.Native.Nat.{ℕ, ◌+◌, ◌<◌}
use native.Mathlib.Omega.{arith}
use lib.IntN.{ℤ}
use lib.ListN.{drop}
use lib.Seq.{drop-drop}
use Rattle.words.specs.Answer.{got}
use Rattle.words.proofs.AnswerLaws.{got-inj, step, step-on, tested}
use Rattle.tables.specs.declared.Value.{Value}
use Rattle.tables.specs.declared.Value.TheVariants.{Bool as Truth, Int}
use Rattle.tables.specs.declared.Sort.{Sort}
use Rattle.tables.specs.declared.Sort.TheVariants.{Values, Identities}
use Rattle.tables.specs.Cells.{Cells}
use Rattle.fit.specs.Fit.{Fit}
use Rattle.program.specs.Where.{is_always}
use Rattle.program.proofs.LengthLaws.{Part as Rest}
use Rattle.rules.specs.State.{State, refused, or_refuse, slot_at, present, positions}
use Rattle.rules.specs.Paths.{way_at, value_at}
use Rattle.rules.specs.Constraints.{Part, constraint_at, fifteen, kept_at, kept_parts, own_parts, counted}
use Rattle.rules.specs.Identities.{is_node, same_now}
use Rattle.rules.specs.Proposals.{Asked, settle}
use Rattle.rules.specs.Statements.{Left, position_of, has_room, do_constraint, do_identity}
use Rattle.rules.specs.Rules.Proposals.{Each, none as no-each, more, Met, Settles}
use Rattle.rules.specs.Steps.Holds.{ValueHolds, IdentityHolds, Holds}
use Rattle.rules.proofs.WordSteps.{or-got}
use Rattle.rules.proofs.EffectLaws.{Near, settles-near, effect-same}
use Rattle.rules.proofs.Structure.{nils, truths, ints, refs, AlikeSlot, absents, held}
use Rattle.rules.proofs.SamePaths.{slot_same, way_same}
use Rattle.rules.proofs.NearLaws.{fifteen-got}
use Rattle.rules.proofs.CountedLaws.{counted-iff}
use Rattle.rules.proofs.ProposalLaws.{settle-iff}
use Rattle.rules.proofs.KeepLaws.{each-head, each_tail, kept-length, kept-other, kept-each, kept-stand}

-- ---- an identity after a proposal

node_stays : {s z : Option Value} {v : Value} → AlikeSlot s z → present s ≡ got v → is_node v ≡ true → present z ≡ got v
unfolding is_node
node_stays absents e n = e
node_stays (held nils) e n = e
node_stays (held refs) e n = e
node_stays (held (truths {a = a})) e n = let q : Truth a ≡ _ = got-inj e in let f : false ≡ true = rw (← q) at n in cc
node_stays (held (ints {a = a})) e n = let q : Int a ≡ _ = got-inj e in let f : false ≡ true = rw (← q) at n in cc

module _ (asked : Asked) (S Z : Cells) (near : Near asked S Z) where
  node-again : (p : List ℤ) (x : Value × List ℤ) → value_at S p ≡ got x → is_node x.0 ≡ true → value_at Z p ≡ got x
  unfolding value_at
  node-again p x e n =
      step (way_at S p) _ e λ w e1 k1.
      step (or_refuse 7 p (present (slot_at S w.cell))) _ k1 λ v e2 k2.
      let q : v ≡ x.0 = ap (λ (y : Value × List ℤ). y.0) (got-inj k2) in
      rw (sym (way_same S Z (effect-same near.effect) p), e1, node_stays (slot_same S Z (effect-same near.effect) w.cell) (or-got 7 p (present (slot_at S w.cell)) e2) (rw q n)) k2

  -- an identity that holds before a proposal holds after it
  pub same-again : (word p : List ℤ) → same_now S word p ≡ got tt → same_now Z word p ≡ got tt
  unfolding same_now
  same-again word p e =
      step (value_at S p) _ e λ v e1 k1.
      step (value_at S v.1) _ k1 λ w e2 k2.
      tested (refused 8 p) (is_node v.0) _ k2 λ c3 k3.
      tested (refused 8 v.1) (is_node w.0) _ k3 λ c4 k4.
      rw (node-again p v e1 c3, node-again v.1 w e2 c4, c3, c4) k4

-- ---- the parts after a proposal

module _ {A : Type 0} {P : A → Type 0} where
  pub each_left : (xs ys : List A) → Each P (xs ++ ys) → Each P xs
  each_left [] ys e = no-each
  each_left (x ∷ xs) ys e = more (each-head e) (each_left xs ys (each_tail e))

  pub each_right : (xs ys : List A) → Each P (xs ++ ys) → Each P ys
  each_right [] ys e = e
  each_right (x ∷ xs) ys e = each_right xs ys (each_tail e)

pub each_map : {A : Type 0} {P Q : A → Type 0} → ((x : A) → P x → Q x) → (xs : List A) → Each P xs → Each Q xs
each_map f [] e = no-each
each_map f (x ∷ xs) e = more (f x (each-head e)) (each_map f xs (each_tail e))

values-hold : (program : List ℤ) (Z : Cells) (ns : List ℕ) (ps : List Part) → kept_parts program Z ns ≡ got ps → Each Met ps → Each (ValueHolds program Z) ns
unfolding kept_parts
values-hold program Z [] ps e m = no-each
values-hold program Z (n ∷ ns) ps e m =
    step (fifteen (kept_at program Z n)) _ e λ x e1 k1.
    step (kept_parts program Z ns) _ k1 λ y e2 k2.
    let a : Each Met (x ++ y) = rw (got-inj k2) m in
    more (record { parts = x; reads = fifteen-got (kept_at program Z n) x e1; met = each_left x y a }) (values-hold program Z ns y e2 (each_right x y a))

-- a constraint that reads, with its required parts true
pub record ConstraintHolds (Z : Cells) (p : List ℤ) : Type 0 where
  pub parts : List Part
  pub reads : constraint_at Z p ≡ got parts
  pub met : Each Met parts

-- what holds in the middle of a statement: all but the value constraints
pub record Half (program kept : List ℤ) (S : Cells) : Type 0 where
  pub fit : Fit S
  pub identities : Each (IdentityHolds program S) (positions kept Identities)

module _ (program kept : List ℤ) (asked : Asked) (word : List ℤ) (S : Cells) (ws : List ℤ) (Z : Cells) (rest : List ℤ)
    (half : Half program kept S) (done : settle program kept asked word S ws ≡ got (Z, rest)) where
  s : Settles program kept asked S ws Z rest
  s = (settle-iff program kept asked word S ws Z rest).0 done

  still : counted program kept asked.own Z ≡ got s.after
  still = (counted-iff program Z kept asked.own s.after).1 s.reads

  near : Near asked S Z
  near = settles-near half.fit.sized s

  pub settle-half : Half program kept Z
  settle-half = record {
    fit = near.effect.fit half.fit;
    identities = each_map (λ n e. same-again asked S Z near (drop n program) (drop (n + 1) program) e) (positions kept Identities) half.identities;
  }

  -- the last test of the proposal: every kept value constraint, and the statement's own, has its required parts true
  pub settle-values : Each (ValueHolds program Z) (positions kept Values)
  unfolding counted
  settle-values =
      step (own_parts Z asked.own) _ still λ mine e1 k1.
      step (kept_parts program Z (positions kept Values)) _ k1 λ others e2 k2.
      values-hold program Z (positions kept Values) others e2 (each_left others mine (rw (got-inj k2) s.met))

  pub settle-own : (p : List ℤ) → asked.own ≡ Some p → ConstraintHolds Z p
  unfolding counted own_parts
  settle-own p q =
      step (own_parts Z asked.own) _ still λ mine e1 k1.
      step (kept_parts program Z (positions kept Values)) _ k1 λ others e2 k2.
      record { parts = mine; reads = rw q at e1; met = each_right others mine (rw (got-inj k2) s.met) }

-- ---- always, once and identities

-- an always-statement of a sort: p is the part of the program at its word
pub record Stands (program p : List ℤ) (s : Sort) : Type 0 where
  pub rest : Rest program p
  pub small : position_of program p < 2147483648
  pub always : is_always program s (position_of program p) ≡ true

stands-drop : {program p : List ℤ} {s : Sort} → Stands program p s → drop (position_of program p + 1) program ≡ drop 1 p
stands-drop {program} {p} st = sym (drop-drop 1 (position_of program p) program) ∙ ap (drop 1) st.rest.is

pub half_of : {program : List ℤ} {S : State} → Holds program S → Half program S.kept S.cells
half_of h = record { fit = h.fit; identities = h.identities }

values-apart : Identities ≡ Values → ⊥
values-apart e = let z : ◌≡◌ {A = ℕ} 0 1 = cc in omega arith

identities-apart : Values ≡ Identities → ⊥
identities-apart e = let z : ◌≡◌ {A = ℕ} 0 1 = cc in omega arith

module _ (program p : List ℤ) (S : State) (ws : List ℤ) (l : Left) (holds : Holds program S) where
  pub once-holds : do_constraint false program p S ws ≡ got l → Holds program l.state
  unfolding do_constraint
  once-holds e =
      step (settle program S.kept _ p S.cells ws) _ e λ x e1 k1.
      let half = settle-half program S.kept _ p S.cells ws x.0 x.1 (half_of holds) e1 in
      rw (← got-inj k1) (record {
        fit = half.fit;
        long = holds.long;
        stands = holds.stands;
        values = settle-values program S.kept _ p S.cells ws x.0 x.1 (half_of holds) e1;
        identities = half.identities;
      })

  pub always-holds : Stands program p Values → do_constraint true program p S ws ≡ got l → Holds program l.state
  unfolding do_constraint kept_at
  always-holds st e =
      step (settle program S.kept _ p S.cells ws) _ e λ x e1 k1.
      let half = settle-half program S.kept _ p S.cells ws x.0 x.1 (half_of holds) e1 in
      let room = ((settle-iff program S.kept _ p S.cells ws x.0 x.1).0 e1).room in
      let own = settle-own program S.kept _ p S.cells ws x.0 x.1 (half_of holds) e1 (drop 1 p) refl in
      rw (← got-inj k1) (record {
        fit = half.fit;
        long = kept-length S.kept Values (position_of program p) ∙ holds.long;
        stands = kept-stand S.kept Values (position_of program p) holds.long room st.small program holds.stands st.always;
        values = kept-each S.kept Values (position_of program p) holds.long room st.small (ValueHolds program x.0)
            (settle-values program S.kept _ p S.cells ws x.0 x.1 (half_of holds) e1)
            (record { parts = own.parts; reads = rw (stands-drop st) own.reads; met = own.met });
        identities = kept-other S.kept Values (position_of program p) (IdentityHolds program x.0) Identities values-apart half.identities;
      })

  pub once-same-holds : do_identity false program p S ws ≡ got l → Holds program l.state
  unfolding do_identity
  once-same-holds e =
      step-on (same_now S.cells p (drop 1 p)) _ e λ u e1 k1.
      rw (← got-inj k1) (record { fit = holds.fit; long = holds.long; stands = holds.stands; values = holds.values; identities = holds.identities })

  pub always-same-holds : Stands program p Identities → do_identity true program p S ws ≡ got l → Holds program l.state
  unfolding do_identity
  always-same-holds st e =
      step-on (same_now S.cells p (drop 1 p)) _ e λ u e1 k1.
      tested (refused 14 p) (has_room S.kept Identities (position_of program p)) _ k1 λ room k2.
      rw (← got-inj k2) (record {
        fit = holds.fit;
        long = kept-length S.kept Identities (position_of program p) ∙ holds.long;
        stands = kept-stand S.kept Identities (position_of program p) holds.long room st.small program holds.stands st.always;
        values = kept-other S.kept Identities (position_of program p) (ValueHolds program S.cells) Values identities-apart holds.values;
        identities = kept-each S.kept Identities (position_of program p) holds.long room st.small (IdentityHolds program S.cells) holds.identities
            (rw (stands-drop st, st.rest.is) e1);
      })
