-- Whether an identity holds, and the ties of the kept identities, are by the definitions what they are by the rules. Assumes nothing.
use mathlib.Core.Path.{◌≡◌, refl, sym, ◌∙◌}
use mathlib.Core.Logic.{◌↔◌}
use mathlib.Core.Bool.{Bool, true, false, true≢false}
use mathlib.Core.List.{List, [], ◌∷◌}
use Prim.Native.Nat.{ℕ, ◌+◌}
use lib.IntN.{ℤ}
use lib.ListN.{drop}
use Rattle.words.specs.Answer.{got, want}
use Rattle.words.proofs.AnswerLaws.{stop≢got, got-inj, step, tested}
use Rattle.tables.specs.declared.Value.{Value}
use Rattle.tables.specs.declared.Value.TheVariants.{Nil, Bool as Truth, Int, Ref}
use Rattle.tables.specs.declared.Sort.TheVariants.{Identities}
use Rattle.tables.specs.Cells.{Cells}
use Rattle.rules.specs.State.{refused, positions}
use Rattle.rules.specs.Paths.{value_at}
use Rattle.rules.specs.Evaluation.{same as is_same}
use Rattle.rules.specs.Identities.{is_node, same_now, Tie, tie_at, ties_of, ties}
use Rattle.rules.specs.Rules.Identities.{Node, nil, reference, Same, same, TiesAre, none, one}
use Rattle.rules.proofs.NameLaws.{names-iff, holds-sound, holds-complete}
use Rattle.rules.proofs.OperatorLaws.{same_true, cell_same}
use Rattle.rules.proofs.ReadyLaws.{tie-of, tie-from}

-- ---- a reference or nil

node-sound : (v : Value) → is_node v ≡ true → Node v
unfolding is_node
node-sound Nil e = nil
node-sound (Truth b) e = absurd (true≢false (sym e))
node-sound (Int n) e = absurd (true≢false (sym e))
node-sound (Ref r) e = reference

node-complete : {v : Value} → Node v → is_node v ≡ true
unfolding is_node
node-complete nil = refl
node-complete reference = refl

pub node-is : (v : Value) → (is_node v ≡ true) ↔ Node v
node-is v = (node-sound v, node-complete)

pub node-not : (v : Value) → (is_node v ≡ false) ↔ (Node v → ⊥)
node-not v = (λ e n. true≢false (sym (node-complete n) ∙ e), λ h. go (is_node v) refl h)
  where
    go : (b : Bool) → is_node v ≡ b → (Node v → ⊥) → b ≡ false
    go true e h = absurd (h (node-sound v e))
    go false e h = refl

-- ---- an identity holds

module _ (S : Cells) (word p : List ℤ) where
  same-sound : same_now S word p ≡ got tt → Same S p
  unfolding same_now
  same-sound e =
      step (value_at S p) _ e λ v a k1.
      step (value_at S v.1) _ k1 λ w b k2.
      tested (refused 8 p) (is_node v.0) _ k2 λ c k3.
      tested (refused 8 v.1) (is_node w.0) _ k3 λ d k4.
      same (holds-sound S p v a) (holds-sound S v.1 w b) (node-sound v.0 c) (node-sound w.0 d) (same_true v.0 w.0 (wanted (is_same v.0 w.0) k4))
    where
      wanted : (c : Bool) → want (refused 11 word) c ≡ got tt → c ≡ true
      wanted true q = refl
      wanted false q = stop≢got q

  same-complete : Same S p → same_now S word p ≡ got tt
  unfolding same_now
  same-complete (same {v = v} {w = w} a b c d e) = rw (holds-complete S a, holds-complete S b, node-complete c, node-complete d, cell_same v w e)

  -- the identity at p holds by the definition exactly where it does by the rules
  pub same-iff : (same_now S word p ≡ got tt) ↔ Same S p
  same-iff = (same-sound, same-complete)

-- ---- the ties

module _ (program : List ℤ) (S : Cells) where
  ties-sound : (ps : List ℕ) (ts : List Tie) → ties_of program S ps ≡ got ts → TiesAre program S ps ts
  unfolding ties_of
  ties-sound [] ts e = rw (← got-inj e) none
  ties-sound (position ∷ ps) ts e =
      step (tie_at S (drop (position + 1) program)) _ e λ t e1 k1.
      step (ties_of program S ps) _ k1 λ us e2 k2.
      let o = tie-of S (drop (position + 1) program) t e1 in
      rw (← got-inj k2, o.is)
      (one ((names-iff S (drop (position + 1) program) o.left).0 o.left-way) ((names-iff S o.left.rest o.right).0 o.right-way) (ties-sound ps us e2))

  ties-complete : {ps : List ℕ} {ts : List Tie} → TiesAre program S ps ts → ties_of program S ps ≡ got ts
  unfolding ties_of
  ties-complete none = refl
  ties-complete (one {position = position} {a = a} {b = b} x y more) =
      rw (
        tie-from S (drop (position + 1) program) _
            (record { left = a; right = b; left-way = (names-iff S (drop (position + 1) program) a).1 x; right-way = (names-iff S a.rest b).1 y; is = refl }),
        ties-complete more,
      )

-- the kept identities are followed by the definition exactly where they are by the rules, to the same cells
pub ties-iff : (program kept : List ℤ) (S : Cells) (ts : List Tie) → (ties program kept S ≡ got ts) ↔ TiesAre program S (positions kept Identities) ts
unfolding ties
ties-iff program kept S ts = (ties-sound program S (positions kept Identities) ts, ties-complete program S)
