-- The forms of a statement within the limits, by its first word. Assumes nothing.
use mathlib.Core.Path.{◌≡◌, refl, ap, ◌∙◌}
use mathlib.Core.List.{List, [], ◌∷◌, ◌++◌, append_assoc}
use Prim.Native.Nat.{ℕ, suc, ◌≤◌}
use native.Mathlib.Omega.{arith}
use lib.IntN.{ℤ, pos}
use Rattle.tables.specs.Sizes.{most_fields}
use Rattle.program.specs.Forms.{most_statements, expression_depth}
use Rattle.program.specs.Grammar.{Path as PathOf, Expression as Of, Constraint as ConstraintOf, Fields as FieldsOf, block_of, statements_of, statement_of, Yields as Yo}
use Rattle.text.proofs.Cuts.{heads, tails}
use mathlib.Core.Bool.{false}

module _ {d : ℕ} where
  pub as-skip : {p x y : List ℤ} → Yo (statement_of d) p → pos 0 ∷ x ≡ p ++ y → x ≡ y
  as-skip Yo.skip q = tails q
  as-skip (Yo.assign u v) q = absurd (omega (arith, heads q))
  as-skip (Yo.new u v w) q = absurd (omega (arith, heads q))
  as-skip (Yo.always u) q = absurd (omega (arith, heads q))
  as-skip (Yo.once u) q = absurd (omega (arith, heads q))
  as-skip (Yo.always_same u v) q = absurd (omega (arith, heads q))
  as-skip (Yo.once_same u v) q = absurd (omega (arith, heads q))
  as-skip (Yo.branch u v w) q = absurd (omega (arith, heads q))
  as-skip (Yo.loop u v) q = absurd (omega (arith, heads q))

  pub as-assign : {p x y : List ℤ} → Yo (statement_of d) p → pos 1 ∷ x ≡ p ++ y → (a : List ℤ) × ((e : List ℤ) × (PathOf a × (Of false expression_depth e × (x ≡ a ++ (e ++ y)))))
  as-assign Yo.skip q = absurd (omega (arith, heads q))
  as-assign {y = y} (Yo.assign {a = a} {e = e} u v) q = (a, (e, (u, (v, tails q ∙ append_assoc a e y))))
  as-assign (Yo.new u v w) q = absurd (omega (arith, heads q))
  as-assign (Yo.always u) q = absurd (omega (arith, heads q))
  as-assign (Yo.once u) q = absurd (omega (arith, heads q))
  as-assign (Yo.always_same u v) q = absurd (omega (arith, heads q))
  as-assign (Yo.once_same u v) q = absurd (omega (arith, heads q))
  as-assign (Yo.branch u v w) q = absurd (omega (arith, heads q))
  as-assign (Yo.loop u v) q = absurd (omega (arith, heads q))

  pub as-new : {v n : ℕ} {p x y : List ℤ} → Yo (statement_of d) p → pos 2 ∷ pos v ∷ pos n ∷ x ≡ p ++ y → (fs : List ℤ) × ((n ≤ most_fields) × (FieldsOf n [] fs × (x ≡ fs ++ y)))
  as-new Yo.skip q = absurd (omega (arith, heads q))
  as-new (Yo.assign u v) q = absurd (omega (arith, heads q))
  as-new {n = n} {y = y} (Yo.new {n = m} {fs = fs} u v w) q = let h : n ≡ m = heads (tails (tails q)) in (fs, (omega arith, (rw h w, tails (tails (tails q)))))
  as-new (Yo.always u) q = absurd (omega (arith, heads q))
  as-new (Yo.once u) q = absurd (omega (arith, heads q))
  as-new (Yo.always_same u v) q = absurd (omega (arith, heads q))
  as-new (Yo.once_same u v) q = absurd (omega (arith, heads q))
  as-new (Yo.branch u v w) q = absurd (omega (arith, heads q))
  as-new (Yo.loop u v) q = absurd (omega (arith, heads q))

  pub as-always : {p x y : List ℤ} → Yo (statement_of d) p → pos 3 ∷ x ≡ p ++ y → (c : List ℤ) × (ConstraintOf c × (x ≡ c ++ y))
  as-always Yo.skip q = absurd (omega (arith, heads q))
  as-always (Yo.assign u v) q = absurd (omega (arith, heads q))
  as-always (Yo.new u v w) q = absurd (omega (arith, heads q))
  as-always (Yo.always {c = c} u) q = (c, (u, tails q))
  as-always (Yo.once u) q = absurd (omega (arith, heads q))
  as-always (Yo.always_same u v) q = absurd (omega (arith, heads q))
  as-always (Yo.once_same u v) q = absurd (omega (arith, heads q))
  as-always (Yo.branch u v w) q = absurd (omega (arith, heads q))
  as-always (Yo.loop u v) q = absurd (omega (arith, heads q))

  pub as-once : {p x y : List ℤ} → Yo (statement_of d) p → pos 4 ∷ x ≡ p ++ y → (c : List ℤ) × (ConstraintOf c × (x ≡ c ++ y))
  as-once Yo.skip q = absurd (omega (arith, heads q))
  as-once (Yo.assign u v) q = absurd (omega (arith, heads q))
  as-once (Yo.new u v w) q = absurd (omega (arith, heads q))
  as-once (Yo.always u) q = absurd (omega (arith, heads q))
  as-once (Yo.once {c = c} u) q = (c, (u, tails q))
  as-once (Yo.always_same u v) q = absurd (omega (arith, heads q))
  as-once (Yo.once_same u v) q = absurd (omega (arith, heads q))
  as-once (Yo.branch u v w) q = absurd (omega (arith, heads q))
  as-once (Yo.loop u v) q = absurd (omega (arith, heads q))

  pub as-always-same : {p x y : List ℤ} → Yo (statement_of d) p → pos 5 ∷ x ≡ p ++ y → (a : List ℤ) × ((b : List ℤ) × (PathOf a × (PathOf b × (x ≡ a ++ (b ++ y)))))
  as-always-same Yo.skip q = absurd (omega (arith, heads q))
  as-always-same (Yo.assign u v) q = absurd (omega (arith, heads q))
  as-always-same (Yo.new u v w) q = absurd (omega (arith, heads q))
  as-always-same (Yo.always u) q = absurd (omega (arith, heads q))
  as-always-same (Yo.once u) q = absurd (omega (arith, heads q))
  as-always-same {y = y} (Yo.always_same {a = a} {b = b} u v) q = (a, (b, (u, (v, tails q ∙ append_assoc a b y))))
  as-always-same (Yo.once_same u v) q = absurd (omega (arith, heads q))
  as-always-same (Yo.branch u v w) q = absurd (omega (arith, heads q))
  as-always-same (Yo.loop u v) q = absurd (omega (arith, heads q))

  pub as-once-same : {p x y : List ℤ} → Yo (statement_of d) p → pos 6 ∷ x ≡ p ++ y → (a : List ℤ) × ((b : List ℤ) × (PathOf a × (PathOf b × (x ≡ a ++ (b ++ y)))))
  as-once-same Yo.skip q = absurd (omega (arith, heads q))
  as-once-same (Yo.assign u v) q = absurd (omega (arith, heads q))
  as-once-same (Yo.new u v w) q = absurd (omega (arith, heads q))
  as-once-same (Yo.always u) q = absurd (omega (arith, heads q))
  as-once-same (Yo.once u) q = absurd (omega (arith, heads q))
  as-once-same (Yo.always_same u v) q = absurd (omega (arith, heads q))
  as-once-same {y = y} (Yo.once_same {a = a} {b = b} u v) q = (a, (b, (u, (v, tails q ∙ append_assoc a b y))))
  as-once-same (Yo.branch u v w) q = absurd (omega (arith, heads q))
  as-once-same (Yo.loop u v) q = absurd (omega (arith, heads q))

  pub as-branch : {p x y : List ℤ} → Yo (statement_of d) p → pos 7 ∷ x ≡ p ++ y → (e : List ℤ) × ((a : List ℤ) × ((b : List ℤ) × (Of false expression_depth e × (Yo (block_of d) a × (Yo (block_of d) b × (x ≡ e ++ (a ++ (b ++ y))))))))
  as-branch Yo.skip q = absurd (omega (arith, heads q))
  as-branch (Yo.assign u v) q = absurd (omega (arith, heads q))
  as-branch (Yo.new u v w) q = absurd (omega (arith, heads q))
  as-branch (Yo.always u) q = absurd (omega (arith, heads q))
  as-branch (Yo.once u) q = absurd (omega (arith, heads q))
  as-branch (Yo.always_same u v) q = absurd (omega (arith, heads q))
  as-branch (Yo.once_same u v) q = absurd (omega (arith, heads q))
  as-branch {y = y} (Yo.branch {e = e} {a = a} {b = b} u v w) q = (e, (a, (b, (u, (v, (w, tails q ∙ append_assoc e (a ++ b) y ∙ ap (λ (z : List ℤ). e ++ z) (append_assoc a b y)))))))
  as-branch (Yo.loop u v) q = absurd (omega (arith, heads q))

  pub as-loop : {p x y : List ℤ} → Yo (statement_of d) p → pos 8 ∷ x ≡ p ++ y → (e : List ℤ) × ((a : List ℤ) × (Of false expression_depth e × (Yo (block_of d) a × (x ≡ e ++ (a ++ y)))))
  as-loop Yo.skip q = absurd (omega (arith, heads q))
  as-loop (Yo.assign u v) q = absurd (omega (arith, heads q))
  as-loop (Yo.new u v w) q = absurd (omega (arith, heads q))
  as-loop (Yo.always u) q = absurd (omega (arith, heads q))
  as-loop (Yo.once u) q = absurd (omega (arith, heads q))
  as-loop (Yo.always_same u v) q = absurd (omega (arith, heads q))
  as-loop (Yo.once_same u v) q = absurd (omega (arith, heads q))
  as-loop (Yo.branch u v w) q = absurd (omega (arith, heads q))
  as-loop {y = y} (Yo.loop {e = e} {a = a} u v) q = (e, (a, (u, (v, tails q ∙ append_assoc e a y))))

  pub as_none : {n : ℕ} {p x y : List ℤ} → Yo (statements_of d n) p → n ≡ 0 → x ≡ p ++ y → x ≡ y
  as_none Yo.none e q = q
  as_none (Yo.one u v) e q = absurd (omega arith)

  pub as_one : {m n : ℕ} {p x y : List ℤ} → Yo (statements_of d m) p → m ≡ suc n → x ≡ p ++ y → (s : List ℤ) × ((ss : List ℤ) × (Yo (statement_of d) s × (Yo (statements_of d n) ss × (x ≡ s ++ (ss ++ y)))))
  as_one Yo.none e q = absurd (omega arith)
  as_one {n = n} {y = y} (Yo.one {n = k} {s = s} {ss = ss} u v) e q = let z : n ≡ k = omega arith in (s, (ss, (u, (rw z v, q ∙ append_assoc s ss y))))

pub as-block : {d n : ℕ} {p x y : List ℤ} → Yo (block_of d) p → pos n ∷ x ≡ p ++ y → (e : ℕ) × ((d ≡ suc e) × ((n ≤ most_statements) × ((ss : List ℤ) × (Yo (statements_of e n) ss × (x ≡ ss ++ y)))))
as-block {n = n} (Yo.block {d = e} {n = m} {ss = ss} h w) q = let z : n ≡ m = heads q in (e, (refl, (omega arith, (ss, (rw z w, tails q)))))
