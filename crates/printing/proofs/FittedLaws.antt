-- The integers of a written program are words of it, and fit 32 bits as these do. Assumes nothing.
use mathlib.Core.Bool.{Bool}
use mathlib.Core.List.{List, [], ◌∷◌, ◌++◌}
use lib.IntN.{ℤ}
use Prim.Native.Nat.{ℕ, zero, suc, ◌≤◌}
use native.Mathlib.Omega.{arith}
use Rattle.text.proofs.LevelLaws.{by-operator}
use Rattle.printing.specs.Signs.{Sign, space, identical_sign, operator_text, priority_text}
use Rattle.printing.specs.Rules.{Labels, Path, Expression, Parts, Fields, Piece, Prints, Text}
use Rattle.printing.specs.Claims.{Words}
use Rattle.printing.proofs.SignTokens.{Fitted}

words_left : (a b : List ℤ) → Words (a ++ b) → Words a
words_left [] b w = Words.none
words_left (x ∷ a) b (Words.more e w) = Words.more e (words_left a b w)

words_right : (a b : List ℤ) → Words (a ++ b) → Words b
words_right [] b w = w
words_right (x ∷ a) b (Words.more e w) = words_right a b w

behind : {w : ℤ} {ws : List ℤ} → Words (w ∷ ws) → Words ws
behind (Words.more e w) = w

fitted-append : {a b : List Sign} → Fitted a → Fitted b → Fitted (a ++ b)
fitted-append Fitted.none g = g
fitted-append (Fitted.blank f) g = Fitted.blank (fitted-append f g)
fitted-append (Fitted.fixed f) g = Fitted.fixed (fitted-append f g)
fitted-append (Fitted.integer e f) g = Fitted.integer e (fitted-append f g)
fitted-append (Fitted.variable f) g = Fitted.variable (fitted-append f g)
fitted-append (Fitted.label f) g = Fitted.label (fitted-append f g)

-- a keyword or a mark between spaces
spaced : {c : ℕ} {s t u : List ℕ} → Fitted (Sign.blank t ∷ Sign.fixed c s ∷ Sign.blank u ∷ [])
spaced = Fitted.blank (Fitted.fixed (Fitted.blank Fitted.none))

operator-fitted : (o : ℕ) → 1 ≤ o → o ≤ 11 → Fitted (operator_text o)
unfolding operator_text
operator-fitted o l h = by-operator (λ n. Fitted (operator_text n)) o l h spaced spaced spaced spaced spaced spaced spaced spaced spaced spaced spaced

priority-fitted : (k : ℕ) → 1 ≤ k → k ≤ 3 → Fitted (priority_text k)
unfolding priority_text
priority-fitted zero l h = let z : ⊥ = omega arith in absurd z
priority-fitted (suc zero) l h = Fitted.fixed (Fitted.blank Fitted.none)
priority-fitted (suc (suc zero)) l h = Fitted.fixed (Fitted.blank Fitted.none)
priority-fitted (suc (suc (suc zero))) l h = Fitted.fixed (Fitted.blank Fitted.none)
priority-fitted (suc (suc (suc (suc k)))) l h = let z : ⊥ = omega arith in absurd z

labels-fitted : {n : ℕ} {ws : List ℤ} {ss : List Sign} → Labels n ws ss → Fitted ss
labels-fitted Labels.none = Fitted.none
labels-fitted (Labels.one d) = Fitted.fixed (Fitted.label (labels-fitted d))

path-fitted : {ws : List ℤ} {ss : List Sign} → Path ws ss → Fitted ss
path-fitted (Path.path d) = Fitted.variable (labels-fitted d)

sides-fitted : {a b : List ℤ} {sa sb : List Sign} → Path a sa → Path b sb → Fitted (sa ++ space ∷ identical_sign ∷ space ∷ sb)
sides-fitted x y = fitted-append (path-fitted x) (Fitted.blank (Fitted.fixed (Fitted.blank (path-fitted y))))

expression-fitted : {in_c : Bool} {low : ℕ} {ws : List ℤ} {ss : List Sign} → Expression in_c low ws ss → Words ws → Fitted ss
expression-fitted Expression.nil w = Fitted.fixed Fitted.none
expression-fitted Expression.no w = Fitted.fixed Fitted.none
expression-fitted Expression.yes w = Fitted.fixed Fitted.none
expression-fitted Expression.number (Words.more e (Words.more f w)) = Fitted.integer f Fitted.none
expression-fitted (Expression.at x) w = path-fitted x
expression-fitted (Expression.identity c x y) w = sides-fitted x y
expression-fitted (Expression.operation {o = o} {a = a} l h v t x y) w =
    let u = behind (behind w) in
    fitted-append (fitted-append (expression-fitted x (words_left a _ u)) (operator-fitted o l h)) (expression-fitted y (words_right a _ u))
expression-fitted (Expression.brackets {o = o} {a = a} l h v t x y) w =
    let u = behind (behind w) in
    Fitted.fixed
    (fitted-append
    (fitted-append (fitted-append (expression-fitted x (words_left a _ u)) (operator-fitted o l h)) (expression-fitted y (words_right a _ u)))
    (Fitted.fixed Fitted.none))

parts-fitted : {m : ℕ} {ws : List ℤ} {ss : List Sign} → Parts m ws ss → Words ws → Fitted ss
parts-fitted (Parts.one {k = k} l h x) w = fitted-append (priority-fitted k l h) (expression-fitted x (behind w))
parts-fitted (Parts.more {k = k} {e = e} l h x d) w =
    fitted-append (fitted-append (priority-fitted k l h) (expression-fitted x (words_left e _ (behind w))))
    (Fitted.blank (Fitted.fixed (Fitted.blank (parts-fitted d (words_right e _ (behind w))))))

fields-fitted : {n : ℕ} {ws : List ℤ} {ss : List Sign} → Fields n ws ss → Words ws → Fitted ss
fields-fitted (Fields.one x) w = Fitted.label (Fitted.fixed (Fitted.blank (expression-fitted x (behind w))))
fields-fitted (Fields.more {e = e} x d) w =
    Fitted.label (Fitted.fixed (Fitted.blank
    (fitted-append (expression-fitted x (words_left e _ (behind w))) (Fitted.fixed (Fitted.blank (fields-fitted d (words_right e _ (behind w))))))))

prints-fitted : {x : Piece} {ws : List ℤ} {ss : List Sign} → Prints x ws ss → Words ws → Fitted ss
prints-fitted Prints.skip w = Fitted.fixed Fitted.none
prints-fitted (Prints.assign {a = a} x y) w =
    fitted-append (path-fitted x) (Fitted.blank (Fitted.fixed (Fitted.blank (expression-fitted y (words_right a _ (behind w))))))
prints-fitted Prints.new_empty w =
    Fitted.variable (Fitted.blank (Fitted.fixed (Fitted.blank (Fitted.fixed (Fitted.blank (Fitted.fixed (Fitted.fixed Fitted.none)))))))
prints-fitted (Prints.new d) w =
    Fitted.variable (Fitted.blank (Fitted.fixed (Fitted.blank (Fitted.fixed (Fitted.blank (Fitted.fixed
    (fitted-append (fields-fitted d (behind (behind (behind w)))) (Fitted.fixed Fitted.none))))))))
prints-fitted (Prints.always d) w = Fitted.fixed (Fitted.blank (parts-fitted d (behind (behind w))))
prints-fitted (Prints.once d) w = Fitted.fixed (Fitted.blank (parts-fitted d (behind (behind w))))
prints-fitted (Prints.always-same x y) w = Fitted.fixed (Fitted.blank (sides-fitted x y))
prints-fitted (Prints.once-same x y) w = Fitted.fixed (Fitted.blank (sides-fitted x y))
prints-fitted (Prints.branch {e = e} {a = a} x y z) w =
    let u = words_right e _ (behind w) in
    Fitted.fixed (Fitted.blank
    (fitted-append
    (fitted-append (expression-fitted x (words_left e _ (behind w))) (Fitted.blank (Fitted.fixed (Fitted.blank (prints-fitted y (words_left a _ u))))))
    (Fitted.blank (Fitted.fixed (Fitted.blank (prints-fitted z (words_right a _ u)))))))
prints-fitted (Prints.loop {e = e} x y) w =
    Fitted.fixed (Fitted.blank
    (fitted-append (expression-fitted x (words_left e _ (behind w))) (Fitted.blank (Fitted.fixed (Fitted.blank (prints-fitted y (words_right e _ (behind w))))))))
prints-fitted (Prints.last x) w = prints-fitted x w
prints-fitted (Prints.more {s = s} x y) w = fitted-append (prints-fitted x (words_left s _ w)) (Fitted.fixed (Fitted.blank (prints-fitted y (words_right s _ w))))
prints-fitted Prints.empty w = Fitted.fixed (Fitted.fixed Fitted.none)
prints-fitted (Prints.braces x) w = Fitted.fixed (Fitted.blank (fitted-append (prints-fitted x (behind w)) (Fitted.blank (Fitted.fixed Fitted.none))))

pub text-fitted : {p : List ℤ} {ss : List Sign} → Text p ss → Words p → Fitted ss
text-fitted Text.nothing w = Fitted.none
text-fitted (Text.some x) w = prints-fitted x (behind w)
