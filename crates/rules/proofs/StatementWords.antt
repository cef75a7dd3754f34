-- The words of a statement of the program: its own word, its verb, and the part after the target path of an assignment. Assumes nothing.
use mathlib.Core.Path.{◌≡◌, refl, sym, ap, ◌∙◌}
use mathlib.Core.List.{List, ◌∷◌, ◌++◌, append_assoc}
use Prim.Native.Nat.{ℕ, suc, ◌+◌, ◌<◌}
use native.Mathlib.Omega.{arith}
use native.Mathlib.Decide.{dec_lt}
use lib.IntN.{ℤ, pos}
use lib.ListN.{length, get_or}
use lib.Seq.{drop-append_seam}
use Rattle.words.specs.Words.{number_at}
use Rattle.words.proofs.Laws.{number-first, number-drop}
use Rattle.program.specs.Forms.{verbs, verb_of}
use Rattle.program.specs.declared.Verb.{Verb}
use Rattle.program.specs.declared.Verb.TheVariants.{Unknown as no_verb}
use Rattle.program.specs.Grammar.{Labels, Path, statement_of, Yields}
use Rattle.program.specs.Reading.{read_path, after}
use Rattle.program.specs.Told.{told}
use Rattle.program.proofs.FormLaws.{number_of_verb, verb-number}
use Rattle.program.proofs.LengthLaws.{after-got}
use Rattle.program.proofs.BlockLaws.{statement-none}
use Rattle.program.proofs.GrammarLaws.{path-complete}
use Rattle.program.proofs.GrammarSound.{statement-sound}
use Rattle.rules.specs.Rules.Statements.{past_path}
use Rattle.rules.specs.Steps.Holds.{StatementReads}
use Rattle.rules.proofs.VerbLaws.{verb-back, verb-none, told-apart}

-- ---- its word, and its verb

module _ (p : List ℤ) (here : StatementReads p) where
  -- it reads, so its word stands for a verb
  pub known : number_of_verb (verb_of (number_at p 0)) < 9
  known = go (dec_lt (number_of_verb (verb_of (number_at p 0))) 9)
    where
      go : Dec (number_of_verb (verb_of (number_at p 0)) < 9) → number_of_verb (verb_of (number_at p 0)) < 9
      go (yes l) = l
      go (no n) = absurd (told-apart p here.rest (statement-none here.nest p (verb-none (verb_of (number_at p 0)) n) ∙ ap told here.reads))

  pub statement-verb : (v : Verb) → number_at p 0 ≡ number_of_verb v → verb_of (number_at p 0) ≡ v
  statement-verb v e =
      sym (verb-back (verb_of (number_at p 0)))
      ∙ ap (λ n. get_or verbs n no_verb) (sym (verb-number (number_at p 0) known) ∙ e) ∙ verb-back v

-- ---- the part after an L

pub labels_length : {n : ℕ} {ls : List ℤ} → Labels n ls → length ls ≡ n
labels_length Labels.none = refl
labels_length (Labels.one h l) = ap suc (labels_length l)

pub path-past : {a : List ℤ} → Path a → (q : List ℤ) → past_path (a ++ q) ≡ q
path-past (Path.path {x = x} {n = n} {ls = ls} a b l) q =
    let k : number_at (pos x ∷ pos n ∷ (ls ++ q)) 1 ≡ n = sym (number-drop (pos x ∷ pos n ∷ (ls ++ q)) 1 0) ∙ number-first (pos n) (ls ++ q) in
    let i : n + 2 ≡ suc (suc n) = omega arith in
    rw (k, i, ← labels_length l) (drop-append_seam ls q)

record AssignWords (ws : List ℤ) : Type 0 where
  target : List ℤ
  value : List ℤ
  is : ws ≡ pos 1 ∷ target ++ value
  path : Path target

assign-words : {d : ℕ} {ws : List ℤ} (q : List ℤ) → Yields (statement_of d) ws → number_at (ws ++ q) 0 ≡ 1 → AssignWords ws
assign-words q Yields.skip e = absurd (omega (arith, sym (number-first _ _) ∙ e))
assign-words q (Yields.assign {a = a} {e = x} y z) e = record { target = a; value = x; is = refl; path = y }
assign-words q (Yields.new h k f) e = absurd (omega (arith, sym (number-first _ _) ∙ e))
assign-words q (Yields.always c) e = absurd (omega (arith, sym (number-first _ _) ∙ e))
assign-words q (Yields.once c) e = absurd (omega (arith, sym (number-first _ _) ∙ e))
assign-words q (Yields.always_same x y) e = absurd (omega (arith, sym (number-first _ _) ∙ e))
assign-words q (Yields.once_same x y) e = absurd (omega (arith, sym (number-first _ _) ∙ e))
assign-words q (Yields.branch x y z) e = absurd (omega (arith, sym (number-first _ _) ∙ e))
assign-words q (Yields.loop x y) e = absurd (omega (arith, sym (number-first _ _) ∙ e))

-- the part after the target path of an assignment
pub past-path : (p : List ℤ) → StatementReads (pos 1 ∷ p) → past_path p ≡ after (read_path p)
past-path p here =
    let t = statement-sound here.nest (pos 1 ∷ p) here.rest here.reads in
    let w = assign-words here.rest t.piece (rw (← t.split) (number-first (pos 1) p)) in
    let e : pos 1 ∷ p ≡ pos 1 ∷ ((w.target ++ w.value) ++ here.rest) = t.split ∙ ap (λ (us : List ℤ). us ++ here.rest) w.is in
    let i : p ≡ (w.target ++ w.value) ++ here.rest = cc in
    let j : p ≡ w.target ++ (w.value ++ here.rest) = i ∙ append_assoc w.target w.value here.rest in
    rw j (path-past w.path (w.value ++ here.rest) ∙ sym (after-got (path-complete w.path (w.value ++ here.rest))))
