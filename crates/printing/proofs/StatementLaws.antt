-- What the code writes of a statement and of a block is its signs, and what it leaves are the words behind it. Assumes nothing.
use mathlib.Core.Path.{◌≡◌, refl, sym, ap, ◌∙◌}
use mathlib.Core.List.{List, [], ◌∷◌, append-nil}
use Prim.Native.Nat.{ℕ, zero, suc, ◌-◌, ◌<◌}
use native.Mathlib.Omega.{arith}
use native.Mathlib.Numerals.{sub-one}
use lib.IntN.{ℤ}
use lib.ListN.{drop}
use Rattle.words.specs.Words.{number_at}
use Rattle.program.specs.Forms.{verb_of}
use Rattle.program.specs.declared.Verb.{Verb}
use Rattle.program.specs.declared.Verb.TheVariants.{Unknown as no_verb}
use Rattle.program.proofs.FormLaws.{number_of_verb, verb-is}
use Rattle.printing.specs.Signs.{space, line_bytes, line, semicolon_sign, if_sign, then_sign, else_sign, while_sign, do_sign, open_brace_sign, close_brace_sign}
use Rattle.printing.specs.Naming.{Naming, bytes_of}
use Rattle.printing.specs.Printing.{Printed, then, say, until, row_text, whole_text, branch_text, loop_text, verb_text, verb_at, braces, block_text, statement_text, statements_text}
use Rattle.printing.specs.Page.{Added, Wrote}
use Rattle.printing.specs.declared.page.Page.{Page}
use Rattle.printing.proofs.PageLaws.{wrote_then, wrote-plain}
use Rattle.printing.proofs.PieceLaws.{Gives, gives_none, gives-say, gives-until, gives_then}

-- ---- new lines

pub wrote-line : {a b : Page} (d : ℕ) → Added a (line_bytes d) b → Wrote a (line d ∷ []) b
wrote-line d e = wrote-plain {ss = line d ∷ []} (rw (append-nil (line_bytes d)) e) refl

pub next-bytes : (N : Naming) (d : ℕ) → 59 ∷ line_bytes d ≡ bytes_of N (semicolon_sign ∷ line d ∷ [])
next-bytes N d = ap (λ s. 59 ∷ s) (sym (append-nil (line_bytes d)))

-- ---- statements with blocks

module _ {a b c : Page} {q r : List ℤ} (block : List ℤ → Printed) (p : List ℤ) where
  pub loop-gives : {e f : Page} → Wrote a (while_sign ∷ space ∷ []) b → Gives b (whole_text p) c q → Wrote c (space ∷ do_sign ∷ space ∷ []) e
      → Gives e (block q) f r → Gives a (loop_text block p) f r
  unfolding loop_text
  loop-gives w g v h =
      gives-say (while_sign ∷ space ∷ []) (then (whole_text p) (λ q. say (space ∷ do_sign ∷ space ∷ []) (block q))) w
      (gives_then whole_text block (space ∷ do_sign ∷ space ∷ []) g v h)

  pub branch-gives : {e f g h : Page} {s : List ℤ} → Wrote a (if_sign ∷ space ∷ []) b → Gives b (whole_text p) c q → Wrote c (space ∷ then_sign ∷ space ∷ []) e
      → Gives e (block q) f s → Wrote f (space ∷ else_sign ∷ space ∷ []) g → Gives g (block s) h r → Gives a (branch_text block p) h r
  unfolding branch_text
  branch-gives {g = g} {h = h} {s = s} w x v y u z =
      let k : Gives _ (block (whole_text p).1) _ s = rw x.rest at y in
      let t : Gives g (block (block (whole_text p).1).1) h r = rw k.rest at z in record {
        wrote = wrote_then {ss = if_sign ∷ space ∷ []} w (wrote_then {ss = (whole_text p).0} x.wrote (wrote_then {ss = space ∷ then_sign ∷ space ∷ []} v
            (wrote_then {ss = (block (whole_text p).1).0} k.wrote (wrote_then {ss = space ∷ else_sign ∷ space ∷ []} u t.wrote))));
        rest = t.rest;
      }

-- ---- a statement by the number of its verb

module _ {a : Page} {n : ℕ} (d : ℕ) (p : List ℤ) (is : n ≡ number_at p 0) where
  pub verb-gives : {b : Page} {r : List ℤ} (v : Verb) → n ≡ number_of_verb v → number_of_verb v < 9 → Gives a (verb_text (λ q. block_text d q) p v) b r → Gives a (statement_text d p) b r
  unfolding statement_text verb_at
  verb-gives v k h g =
      let e : verb_of (number_at p 0) ≡ v = ap verb_of (sym is ∙ k) ∙ verb-is v h in
      rw e g

  pub no-verb-gives : verb_of n ≡ no_verb → Gives a (statement_text d p) a p
  unfolding statement_text verb_at verb_text
  no-verb-gives e =
      let z : verb_of (number_at p 0) ≡ no_verb = ap verb_of (sym is) ∙ e in
      rw z (gives_none p)

-- ---- blocks

pub block-deep : {a : Page} (d : ℕ) (p : List ℤ) → d ≡ 0 → Gives a (block_text d p) a p
unfolding block_text
block-deep d p e = rw e (gives_none p)

-- a block inside its braces
block-open : (d : ℕ) (p : List ℤ) → (d ≡ 0 → ⊥) → braces (d - 1) (number_at p 0) (statements_text (d - 1) p) ≡ block_text d p
unfolding block_text statements_text statement_text
block-open zero p h = absurd (h refl)
block-open (suc d) p h = rw (sub-one (suc d))

module _ {a b : Page} {n : ℕ} {r : List ℤ} (d : ℕ) (p : List ℤ) (deep : d ≡ 0 → ⊥) (is : n ≡ number_at p 0) where
  pub block-empty : n ≡ 0 → Wrote a (open_brace_sign ∷ close_brace_sign ∷ []) b → r ≡ drop 1 p → Gives a (block_text d p) b r
  unfolding statements_text row_text
  block-empty z w l =
      let e : number_at p 0 ≡ 0 = sym is ∙ z in
      rw (← block-open d p deep, e) (record { wrote = w; rest = l })

  pub block-gives : {c e f g : Page} → (n ≡ 0 → ⊥) → Wrote a (open_brace_sign ∷ []) b → Wrote b (line (d - 1) ∷ []) c → Gives c (statements_text (d - 1) p) e r
      → Wrote e (line d ∷ []) f → Wrote f (close_brace_sign ∷ []) g → Gives a (block_text d p) g r
  block-gives {g = end} nz w v g u t = rw (← block-open d p deep) (go (number_at p 0) (λ z. nz (is ∙ z)))
    where
      lined : line (suc (d - 1)) ≡ line d
      lined = let e : suc (d - 1) ≡ d = omega (arith, deep) in rw e

      go : (m : ℕ) → (m ≡ 0 → ⊥) → Gives a (braces (d - 1) m (statements_text (d - 1) p)) end r
      go zero h = absurd (h refl)
      go (suc m) h =
          rw lined
          (gives-say (open_brace_sign ∷ line (d - 1) ∷ []) (until (statements_text (d - 1) p) (line d ∷ close_brace_sign ∷ [])) (wrote_then {ss = open_brace_sign ∷ []} {tt = line (d - 1) ∷ []} w v)
          (gives-until (statements_text (d - 1) p) (line d ∷ close_brace_sign ∷ []) g (wrote_then {ss = line d ∷ []} {tt = close_brace_sign ∷ []} u t)))
