-- White space, tokens and white space make up a text, and its first token from a byte on is exactly the one that is found. Assumes nothing.
use mathlib.Core.Path.{◌≡◌, refl, sym, ap, subst, ◌∙◌}
use mathlib.Core.Bool.{Bool}
use mathlib.Core.List.{List, ◌++◌}
use Prim.Native.Nat.{ℕ, ◌+◌, ◌-◌, ◌≤◌, ◌<◌}
use native.Mathlib.Omega.{arith}
use borrow.Author.Tests.{ltb-true, ltb-false}
use lib.Dec.{ltb}
use lib.ListN.{length, drop, length-drop, length-append}
use lib.Seq.{drop-append_seam}
use Rattle.tokens.specs.declared.Token.{Token}
use Rattle.tokens.specs.Bytes.{is_white, trimmed}
use Rattle.tokens.specs.Tokens.{piece, most_bytes, token_at, limited, rest_from, token_from}
use Rattle.tokens.specs.Rules.{All, Over, TokenIs, TokenFrom}
use Rattle.tokens.specs.Claims.{Follows, Makes, MakesUp}
use Rattle.tokens.proofs.ByteLaws.{cases}
use Rattle.tokens.proofs.RunLaws.{run_is, Split, split}
use Rattle.tokens.proofs.TokenLaws.{limited-past, limited-in}
use Rattle.tokens.proofs.TokenRules.{complete, found, by_length}

-- the bytes behind white space
trimmed-is : (w r : List ℕ) → All is_white w → Over is_white r → trimmed (w ++ r) ≡ r
unfolding trimmed
trimmed-is w r a o = ap (λ n. drop n (w ++ r)) (run_is is_white w r a o) ∙ drop-append_seam w r

module _ (text : List ℕ) (at : ℕ) (h : at ≤ length text) (w r : List ℕ) (is : drop at text ≡ w ++ r) where
  -- where they begin
  lengths : length text ≡ at + length w + length r
  lengths =
      let e : length text - at ≡ length w + length r = sym (length-drop at text) ∙ ap length is ∙ length-append w r in
      omega arith

  module _ (a : All is_white w) (o : Over is_white r) where
    rest-is : rest_from text at ≡ r
    unfolding rest_from
    rest-is = ap trimmed is ∙ trimmed-is w r a o

    module _ (due : Bool) {c n : ℕ} (t : TokenIs due r c n) where
      found-is : token_from due text at ≡ limited (piece c n) (at + length w)
      unfolding token_from
      found-is =
          let z : at + length w + length r - length r ≡ at + length w = omega arith in
          rw (rest-is, lengths, z, complete due r c n t)

pub follows-complete : (due : Bool) (text : List ℕ) (at : ℕ) → at ≤ length text → (t : Token) → TokenFrom due text at t → token_from due text at ≡ t
follows-complete due text at h _ (TokenFrom.within {w = w} {r = r} {c = c} {n = n} is a o t l) =
    found-is text at h w r is a o due t ∙ sym (limited-in (piece c n) (at + length w) l)
follows-complete due text at h _ (TokenFrom.beyond {w = w} {r = r} {c = c} {n = n} is a o t l) =
    found-is text at h w r is a o due t ∙ sym (limited-past (piece c n) (at + length w) l)

pub follows-found : (due : Bool) (text : List ℕ) (at : ℕ) → at ≤ length text → TokenFrom due text at (token_from due text at)
follows-found due text at h =
    let r : Split is_white (drop at text) = split is_white (drop at text) in
    let t : TokenIs due r.back (token_at due r.back).code (token_at due r.back).length = found due r.back in
    let end : ℕ = at + length r.front + (token_at due r.back).length in
    let is = found-is text at h r.front r.back r.is r.all r.over due t in
    cases (ltb most_bytes end)
    (λ e. let l : most_bytes < end = ltb-true most_bytes end e in
    subst (TokenFrom due text at) (limited-past (token_at due r.back) (at + length r.front) l ∙ sym is) (TokenFrom.beyond r.is r.all r.over t l))
    (λ e. let l : end ≤ most_bytes = ltb-false most_bytes end e in
    subst (TokenFrom due text at) (limited-in (token_at due r.back) (at + length r.front) l ∙ sym is) (TokenFrom.within r.is r.all r.over t l))

pub follows : Follows
follows due text at h t = (λ e. subst (TokenFrom due text at) e (follows-found due text at h), follows-complete due text at h t)

makes : (due : Bool) (text : List ℕ) (at : ℕ) → at ≤ length text → (t : Token) → TokenFrom due text at t → Makes text at t
makes due text at h _ (TokenFrom.within {w = w} {r = r} {c = c} {n = n} is a o t l) =
    let e : length text ≡ at + length w + length r = lengths text at h w r is in
    by_length t
    (λ z k m. let x : length r ≡ 0 = ap length z in let p : at + length w ≡ length text = omega arith in let q : at + length w + n ≡ length text = omega arith in
    Makes.end h (rw (k, q, p)) (omega arith))
    (λ x y m k. Makes.whole x y (omega arith) (omega arith) (omega arith) l)
makes due text at h _ (TokenFrom.beyond {w = w} {r = r} {c = c} {n = n} is a o t l) =
    let e : length text ≡ at + length w + length r = lengths text at h w r is in
    Makes.longer (by_length t (λ z k m. omega arith) (λ x y m k. omega arith)) refl

pub makes-up : MakesUp
makes-up due text at h = makes due text at h (token_from due text at) (follows-found due text at h)
