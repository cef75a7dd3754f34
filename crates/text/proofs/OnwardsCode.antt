-- The turns of `onwards`: what is left of the definition's work from the reader of a turn gives the whole. Assumes nothing.
use mathlib.Core.Path.{◌≡◌, refl, subst}
use mathlib.Core.Bool.{Bool, true, false, cond, ◌&&◌}
use mathlib.Core.List.{List}
use Prim.Native.Nat.{ℕ, suc, ◌+◌, ◌-◌, ◌≤◌, ◌<◌}
use native.Mathlib.Omega.{arith}
use borrow.Author.Tests.{lt-ltb, le-ltb}
use lib.Dec.{eqb, ltb, leb}
use lib.IntN.{ℤ}
use lib.ListN.{length}
use Rattle.words.specs.Answer.{Answer, got, stop, ◌>>=◌}
use Rattle.tokens.specs.declared.Token.{Token}
use Rattle.text.specs.Reading.{Fault, Reader, Form, passing, peek, refusal, level_of, is_operator, enough, over, onwards, climb}
use Rattle.text.specs.Reading.{take as take_by}
use Rattle.text.specs.declared.Carried.{Carried}
use Rattle.text.specs.Told.{reader_of, refused_by, Peeks, Follows}
use Rattle.text.specs.declared.Lent.{Lent}
use Rattle.text.specs.Pieces.{lent, form_of, Onward, joined_by}
use Rattle.text.proofs.AnswerSteps.{beside, bind-pair}
use Rattle.text.proofs.DoesLaws.{Program, does-then, does-as, does-wider, does-nothing, does-stopped, does-refused, does-take}
use Rattle.text.proofs.ClimbCode.{right_by}

-- the rest of the work, with so much fuel and so many brackets
abbrev pub rest_by : List ℕ → ℕ → Bool → ℕ → ℕ → ℕ → Program
rest_by text left in_c low b fuel f q = onwards text (λ l v. climb text left in_c l v) fuel left low b f q

-- what is done by the rest from a and r on is done by the whole from the start on
abbrev pub Rest : List ℕ → ℕ → ℕ → Bool → ℕ → ℕ → Lent → Carried → Lent → Carried → ℕ → ℕ → Type 0
Rest text from left in_c low brackets a₀ r₀ a r b fuel =
    (most : ℕ) → most ≤ 3 → (c : Lent) (u : Carried)
    → Onward true most most from a r (rest_by text left in_c low b fuel) c u → Onward true most most from a₀ r₀ (rest_by text left in_c low brackets (enough text)) c u

pub record Turns (text : List ℕ) (from left : ℕ) (in_c : Bool) (low brackets : ℕ) (a₀ : Lent) (r₀ : Carried) (a : Lent) (r : Carried) (b round : ℕ) : Type 0 where
  pub fuel : ℕ
  pub counts : fuel + round ≡ suc (length text)
  pub rest : Rest text from left in_c low brackets a₀ r₀ a r b fuel
  pub deep : (r₀.number ≡ 0 → r₀.depth ≤ suc left) → r.number ≡ 0 → r.depth ≤ suc left

pub turns-start : {text : List ℕ} {from left low brackets : ℕ} {in_c : Bool} {a : Lent} {r : Carried} → Turns text from left in_c low brackets a r a r brackets 0
turns-start {text = text} = record { fuel = suc (length text); counts = omega arith; rest = λ most le c u d. d; deep = λ h. h }

-- ---- what one turn does

joined-on : {A B : Type 0} (m : Answer Fault A) (k : A → Answer Fault (Form × Reader)) (g : Form → Form) (h : Form × Reader → Answer Fault B)
    → ((m >>= λ s. k s >>= λ y. got (g y.0, y.1)) >>= h) ≡ (m >>= λ s. k s >>= λ y. h (g y.0, y.1))
joined-on (got s) k g h = one (k s)
  where
    one : (n : Answer Fault (Form × Reader)) → ((n >>= λ y. got (g y.0, y.1)) >>= h) ≡ (n >>= λ y. h (g y.0, y.1))
    one (got y) = refl
    one (stop e) = refl
joined-on (stop e) k g h = refl

module _ (text : List ℕ) (left : ℕ) (in_c : Bool) (low b fuel : ℕ) (t : Token) (f : Form) (q : Reader) (is : t ≡ peek text q) where
  close-turn : eqb t.code 38 && ltb 0 b ≡ true → (beside f (take_by text 0 q) >>= λ x. rest_by text left in_c low (b - 1) fuel x.0 x.1) ≡ rest_by text left in_c low b (suc fuel) f q
  unfolding onwards
  close-turn h = rw (← is, h) (bind-pair (take_by text 0 q) f _)

  module _ (h : eqb t.code 38 && ltb 0 b ≡ false) where
    join-turn : is_operator t.code && leb (cond (ltb 0 b) 1 low) (level_of (t.code - 40)) ≡ true
        → (joined_by text left in_c t f q >>= λ x. rest_by text left in_c low b fuel x.0 x.1) ≡ rest_by text left in_c low b (suc fuel) f q
    unfolding onwards
    join-turn j =
        rw (← is, h, j)
        (joined-on (take_by text 2 (passing (ltb left f.depth) q)) (λ s. right_by text left in_c t s) (λ e. over text t f e) (λ x. rest_by text left in_c low b fuel x.0 x.1))

    module _ (j : is_operator t.code && leb (cond (ltb 0 b) 1 low) (level_of (t.code - 40)) ≡ false) where
      refuse-turn : ltb 0 b ≡ true → stop (refusal text (peek text q)) ≡ rest_by text left in_c low b (suc fuel) f q
      unfolding onwards
      refuse-turn k = rw (← is, h, j, k)

      end-turn : ltb 0 b ≡ false → got (f, q) ≡ rest_by text left in_c low b (suc fuel) f q
      unfolding onwards
      end-turn k = rw (← is, h, j, k)

-- ---- from turn to turn

module _ {text : List ℕ} {from left low brackets b round : ℕ} {in_c : Bool} {a₀ a : Lent} {r₀ r : Carried} (inv : Turns text from left in_c low brackets a₀ r₀ a r b round) where
  pub turns-stop : (r.number ≡ 0 → ⊥) → (most : ℕ) → most ≤ 3 → Onward true most most from a₀ r₀ (rest_by text left in_c low brackets (enough text)) a r
  turns-stop h most le = inv.rest most le a r (does-stopped h)

  pub turns-over : {t : Token} {s : Carried} → length text < round → r.number ≡ 0 → Peeks text r t → s ≡ refused_by t r
      → (most : ℕ) → most ≤ 3 → Onward true most most from a₀ r₀ (rest_by text left in_c low brackets (enough text)) a s
  unfolding onwards
  turns-over {s = s} h z p is most le =
      let e : inv.fuel ≡ 0 = omega (arith, inv.counts) in subst (Rest text from left in_c low brackets a₀ r₀ a r b) e inv.rest most le a s (does-refused text z p is)

  module _ (more : round ≤ length text) (z : r.number ≡ 0) {t : Token} (p : Peeks text r t) where
    later : Rest text from left in_c low brackets a₀ r₀ a r b (suc (inv.fuel - 1))
    later = let e : inv.fuel ≡ suc (inv.fuel - 1) = omega (arith, inv.counts) in subst (Rest text from left in_c low brackets a₀ r₀ a r b) e inv.rest

    pub turns-close : {s : Carried} → eqb t.code 38 && ltb 0 b ≡ true → Follows r (λ q. take_by text 0 q) s → Turns text from left in_c low brackets a₀ r₀ a s (b - 1) (round + 1)
    turns-close h takes =
        record {
          fuel = inv.fuel - 1;
          counts = omega (arith, inv.counts);
          rest = λ most le c u d.
              later most le c u
              (does-as (does-then (does-wider {m = most} {m1 = 0} (omega arith) (omega arith) (does-take text 0 takes)) d)
              (λ fit y. close-turn text left in_c low b (inv.fuel - 1) t (form_of true from a r) (reader_of a.names r) (p a.names) h));
          deep = λ f y. rw takes.depth (inv.deep f z);
        }

    module _ (h : eqb t.code 38 && ltb 0 b ≡ false) where
      pub turns-join : {c : Lent} {s : Carried} → is_operator t.code && leb (cond (ltb 0 b) 1 low) (level_of (t.code - 40)) ≡ true
          → ((most : ℕ) → most ≤ 3 → Onward true most most from a r (λ f q. joined_by text left in_c t f q) c s)
          → (s.number ≡ 0 → s.depth ≤ suc left)
          → Turns text from left in_c low brackets a₀ r₀ c s b (round + 1)
      turns-join j joined deep =
          record {
            fuel = inv.fuel - 1;
            counts = omega (arith, inv.counts);
            rest = λ most le c u d.
                later most le c u
                (does-as (does-then (joined most le) d)
                (λ fit y. join-turn text left in_c low b (inv.fuel - 1) t (form_of true from a r) (reader_of a.names r) (p a.names) h j));
            deep = λ f y. deep y;
          }

      module _ (j : is_operator t.code && leb (cond (ltb 0 b) 1 low) (level_of (t.code - 40)) ≡ false) where
        pub turns-refuse : {s : Carried} → 0 < b → s ≡ refused_by t r → (most : ℕ) → most ≤ 3 → Onward true most most from a₀ r₀ (rest_by text left in_c low brackets (enough text)) a s
        turns-refuse {s = s} k is most le =
            later most le a s
            (does-as (does-refused text z p is) (λ fit y. refuse-turn text left in_c low b (inv.fuel - 1) t (form_of true from a r) (reader_of a.names r) (p a.names) h j (lt-ltb 0 b k)))

        pub turns-end : b ≤ 0 → (most : ℕ) → most ≤ 3 → Onward true most most from a₀ r₀ (rest_by text left in_c low brackets (enough text)) a r
        turns-end k most le =
            later most le a r
            (does-as does-nothing (λ fit y. end-turn text left in_c low b (inv.fuel - 1) t (form_of true from a r) (reader_of a.names r) (p a.names) h j (le-ltb 0 b k)))

-- the same of equal rows and readers
pub turns_as : {text : List ℕ} {from left low brackets b e round : ℕ} {in_c : Bool} {a₀ : Lent} {r₀ r s : Carried} {ns ms : List ℕ} {ws vs : List ℤ} {os us : List ℕ}
    → ms ≡ ns → vs ≡ ws → us ≡ os → s ≡ r → e ≡ b → Turns text from left in_c low brackets a₀ r₀ (lent ns ws os) r b round → Turns text from left in_c low brackets a₀ r₀ (lent ms vs us) s e round
turns_as h i j k l t = rw (h, i, j, k, l) t
