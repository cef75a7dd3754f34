-- Each statement that holds no block. Assumes nothing.
use mathlib.Core.Path.{◌≡◌, refl, sym, ◌∙◌}
use mathlib.Core.Bool.{Bool, true, false, not, cond, ◌||◌}
use mathlib.Core.List.{List}
use Rattle.std.specs.Prelude.{None as none, Some as some, Result, Ok, Err}
use Prim.Native.Nat.{ℕ, ◌-◌, ◌≤◌, ◌<◌}
use native.Mathlib.Omega.{arith}
use lib.Dec.{ltb}
use lib.IntN.{ℤ}
use lib.ListN.{length, drop}
use Rattle.words.specs.Words.{number_at, last_of}
use Rattle.words.specs.Answer.{got, stop, ◌>>=◌, ◌>>◌, want}
use Rattle.words.proofs.AnswerLaws.{either}
use Rattle.tables.specs.declared.Moving.{Moving}
use Rattle.tables.specs.declared.Value.{Value}
use Rattle.tables.specs.declared.Sort.{Sort}
use Rattle.tables.specs.declared.Sort.TheVariants.{Values, Identities}
use Rattle.tables.specs.Sizes.{variables, most_fields}
use Rattle.tables.specs.Cells.{Cells}
use Rattle.tables.specs.Kept.{most_kept, kept_count, is_kept, with_position}
use Rattle.program.specs.declared.Refusal.{Refusal}
use Rattle.program.specs.Forms.{expression_depth}
use Rattle.program.specs.Reading.{number, read_path, after}
use Rattle.program.specs.Told.{told, words_left}
use Rattle.program.proofs.NumberLaws.{number_fits_lem, number-high}
use Rattle.program.proofs.LengthLaws.{after-part, uses-keeps, path-uses}
use Rattle.program.proofs.WhereLaws.{after_is}
use Rattle.rules.specs.State.{State, Res, refused, reads}
use Rattle.rules.specs.Paths.{value_at}
use Rattle.rules.specs.Evaluation.{same, evaluate}
use Rattle.rules.specs.Identities.{is_node, same_now}
use Rattle.rules.specs.Proposals.{settle}
use Rattle.rules.specs.Statements.{Left, position_of, has_room, keep, do_assign, field_words, do_new, do_constraint, do_identity}
use Rattle.rules.proofs.IdentityClauses.{same-now-is}
use Rattle.rules.proofs.StatementClauses.{room-is, keep-is, new_is, constrain-is, identify-is}
use Rattle.expressions.specs.declared.Evaluated.{Evaluated}
use Rattle.expressions.specs.Told.{evaluated_of}
use Rattle.proposals.specs.Told.{settled_of, settled_cells, Settles}
use Rattle.proposals.proofs.FormLaws.{unlike}
use Rattle.phases.specs.declared.Done.{Done}
use Rattle.phases.specs.Told.{tables, Does}
use Rattle.phases.specs.Classing.{gives, gives_new}
use Rattle.phases.proofs.PhaseLaws.{state_of, refuses, assign-by, new_by, new-same}
use Rattle.statements.specs.Told.{sameness_of}
use Rattle.statements.specs.Filling.{filled_of, Fills}

-- the tables hold the cells that were moved
pub moved : (m : Moving) {S : State} {r : Result Done Refusal} {x : Res Left} {e h k kept : List ℤ}
    → e ≡ m.environment.now → h ≡ m.heap.now → k ≡ kept → Does S (tables m.environment.now m.heap.now kept) r x → Does S (tables e h k) r x
moved m a b c d = rw (a, b, c) d

-- an expression that is refused ends the whole
fails-then : {A : Type 0} {r : Result Evaluated Refusal} {f : Refusal} (m : Res (Value × List ℤ)) (g : Value × List ℤ → Res A) → r ≡ evaluated_of m → r ≡ Err f → (m >>= g) ≡ stop f
fails-then m g e h = by m g (sym e ∙ h)
  where
    by : {A : Type 0} {f : Refusal} (o : Res (Value × List ℤ)) (k : Value × List ℤ → Res A) → evaluated_of o ≡ Err f → (o >>= k) ≡ stop f
    by (got x) k e = unlike cc
    by {f = f} (stop x) k e = let a : x ≡ f = cc in rw (← a)

-- ---- L == L, at the part p of the statement at s

module _ (S : Cells) (s : List ℤ) {p : List ℤ} (part : p ≡ drop 1 s) where
  pub same_left : {r : Result Evaluated Refusal} {f : Refusal} → r ≡ evaluated_of (value_at S p) → r ≡ Err f → Err f ≡ sameness_of (same_now S s (drop 1 s))
  same_left e h = rw (← part, same-now-is S s p, fails-then (value_at S p) _ e h)

  module _ {v : Value} {q : List ℤ} (l : value_at S p ≡ got (v, q)) where
    pub same-right : {r : Result Evaluated Refusal} {f : Refusal} → r ≡ evaluated_of (value_at S q) → r ≡ Err f → Err f ≡ sameness_of (same_now S s (drop 1 s))
    same-right e h = rw (← part, same-now-is S s p, l, fails-then (value_at S q) _ e h)

    module _ {r : Result Evaluated Refusal} {u : Evaluated} (e : r ≡ evaluated_of (value_at S q)) (h : r ≡ Ok u) where
      same-both : same_now S s (drop 1 s) ≡ (want (refused 8 p) (is_node v) >> (want (refused 8 q) (is_node u.value) >> want (refused 11 s) (same v u.value)))
      same-both = rw (← part, same-now-is S s p, l) (by (value_at S q) (sym e ∙ h))
        where
          by : (m : Res (Value × List ℤ)) → evaluated_of m ≡ Ok u
              → (m >>= λ b. want (refused 8 p) (is_node v) >> (want (refused 8 q) (is_node b.0) >> want (refused 11 s) (same v b.0)))
              ≡ (want (refused 8 p) (is_node v) >> (want (refused 8 q) (is_node u.value) >> want (refused 11 s) (same v u.value)))
          by (got x) e = let c : x.0 ≡ u.value = cc in rw c
          by (stop x) e = unlike cc

      pub same_kind : is_node v ≡ false → Err (refused 8 p) ≡ sameness_of (same_now S s (drop 1 s))
      same_kind a = rw (same-both, a)

      pub same-kinds : is_node v ≡ true → is_node u.value ≡ false → Err (refused 8 q) ≡ sameness_of (same_now S s (drop 1 s))
      same-kinds a b = rw (same-both, a, b)

      pub same_not : is_node v ≡ true → is_node u.value ≡ true → same v u.value ≡ false → Err (refused 11 s) ≡ sameness_of (same_now S s (drop 1 s))
      same_not a b c = rw (same-both, a, b, c)

      pub same-holds : is_node v ≡ true → is_node u.value ≡ true → same v u.value ≡ true → Ok tt ≡ sameness_of (same_now S s (drop 1 s))
      same-holds a b c = rw (same-both, a, b, c)

-- ---- positions

module _ (kept : List ℤ) (s : Sort) (position : ℕ) where
  pub room-kept : is_kept kept s position ≡ true → true ≡ has_room kept s position
  room-kept e = rw (room-is kept s position, e)

  pub room-left : is_kept kept s position ≡ false → ltb (kept_count kept s) (most_kept s) ≡ has_room kept s position
  room-left e = rw (room-is kept s position, e)

  pub keep-again : is_kept kept s position ≡ true → kept ≡ keep kept s position
  keep-again e = rw (keep-is kept s position, e)

  pub keep-new : is_kept kept s position ≡ false → with_position kept s position ≡ keep kept s position
  keep-new e = rw (keep-is kept s position, e)

-- ---- always C, once C

pub room-asked : (keeps : Bool) {a b : Bool} → a ≡ b → (not keeps || a) ≡ cond keeps b true
room-asked true e = e
room-asked false e = refl

module _ (program p kept ws : List ℤ) (keeps : Bool) {S Z : Cells} {r : Result ℕ Refusal} {b : Bool} (room : b ≡ cond keeps (has_room kept Values (position_of program p)) true)
    (e : Settles S Z r (settle program kept (record { own = some (drop 1 p); target = none; room = b }) p S ws)) where
  pub constrain-refuses : {f : Refusal} → r ≡ Err f
      → Does (state_of S kept) (state_of Z kept) (Err f) (do_constraint keeps program p (state_of S kept) ws)
  constrain-refuses h =
      rw (constrain-is program p (state_of S kept) ws keeps, ← room)
      (by (settle program kept (record { own = some (drop 1 p); target = none; room = b }) p S ws) _ (sym h ∙ e.is) e.leaves)
    where
      by : {f : Refusal} (m : Res (Cells × List ℤ)) (k : Cells × List ℤ → Res Left) → Err f ≡ settled_of m → Z ≡ settled_cells S m
          → Does (state_of S kept) (state_of Z kept) (Err f) (m >>= k)
      by (got x) k h l = unlike cc
      by {f = f} (stop g) k h l =
          let x : f ≡ g = cc in
          record { is = rw x; leaves = rw l }

  constrain-takes : {left : ℕ} {k : List ℤ} → r ≡ Ok left → k ≡ cond keeps (keep kept Values (position_of program p)) kept
      → Does (state_of S kept) (state_of Z k) (Ok (record { unread = left; accepted = 1 })) (do_constraint keeps program p (state_of S kept) ws)
  constrain-takes {k = k} h j =
      rw (constrain-is program p (state_of S kept) ws keeps, ← room, ← j)
      (by (settle program kept (record { own = some (drop 1 p); target = none; room = b }) p S ws) (sym h ∙ e.is) e.leaves)
    where
      by : {left : ℕ} (m : Res (Cells × List ℤ)) → Ok left ≡ settled_of m → Z ≡ settled_cells S m
          → Does (state_of S kept) (state_of Z k) (Ok (record { unread = left; accepted = 1 })) (m >>= λ x. got (record { state = record { cells = x.0; kept = k }; unread = x.1; accepted = 1 }))
      by {left = left} (got x) h l = let q : left ≡ length x.1 = cc in record { is = rw q; leaves = rw l }
      by (stop f) h l = unlike cc

  pub constrain-keeps : {left : ℕ} {k : List ℤ} → r ≡ Ok left → keeps ≡ true → k ≡ keep kept Values (position_of program p)
      → Does (state_of S kept) (state_of Z k) (Ok (record { unread = left; accepted = 1 })) (do_constraint keeps program p (state_of S kept) ws)
  constrain-keeps h a j = constrain-takes h (rw a j)

  pub constrain-once : {left : ℕ} → r ≡ Ok left → keeps ≡ false
      → Does (state_of S kept) (state_of Z kept) (Ok (record { unread = left; accepted = 1 })) (do_constraint keeps program p (state_of S kept) ws)
  constrain-once h a = constrain-takes h (rw a)

-- ---- always L == L, once L == L

module _ (program p kept ws : List ℤ) (S : Cells) (keeps : Bool) {r : Result (Unit {0}) Refusal} (e : r ≡ sameness_of (same_now S p (drop 1 p))) where
  pub identify-fails : {f : Refusal} → r ≡ Err f
      → Does (state_of S kept) (state_of S kept) (Err f) (do_identity keeps program p (state_of S kept) ws)
  identify-fails h = refuses (rw (identify-is program p (state_of S kept) ws keeps) (by (same_now S p (drop 1 p)) _ (sym e ∙ h)))
    where
      by : {f : Refusal} (m : Res (Unit {0})) (k : Res Left) → sameness_of m ≡ Err f → (m >> k) ≡ stop f
      by (got x) k h = unlike cc
      by {f = f} (stop g) k h = let a : g ≡ f = cc in rw (← a)

  module _ (h : r ≡ Ok tt) where
    identify-on : do_identity keeps program p (state_of S kept) ws
        ≡ (want (refused 14 p) (cond keeps (has_room kept Identities (position_of program p)) true) >> got (record { state = record { cells = S; kept = cond keeps (keep kept Identities (position_of program p)) kept }; unread = ws; accepted = 0 }))
    identify-on = identify-is program p (state_of S kept) ws keeps ∙ by (same_now S p (drop 1 p)) _ (sym e ∙ h)
      where
        by : (m : Res (Unit {0})) (k : Res Left) → sameness_of m ≡ Ok tt → (m >> k) ≡ k
        by (got x) k h = refl
        by (stop f) k h = unlike cc

    pub identify-full : keeps ≡ true → has_room kept Identities (position_of program p) ≡ false
        → Does (state_of S kept) (state_of S kept) (Err (refused 14 p)) (do_identity keeps program p (state_of S kept) ws)
    identify-full a b = refuses (rw (identify-on, a, b))

    pub identify-once : keeps ≡ false
        → Does (state_of S kept) (state_of S kept) (Ok (record { unread = length ws; accepted = 0 })) (do_identity keeps program p (state_of S kept) ws)
    identify-once a = rw (identify-on, a) (record { is = refl; leaves = refl })

    pub identify-keeps : {k : List ℤ} → keeps ≡ true → has_room kept Identities (position_of program p) ≡ true → k ≡ keep kept Identities (position_of program p)
        → Does (state_of S kept) (state_of S k) (Ok (record { unread = length ws; accepted = 0 })) (do_identity keeps program p (state_of S kept) ws)
    identify-keeps a b c = rw (identify-on, a, b, c) (record { is = refl; leaves = refl })

-- ---- assign

pub path-after : (p : List ℤ) {r : Result ℕ ℕ} {left : ℕ} {q e : List ℤ} → q ≡ drop 1 p → r ≡ told (read_path q) → left ≡ words_left r → e ≡ last_of left q → e ≡ after (read_path (drop 1 p))
path-after p {q = q} a b n c = rw (← a) (after_is (read_path q) (after-part (read_path q) (uses-keeps (path-uses q))) b n c)

module _ (program p kept ws : List ℤ) (S : Cells) where
  module _ {e : List ℤ} {r : Result Evaluated Refusal} (at : e ≡ after (read_path (drop 1 p))) (h : r ≡ evaluated_of (evaluate expression_depth S e)) where
    pub assign-fails : {f : Refusal} → r ≡ Err f
        → Does (state_of S kept) (state_of S kept) (Err f) (do_assign program p (state_of S kept) ws)
    assign-fails k = refuses (rw (assign-by program p kept ws S, ← at) (fails-then (evaluate expression_depth S e) _ h k))

    pub assign-gives : {v : Evaluated} → r ≡ Ok v → gives program p (state_of S kept) ws v.value ≡ do_assign program p (state_of S kept) ws
    assign-gives k = rw (assign-by program p kept ws S, ← at) (by (evaluate expression_depth S e) (sym h ∙ k))
      where
        by : {v : Evaluated} (m : Res (Value × List ℤ)) → evaluated_of m ≡ Ok v
            → gives program p (state_of S kept) ws v.value ≡ (m >>= λ x. gives program p (state_of S kept) ws x.0)
        by {v = v} (got x) e = let c : x.0 ≡ v.value = cc in rw c
        by (stop f) e = unlike cc

-- ---- new

module _ (program p kept ws : List ℤ) (S : Cells) {q : List ℤ} {x : ℕ} (first : q ≡ drop 1 p) (named : x ≡ number_at q 0) where
  pub new-variable : variables ≤ x
      → Does (state_of S kept) (state_of S kept) (Err (refused 2 q)) (do_new program p (state_of S kept) ws)
  new-variable h = refuses (rw (new_is program p (state_of S kept) ws, ← first, number-high 0 (variables - 1) q (omega arith) (omega arith)))

  module _ (variable : x < variables) {r : List ℤ} {n : ℕ} (second : r ≡ drop 1 q) (count : n ≡ number_at r 0) where
    new-on : do_new program p (state_of S kept) ws
        ≡ (reads (number 0 most_fields r) >>= λ z. field_words z.0 S z.1 >>= λ fs. gives_new program p (state_of S kept) ws x fs z.0)
    new-on = rw (new_by program p kept ws S first named variable, ← second)

    pub new-many : most_fields < n
        → Does (state_of S kept) (state_of S kept) (Err (refused 2 r)) (do_new program p (state_of S kept) ws)
    new-many h = refuses (rw (new-on, number-high 0 most_fields r (omega arith) (omega arith)))

    module _ (few : n ≤ most_fields) {t fields : List ℤ} {a : Result (Unit {0}) Refusal} (third : t ≡ drop 1 r) (f : Fills fields n a (field_words n S t)) where
      new-fields : do_new program p (state_of S kept) ws ≡ (field_words n S t >>= λ fs. gives_new program p (state_of S kept) ws x fs n)
      new-fields = rw (new-on, number_fits_lem 0 most_fields r (omega arith) (omega arith), ← third, ← count)

      pub new-fails : {j : Refusal} → a ≡ Err j
          → Does (state_of S kept) (state_of S kept) (Err j) (do_new program p (state_of S kept) ws)
      new-fails h = refuses (new-fields ∙ by (field_words n S t) _ (sym h ∙ f.is))
        where
          by : {j : Refusal} (m : Res (List ℤ)) (k : List ℤ → Res Left) → Err j ≡ filled_of m → (m >>= k) ≡ stop j
          by (got y) k h = unlike cc
          by {j = j} (stop g) k h = let c : g ≡ j = cc in rw (← c)

      pub new-gives : a ≡ Ok tt → gives_new program p (state_of S kept) ws x fields n ≡ do_new program p (state_of S kept) ws
      new-gives h =
          either (field_words n S t)
          (λ fs e. new-same program p kept ws S x fields fs n (f.same fs e) ∙ rw (new-fields, e))
          (λ g e. unlike (let y : Ok tt ≡ Err g = sym h ∙ f.is ∙ rw e in cc))
