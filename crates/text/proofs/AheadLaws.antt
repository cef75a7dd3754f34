-- The row keeps the token that stands there. Assumes nothing.
use mathlib.Core.Path.{◌≡◌}
use mathlib.Core.Bool.{Bool}
use mathlib.Core.List.{List}
use Prim.Native.Nat.{ℕ}
use lib.Dec.{eqb, ltb}
use Rattle.tables.proofs.SearchLaws.{cases}
use Rattle.tokens.specs.Codes.{too_long}
use Rattle.text.specs.Reading.{peek}
use Rattle.text.specs.declared.Carried.{Carried}
use Rattle.text.specs.Told.{next_of, reader_of, refused_at, refused_by, room_with, named_variable, named_label, looked_by, took_by, Ahead}
use Rattle.text.specs.Written.{wrote_one, pass_by, deep_by, numbered_by}
use Rattle.text.proofs.RaisedLaws.{grown_by}
use Rattle.text.proofs.WritingCode.{owing_by}

module _ (text : List ℕ) (r : Carried) {s : Carried} where
  pub ahead-looked : s ≡ looked_by text r → Ahead text s
  unfolding reader_of peek
  ahead-looked is = λ names. rw is

  pub ahead-took : (k : ℕ) → s ≡ took_by text k r → Ahead text r → Ahead text s
  unfolding reader_of peek took_by
  ahead-took k is h = λ names. rw is (cases (room_with k r) (λ e. rw e) (λ e. rw e (h names)))

  pub ahead-refused : s ≡ refused_by (next_of r) r → Ahead text r → Ahead text s
  unfolding reader_of peek refused_by
  ahead-refused is h = λ names. rw is (cases (eqb r.code too_long) (λ e. rw e (h names)) (λ e. rw e (h names)))

  pub ahead-refused-at : (n : ℕ) → s ≡ refused_at n r.start r → Ahead text r → Ahead text s
  unfolding reader_of peek
  ahead-refused-at n is h = λ names. rw is (h names)

  pub ahead-variable : (c n : ℕ) → s ≡ named_variable c n r → Ahead text r → Ahead text s
  unfolding reader_of peek
  ahead-variable c n is h = λ names. rw is (h names)

  pub ahead-label : (c n : ℕ) → s ≡ named_label c n r → Ahead text r → Ahead text s
  unfolding reader_of peek
  ahead-label c n is h = λ names. rw is (h names)

  pub ahead-counted : (n : ℕ) → s ≡ numbered_by n r → Ahead text r → Ahead text s
  unfolding reader_of peek
  ahead-counted n is h = λ names. rw is (h names)

  pub ahead-wrote : s ≡ wrote_one r → Ahead text r → Ahead text s
  unfolding reader_of peek wrote_one
  ahead-wrote is h = λ names. rw is (cases (ltb r.written 4100) (λ e. rw e (h names)) (λ e. rw e (h names)))

  pub ahead-grown : (k : ℕ) → s ≡ grown_by k r → Ahead text r → Ahead text s
  unfolding reader_of peek
  ahead-grown k is h = λ names. rw is (h names)

  pub ahead-owing : (k : ℕ) → s ≡ owing_by k r → Ahead text r → Ahead text s
  unfolding reader_of peek
  ahead-owing k is h = λ names. rw is (h names)

  pub ahead-passed : (b : Bool) → s ≡ pass_by b r → Ahead text r → Ahead text s
  unfolding reader_of peek
  ahead-passed b is h = λ names. rw is (h names)

  pub ahead-deep : (d : ℕ) → s ≡ deep_by d r → Ahead text r → Ahead text s
  unfolding reader_of peek
  ahead-deep d is h = λ names. rw is (h names)
