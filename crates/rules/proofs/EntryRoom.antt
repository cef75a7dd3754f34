-- A list gives no room back. Assumes nothing.
use mathlib.Core.Path.{◌≡◌}
use Prim.Native.Nat.{ℕ}
use mathlib.Core.List.{List}
use lib.IntN.{ℤ}
use lib.ListN.{length}
use Rattle.tables.specs.Sizes.{constraints_words}
use Rattle.tables.specs.Cells.{Sized}
use Rattle.rules.specs.State.{State}
use Rattle.rules.specs.Rules.Entries.{unstarted, started}
use Rattle.rules.specs.Claims.Entries.{Went, no_more, next, EntriesStay}
use Rattle.rules.proofs.RoomLaws.{Step, step_stays, step-trans, step-self, step_of, stays-self}
use Rattle.rules.proofs.EntryFacts.{facts}
use Rattle.rules.proofs.EntryRules.{passes-hold}

-- what a chain of accepted entries leaves
chain : {program : List ℤ} {n : ℕ} {p ws us : List ℤ} {S Z : State} → Sized S.cells → length S.kept ≡ constraints_words → Went program n p S ws Z us → Step S Z
chain {S = S} z long no_more = step-self S z long
chain {program} {ws = ws} {S = S} z long (next x s r) =
    let a = step_of program S ws z long s in
    step-trans a (chain a.cells.sized a.long r)

pub entries-stay : EntriesStay
entries-stay program entries ws budget S e (unstarted u) = stays-self S
entries-stay program entries ws budget S e (started p r) =
    step_stays (chain p.1.1.fit.sized p.1.1.long (facts program _ r (passes-hold program budget S p)).went)
