use mathlib.Core.Path.{refl, sym}
use lib.Seq.{set_out}
use Rattle.printing.proofs.PageLaws.{Stored, put-counts, put-stays}
use Rattle.printing.proofs.page.Page.put.Goals as goal
use Rattle.printing.proofs.page.Page.put.Goals.{Joined-self, then-self, else-self}

-- the page after the first test
stored : (c : Joined-self) → Stored c.args.self.now c.args.b c.if-self.self
stored c =
    elim c.if-self.branch [
      | then-self w ↦ rw w.self-is (record { bytes = refl; at = refl; seen = refl; names = refl; row = refl })
      | else-self w ↦
          rw w.self-is
          (record { bytes = sym (set_out c.args.self.now.out.now c.args.self.now.at c.args.b w.if-self.false); at = refl; seen = refl; names = refl; row = refl })
    ]

pub returns-then-self-lt-FAR : goal.returns-then-self-lt-FAR
returns-then-self-lt-FAR c = put-counts (stored (goal.at.returns-then-self-lt-FAR c).Joined-self) c.if-self-lt-FAR.true

pub returns-else-self-lt-FAR : goal.returns-else-self-lt-FAR
returns-else-self-lt-FAR c = put-stays (stored (goal.at.returns-else-self-lt-FAR c).Joined-self) c.if-self-lt-FAR.false
