-- The three tables as they are lent (01, "Lent tables"). Assumes nothing: these are definitions.
use Rattle.std.specs.Prelude.{◌≡◌, length}
use Rattle.tables.specs.declared.View.{View}
use Rattle.tables.specs.declared.Tables.{Tables}
use Rattle.tables.specs.declared.Moving.{Moving}
use Rattle.tables.specs.Cells.{Cells, cells}

-- the cells of tables that are lent to be read, of tables that are lent to be changed, and of those whose cells alone are
abbrev pub seen : View → Cells
seen v = cells v.environment.now v.heap.now

abbrev pub cells_in : Tables → Cells
cells_in t = cells t.environment.now t.heap.now

abbrev pub cells_moved : Moving → Cells
cells_moved m = cells m.environment.now m.heap.now

-- the same slices are still lent, and each keeps its length
pub record StillLent (a b : Tables) : Type 0 where
  pub environment : b.environment.ghost_name ≡ a.environment.ghost_name
  pub heap : b.heap.ghost_name ≡ a.heap.ghost_name
  pub constraints : b.constraints.ghost_name ≡ a.constraints.ghost_name
  pub environment_length : length b.environment.now ≡ length a.environment.now
  pub heap_length : length b.heap.now ≡ length a.heap.now
  pub constraints_length : length b.constraints.now ≡ length a.constraints.now

-- and what is kept is as it was
pub record OnlyCells (a b : Tables) : Type 0 where
  pub kept : b.constraints.now ≡ a.constraints.now
  pub lent : StillLent a b

-- the same of tables whose cells alone are lent to be changed
pub record StillMoved (a b : Moving) : Type 0 where
  pub environment : b.environment.ghost_name ≡ a.environment.ghost_name
  pub heap : b.heap.ghost_name ≡ a.heap.ghost_name
  pub environment_length : length b.environment.now ≡ length a.environment.now
  pub heap_length : length b.heap.now ≡ length a.heap.now
  pub kept : b.constraints.now ≡ a.constraints.now
