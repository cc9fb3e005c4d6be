use mathlib.Core.Path.{◌≡◌}
use mathlib.Core.List.{List}
use Prim.Native.Nat.{ℕ, ◌<◌}
use native.Mathlib.Omega.{arith}
use lib.ListN.{get_or}
use Rattle.picture.specs.declared.grid.CodelGrid.{CodelGrid}
use Rattle.picture.proofs.Codels.{grid_few}
use Rattle.region.specs.Grid.{grid_at, count}
use Rattle.region.specs.Room.{Room}
use Rattle.region.specs.Steps.{unnumbered, Part}
use Rattle.region.proofs.Filling.{Seeded, flood_start, flood_turn, flood_end}
use Rattle.region.proofs.explore.explore_region.Goals as goal

-- what the call may rely on
seeded : (g : CodelGrid) (seed k : ℕ) {m w : List ℕ} → Room g m w → Part (grid_at g) seed k m → seed < count (grid_at g) → get_or m seed 0 ≡ unnumbered
    → Seeded (grid_at g) seed k m w
seeded g seed k room part inside free =
    record { part = part; small = omega (arith, part.few, grid_few g); inside = inside; free = free; long = room.map_room; wide = room.work_room }

pub loop-head-init : goal.loop-head-init
loop-head-init c =
    let p = c.requires in
    flood_start (seeded c.args.grid c.args.seed c.args.number p.room p.part p.seed_bound p.seed_value)

pub loop-head-preserved : goal.loop-head-preserved
loop-head-preserved c =
    let p = c.requires in
    let s = seeded c.args.grid c.args.seed c.args.number p.room p.part p.seed_bound p.seed_value in
    flood_turn s c.loop-head.invariant c.loop-head-test.true c.expand-tail.ensures

pub returns : goal.returns
returns c =
    let p = c.requires in
    flood_end (seeded c.args.grid c.args.seed c.args.number p.room p.part p.seed_bound p.seed_value) c.loop-head.invariant c.loop-head-test.false
