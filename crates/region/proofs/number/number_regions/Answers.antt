-- `region::number::number_regions` meets its contract: the map starts with no number, and ends with all. Assumes nothing.
use mathlib.Core.Path.{refl, ap, ◌∙◌}
use mathlib.Core.List.{List, ◌++◌}
use Prim.Native.Nat.{ℕ, ◌*◌}
use native.Mathlib.Omega.{arith}
use lib.ListN.{replicate}
use Rattle.base.proofs.Over.{filled_zero}
use Rattle.region.specs.Steps.{unnumbered}
use Rattle.region.proofs.GridLaws.{room_kept}
use Rattle.region.proofs.Cells.{filled_at, filled_rest}
use Rattle.region.proofs.Numbering.{part_none, part_whole}
use Rattle.region.proofs.number.number_regions.Goals as goal

pub scan-n-requires : goal.scan-n-requires
scan-n-requires c =
    let the-pre = c.requires in
    let the-fill = c.fill in
    let the-args = c.args in record { room = room_kept the-pre the-fill.auto.d refl; part = part_none (filled_at the-args.map.now (the-args.grid.shape.rows * the-args.grid.shape.cols) unnumbered the-fill.ensures) }

pub returns : goal.returns
returns c =
    let the-args = c.args in
    let the-scan = c.scan-n in
    let the-fill = c.fill in
    let the-pre = c.requires in
    let the-fill2 = c.fill-2 in
    let n = the-args.grid.shape.rows * the-args.grid.shape.cols in record { numbers = part_whole the-scan.ensures.part (omega (arith, the-scan.auto.map, the-fill.auto.d, the-pre.map_room)); rest = the-scan.ensures.map_rest ∙ filled_rest the-args.map.now n unnumbered the-fill.ensures; zeros = the-fill2.ensures ∙ filled_zero the-scan.new.work n 0 ∙ ap (λ (l : List ℕ). replicate n 0 ++ l) the-scan.ensures.work_rest }
