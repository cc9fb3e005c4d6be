-- `cfg::filling::begin` meets its contract: the crate region's contracts, read at the shape of the picture.
-- Assumes nothing.
use mathlib.Core.Path.{◌∙◌}
use Rattle.region.proofs.GridLaws.{framed_grid}
use Rattle.cfg.proofs.filling.begin.Goals as goal

pub returns : goal.returns
returns c =
    let the-pre = c.requires in
    let the-number-regions = c.number_regions-n in
    let the-region-rows = c.region_rows in
    record {
      sound = the-pre.sound;
      map_long = the-number-regions.auto.map ∙ the-pre.map_long;
      regions = rw (framed_grid c.args.grid) at the-number-regions.ensures.numbers;
      table = rw (framed_grid c.args.grid) at the-region-rows.ensures.table;
      rows_long = the-region-rows.auto.rows ∙ the-pre.rows_long;
    }
