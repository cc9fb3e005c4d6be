-- `colour::lookup::colour_of` meets its contract: one comparison settles every pixel.
-- Assumes nothing.
use mathlib.Core.Path.{sym}
use Prim.Native.Nat.{◌%◌, ◌<◌}
use native.Mathlib.Omega.{arith}
use lib.ListN.{get_or}
use Rattle.colour.specs.Palette.{rgb}
use Rattle.colour.proofs.LookupLaws.{row_small, likely_known, likely_unknown}
use Rattle.colour.proofs.lookup.colour_of.Goals as goal

pub bounds-palette-row : goal.bounds-palette-row
bounds-palette-row c =
    let row_below : get_or c.args.likely.now (c.joined-bytes.result % 53) 0 < 20 = rw c.requires.1 (row_small c.joined-bytes.result) in
    rw c.requires.0 row_below

pub returns-then-palette-row : goal.returns-then-palette-row
returns-then-palette-row c =
    let a = c.args in
    let p = rgb a.r a.g a.b in
    let n = c.joined-bytes in
    rw c.requires.1
    (sym (likely_known p (omega arith, (omega arith, omega arith)) n.result n.ensures (rw (c.requires.0, c.requires.1) at c.if-palette-row.true)))

pub returns : goal.returns
returns c =
    let a = c.args in
    let p = rgb a.r a.g a.b in
    let n = c.joined-bytes in
    sym (likely_unknown p (omega arith, (omega arith, omega arith)) n.result n.ensures (rw (c.requires.0, c.requires.1) at c.if-palette-row.false))
