-- `cfg::building::build` meets its contract: where nothing is refused, what the tests left is what the table needs; any other answer leaves the slices as they were.
-- Assumes nothing.
use lib.ListN.{length}
use mathlib.Core.Path.{sym, ◌∙◌}
use Rattle.std.proofs.lemmas.Result.{err_from_is_err_and}
use Rattle.base.proofs.EditionLaws.{edition_known, edition_refused}
use Rattle.cfg.specs.Build.{refused, done}
use Rattle.picture.proofs.Codels.{frames}
use Rattle.cfg.proofs.Refusing.{picture_accepted, picture_none_refused, on_unknown, on_known}
use Rattle.picture.specs.Picture.{picture}
use Rattle.cfg.proofs.building.build.Goals as goal

pub returns-in_err-known : goal.returns-in_err-known
returns-in_err-known c =
    let p = err_from_is_err_and c.from_residual.result c.from_residual.ensures.1 in
    let a = c.args in
    let k = edition_refused a.edition (c.in_err-known.ensures) in
    rw (p.1, p.2, k.1) (refused _ (on_unknown a.edition (picture a.height a.width a.codel a.colours.now) (length a.map.now) (length a.rows.now) (length a.exits.now) (length a.work.now) k.0))

pub returns-in_err-check : goal.returns-in_err-check
returns-in_err-check c =
    let p = err_from_is_err_and c.from_residual-in_err-check.result c.from_residual-in_err-check.ensures.1 in
    let a = c.args in
    let k = edition_known a.edition (c.in_ok-known.ensures) in
    rw (p.1, p.2) (refused _ (c.in_err-check.ensures ∙ on_known a.edition (picture a.height a.width a.codel a.colours.now) (length a.map.now) (length a.rows.now) (length a.exits.now) (length a.work.now) k.0))

pub shape_of-shape-requires : goal.shape_of-shape-requires
shape_of-shape-requires c =
    let a = c.args in
    let k = picture_accepted (picture a.height a.width a.codel a.colours.now) (length a.map.now) (length a.rows.now) (length a.exits.now) (length a.work.now) _ (c.in_ok-check.ensures) in (k.sound.not_high, k.sound.not_wide, k.sound.some, k.sound.small)

pub write_table-requires : goal.write_table-requires
write_table-requires c =
    let a = c.args in
    let k = picture_accepted (picture a.height a.width a.codel a.colours.now) (length a.map.now) (length a.rows.now) (length a.exits.now) (length a.work.now) _ (c.in_ok-check.ensures) in
    rw c.shape_of-shape.ensures k

pub returns : goal.returns
returns c =
    let a = c.args in
    let k = edition_known a.edition (c.in_ok-known.ensures) in
    let n = picture_none_refused (picture a.height a.width a.codel a.colours.now) (length a.map.now) (length a.rows.now) (length a.exits.now) (length a.work.now) _ (c.in_ok-check.ensures) in
    let o = on_known a.edition (picture a.height a.width a.codel a.colours.now) (length a.map.now) (length a.rows.now) (length a.exits.now) (length a.work.now) k.0 in
    done (sym o ∙ n) (rw (c.shape_of-shape.ensures, k.1) at c.write_table.ensures)

pub invariant_of-grid : goal.invariant_of-grid
invariant_of-grid c =
    let a = c.args in
    let k = picture_accepted (picture a.height a.width a.codel a.colours.now) (length a.map.now) (length a.rows.now) (length a.exits.now) (length a.work.now) _ c.in_ok-check.ensures in
    record { framed = rw c.shape_of-shape.ensures (frames k.sound) }
