-- `piet::run_picture::run_picture` meets its contract: where a test fails nothing is written, and where none does the
-- colours in the lent slice are those that building and running promise to follow.
-- Assumes nothing.
use mathlib.Core.Path.{◌≡◌, ◌∙◌, sym}
use Prim.Native.Nat.{◌*◌, ◌≤◌}
use native.Mathlib.Omega.{arith}
use lib.ListN.{length, take}
use lib.Seq.{length-take-le}
use Rattle.colour.specs.Classify.{colours_under}
use Rattle.machine.specs.Machine as machine
use Rattle.machine.specs.Machine.{Asks}
use Rattle.piet.specs.RunPicture.{Asked, Lends, asked, lends, refused}
use Rattle.std.proofs.lemmas.Result.{err_from_is_err_and}
use Rattle.base.proofs.RefusalLaws.{never_done}
use Rattle.piet.proofs.Refusing.{Accepted, accepted}
use Rattle.piet.proofs.Drawing.{painted, painted_part, drawn}
use Rattle.base.proofs.Sides.{side, area}
use Rattle.piet.proofs.run_picture.run_picture.Goals as goal

pub returns-in_err-check : goal.returns-in_err-check
returns-in_err-check c =
    let p = err_from_is_err_and c.from_residual.result c.from_residual.ensures.1 in
    let a = c.args in
    rw (p.1, p.2) (refused _ (c.in_err-check.ensures a.limit a.abstract_mode a.input.now))

pub returns-in_err-classify : goal.returns-in_err-classify
returns-in_err-classify c =
    let what : Asks = machine.asks c.args.edition c.args.limit c.args.abstract_mode c.args.input.now in
    let asks : Asked = asked c.args.pixels.now c.args.height c.args.width c.args.setting c.args.codel what in
    let has : Lends = lends c.args.colours.now c.args.map.now c.args.rows.now c.args.exits.now c.args.work.now c.args.stack.now c.args.kinds.now c.args.values.now in
    let accepting : Accepted asks has =
    accepted asks has _ (c.in_ok-check.ensures c.args.limit c.args.abstract_mode c.args.input.now) in
    absurd (never_done _ _ _ (rw c.in_err-classify.was at c.classify.ensures.answers ∙ accepting.classifies))

pub overflow_mul-n : goal.overflow_mul-n
overflow_mul-n c =
    let what : Asks = machine.asks c.args.edition c.args.limit c.args.abstract_mode c.args.input.now in
    let asks : Asked = asked c.args.pixels.now c.args.height c.args.width c.args.setting c.args.codel what in
    let has : Lends = lends c.args.colours.now c.args.map.now c.args.rows.now c.args.exits.now c.args.work.now c.args.stack.now c.args.kinds.now c.args.values.now in
    let accepting : Accepted asks has =
    accepted asks has _ (c.in_ok-check.ensures c.args.limit c.args.abstract_mode c.args.input.now) in
    let k = accepting.passing in
    record { fits = omega (arith, area (side c.args.height k.high).1 (side c.args.width k.wide).1) }

pub slice_bounds-run_colours-end : goal.slice_bounds-run_colours-end
slice_bounds-run_colours-end c =
    let what : Asks = machine.asks c.args.edition c.args.limit c.args.abstract_mode c.args.input.now in
    let asks : Asked = asked c.args.pixels.now c.args.height c.args.width c.args.setting c.args.codel what in
    let has : Lends = lends c.args.colours.now c.args.map.now c.args.rows.now c.args.exits.now c.args.work.now c.args.stack.now c.args.kinds.now c.args.values.now in
    let accepting : Accepted asks has =
    accepted asks has _ (c.in_ok-check.ensures c.args.limit c.args.abstract_mode c.args.input.now) in
    let fits : let a = asks in a.height * a.width ≤ length c.classify.new.colours = omega (arith, accepting.passing.fits, c.classify.auto.colours) in
    fits

pub slice_bounds-run_colours-end-2 : goal.slice_bounds-run_colours-end-2
slice_bounds-run_colours-end-2 c =
    let what : Asks = machine.asks c.args.edition c.args.limit c.args.abstract_mode c.args.input.now in
    let asks : Asked = asked c.args.pixels.now c.args.height c.args.width c.args.setting c.args.codel what in
    let has : Lends = lends c.args.colours.now c.args.map.now c.args.rows.now c.args.exits.now c.args.work.now c.args.stack.now c.args.kinds.now c.args.values.now in
    let accepting : Accepted asks has =
    accepted asks has _ (c.in_ok-check.ensures c.args.limit c.args.abstract_mode c.args.input.now) in
    let fits : let a = asks in a.height * a.width ≤ length c.classify.new.colours = omega (arith, accepting.passing.fits, c.classify.auto.colours) in
    sym (length-take-le _ _ fits)

pub run_colours-requires : goal.run_colours-requires
run_colours-requires c =
    let what : Asks = machine.asks c.args.edition c.args.limit c.args.abstract_mode c.args.input.now in
    let asks : Asked = asked c.args.pixels.now c.args.height c.args.width c.args.setting c.args.codel what in
    let has : Lends = lends c.args.colours.now c.args.map.now c.args.rows.now c.args.exits.now c.args.work.now c.args.stack.now c.args.kinds.now c.args.values.now in
    let accepting : Accepted asks has =
    accepted asks has _ (c.in_ok-check.ensures c.args.limit c.args.abstract_mode c.args.input.now) in
    let shown : let a = asks in take (a.height * a.width) c.classify.new.colours ≡ colours_under a.pixels a.setting = painted_part asks has accepting c.classify.new.colours c.classify.ensures in
    rw shown accepting.builds

pub returns : goal.returns
returns c =
    let what : Asks = machine.asks c.args.edition c.args.limit c.args.abstract_mode c.args.input.now in
    let asks : Asked = asked c.args.pixels.now c.args.height c.args.width c.args.setting c.args.codel what in
    let has : Lends = lends c.args.colours.now c.args.map.now c.args.rows.now c.args.exits.now c.args.work.now c.args.stack.now c.args.kinds.now c.args.values.now in
    let accepting : Accepted asks has =
    accepted asks has _ (c.in_ok-check.ensures c.args.limit c.args.abstract_mode c.args.input.now) in
    let shown : let a = asks in take (a.height * a.width) c.classify.new.colours ≡ colours_under a.pixels a.setting = painted_part asks has accepting c.classify.new.colours c.classify.ensures in
    drawn asks has _ accepting.none (painted asks has accepting c.classify.new.colours c.classify.ensures) (rw shown at c.run_colours.ensures)
