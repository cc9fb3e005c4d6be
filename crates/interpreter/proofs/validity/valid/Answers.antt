-- `interpreter::validity::valid` meets its contract. Each test passed or failed is a test of the definition. Assumes nothing.
use mathlib.Core.Bool.{false, not}
use mathlib.Core.Path.{◌≡◌, refl, sym, ap, ◌∙◌}
use native.Mathlib.Omega.{arith}
use borrow.Author.Tests.{lt-ltb, le-ltb, eq-eqb, ne_eqb}
use lib.ListN.{length}
use Rattle.interpreter.specs.Table.{wrong_count, too_short}
use Rattle.interpreter.proofs.ValidLaws.{count_fits, long_enough}
use Rattle.table.specs.Layout.{rows_room, exits_room}
use Rattle.interpreter.proofs.validity.valid.Goals as goal

pub returns-then-n-eq0 : goal.returns-then-n-eq0
returns-then-n-eq0 c = rw (eq-eqb c.args.n 0 c.if-n-eq0.true) refl

pub returns-then-n-gt-MOST_REGIONS : goal.returns-then-n-gt-MOST_REGIONS
returns-then-n-gt-MOST_REGIONS c =
    let n = c.args.n in
    rw (ne_eqb n 0 c.if-n-eq0.false, lt-ltb 65536 n c.if-n-gt-MOST_REGIONS.true) refl

pub returns-then-rows-rows_room : goal.returns-then-rows-rows_room
returns-then-rows-rows_room c =
    let right-count : wrong_count c.args.n ≡ false = count_fits c.args.n c.if-n-eq0.false c.if-n-gt-MOST_REGIONS.false in
    let a = c.args in
    rw (right-count, lt-ltb (length a.rows.now) (rows_room a.n) (omega (arith, c.rows_room.ensures, c.if-rows-rows_room.true))) refl

pub returns-then-exits-exits_room : goal.returns-then-exits-exits_room
returns-then-exits-exits_room c =
    let right-count : wrong_count c.args.n ≡ false = count_fits c.args.n c.if-n-eq0.false c.if-n-gt-MOST_REGIONS.false in
    let a = c.args in
    rw (
      right-count,
      le-ltb (length a.rows.now) (rows_room a.n) (omega (arith, c.rows_room.ensures, c.if-rows-rows_room.false)),
      lt-ltb (length a.exits.now) (exits_room a.n) (omega (arith, c.exits_room.ensures, c.if-exits-exits_room.true)),
    )
    refl

pub returns-then-any_wrong_mark : goal.returns-then-any_wrong_mark
returns-then-any_wrong_mark c =
    let right-count : wrong_count c.args.n ≡ false = count_fits c.args.n c.if-n-eq0.false c.if-n-gt-MOST_REGIONS.false in
    let right-lengths : let a = c.args in too_short a.n a.rows.now a.exits.now ≡ false =
    let a = c.args in
    long_enough a.n a.rows.now a.exits.now (omega (arith, c.rows_room.ensures, c.if-rows-rows_room.false))
    (omega (arith, c.exits_room.ensures, c.if-exits-exits_room.false)) in
    rw (right-count, right-lengths, sym c.any_wrong_mark.ensures ∙ c.if-any_wrong_mark.true) refl

pub returns : goal.returns
returns c =
    let right-count : wrong_count c.args.n ≡ false = count_fits c.args.n c.if-n-eq0.false c.if-n-gt-MOST_REGIONS.false in
    let right-lengths : let a = c.args in too_short a.n a.rows.now a.exits.now ≡ false =
    let a = c.args in
    long_enough a.n a.rows.now a.exits.now (omega (arith, c.rows_room.ensures, c.if-rows-rows_room.false))
    (omega (arith, c.exits_room.ensures, c.if-exits-exits_room.false)) in
    rw (right-count, right-lengths, sym c.any_wrong_mark.ensures ∙ c.if-any_wrong_mark.false, ← c.largest_in.ensures)
    (ap not c.any_wrong_exit.ensures)
