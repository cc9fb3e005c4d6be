-- `netpbm::reading::read_p6` meets its contract: each test is the row of the table that is its turn.
-- Assumes nothing.
use mathlib.Core.Bool.{false}
use mathlib.Core.Path.{◌≡◌, ◌∙◌, sym}
use native.Mathlib.Omega.{arith}
use Rattle.base.specs.Limits.{wrong_side}
use Rattle.netpbm.specs.Scan.{HeaderAt}
use Rattle.netpbm.proofs.ReadLaws.{refuse_header, refuse_size, refuse_length, refuse_room, done}
use Rattle.netpbm.proofs.reading.read_p6.Goals as goal

pub returns-in_default : goal.returns-in_default
returns-in_default c =
    refuse_header (rw c.in_default.is at c.heading_of.ensures)

pub returns-then-wrong_side : goal.returns-then-wrong_side
returns-then-wrong_side c =
    let found : HeaderAt c.args.file.now c.in-Some.heading.height c.in-Some.heading.width c.in-Some.heading.start = c.in-Some.ensures in
    refuse_size found (rw (← c.wrong_side.ensures, c.if-wrong_side.true))

pub returns-then-wrong_side-2 : goal.returns-then-wrong_side-2
returns-then-wrong_side-2 c =
    let found : HeaderAt c.args.file.now c.in-Some.heading.height c.in-Some.heading.width c.in-Some.heading.start = c.in-Some.ensures in
    let the-wrong-side = c.wrong_side in
    let the-if1 = c.if-wrong_side in
    refuse_size found (rw (← the-wrong-side.ensures, the-if1.false, ← c.wrong_side-2.ensures, c.if-wrong_side-2.true))

pub returns-then-file-start : goal.returns-then-file-start
returns-then-file-start c =
    let found : HeaderAt c.args.file.now c.in-Some.heading.height c.in-Some.heading.width c.in-Some.heading.start = c.in-Some.ensures in
    let high : wrong_side c.in-Some.heading.height ≡ false = sym c.wrong_side.ensures ∙ c.if-wrong_side.false in
    let wide : wrong_side c.in-Some.heading.width ≡ false = sym c.wrong_side-2.ensures ∙ c.if-wrong_side-2.false in
    refuse_length found high wide (λ e. omega (arith, c.if-file-start.true))

pub returns-then-pixels-n : goal.returns-then-pixels-n
returns-then-pixels-n c =
    let found : HeaderAt c.args.file.now c.in-Some.heading.height c.in-Some.heading.width c.in-Some.heading.start = c.in-Some.ensures in
    let high : wrong_side c.in-Some.heading.height ≡ false = sym c.wrong_side.ensures ∙ c.if-wrong_side.false in
    let wide : wrong_side c.in-Some.heading.width ≡ false = sym c.wrong_side-2.ensures ∙ c.if-wrong_side-2.false in
    refuse_room found high wide (omega (arith, c.if-file-start.false)) c.if-pixels-n.true

pub returns : goal.returns
returns c =
    let found : HeaderAt c.args.file.now c.in-Some.heading.height c.in-Some.heading.width c.in-Some.heading.start = c.in-Some.ensures in
    let high : wrong_side c.in-Some.heading.height ≡ false = sym c.wrong_side.ensures ∙ c.if-wrong_side.false in
    let wide : wrong_side c.in-Some.heading.width ≡ false = sym c.wrong_side-2.ensures ∙ c.if-wrong_side-2.false in
    let the-if3 = c.if-file-start in
    let the-if4 = c.if-pixels-n in
    let the-put-word = c.put_word in
    done found high wide (omega (arith, the-if3.false)) the-if4.false the-put-word.ensures
