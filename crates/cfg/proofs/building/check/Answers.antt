-- `cfg::building::check` meets its contract: each return says which rows of the table of refusals fail and which holds (`Refusing`).
-- Assumes nothing.
use mathlib.Core.Path.{◌≡◌, ◌∙◌, sym}
use Prim.Native.Nat.{ℕ, ◌<◌, ◌≤◌}
use native.Mathlib.Omega.{arith}
use Rattle.cfg.proofs.Refusing.{on_height, on_width, on_codel, on_grid, on_bytes, on_colour, on_white, on_room, on_none, few_of, many_of, short_of}
use Rattle.picture.specs.Picture.{picture}
use Rattle.cfg.proofs.building.check.Goals as goal

legal-of : {i l n x : ℕ} → i ≡ l → n ≡ x → x ≤ i → n ≤ l
legal-of e f h = omega arith

less-of : {i l n x : ℕ} → i ≡ l → n ≡ x → i < x → l < n
less-of e f h = omega arith

pub returns-then-wrong_side : goal.returns-then-wrong_side
returns-then-wrong_side c =
    let the-args = c.args in
    on_height (picture the-args.height the-args.width the-args.codel the-args.colours.now) the-args.map the-args.rows the-args.exits the-args.work (sym c.wrong_side.ensures ∙ c.if-wrong_side.true)

pub returns-then-wrong_side-2 : goal.returns-then-wrong_side-2
returns-then-wrong_side-2 c =
    let the-args = c.args in
    let the-wrong-side = c.wrong_side in
    let the-if2 = c.if-wrong_side in
    on_width (picture the-args.height the-args.width the-args.codel the-args.colours.now) the-args.map the-args.rows the-args.exits the-args.work (sym the-wrong-side.ensures ∙ the-if2.false) (sym c.wrong_side-2.ensures ∙ c.if-wrong_side-2.true)

pub returns-then-wrong_side-3 : goal.returns-then-wrong_side-3
returns-then-wrong_side-3 c =
    let the-args = c.args in
    let the-wrong-side = c.wrong_side in
    let the-if2 = c.if-wrong_side in
    let the-wrong-side2 = c.wrong_side-2 in
    let the-if3 = c.if-wrong_side-2 in
    on_codel (picture the-args.height the-args.width the-args.codel the-args.colours.now) the-args.map the-args.rows the-args.exits the-args.work (sym the-wrong-side.ensures ∙ the-if2.false) (sym the-wrong-side2.ensures ∙ the-if3.false) (sym c.wrong_side-3.ensures ∙ c.if-wrong_side-3.true)

pub returns-then-count-gt65536 : goal.returns-then-count-gt65536
returns-then-count-gt65536 c =
    let the-args = c.args in
    let the-wrong-side = c.wrong_side in
    let the-if2 = c.if-wrong_side in
    let the-wrong-side2 = c.wrong_side-2 in
    let the-if3 = c.if-wrong_side-2 in
    let the-wrong-side3 = c.wrong_side-3 in
    let the-if4 = c.if-wrong_side-3 in
    on_grid (picture the-args.height the-args.width the-args.codel the-args.colours.now) the-args.map the-args.rows the-args.exits the-args.work (sym the-wrong-side.ensures ∙ the-if2.false) (sym the-wrong-side2.ensures ∙ the-if3.false) (sym the-wrong-side3.ensures ∙ the-if4.false) (many_of c.codel_count-count.ensures c.if-count-gt65536.true)

pub returns-then-colours-pixels : goal.returns-then-colours-pixels
returns-then-colours-pixels c =
    let the-args = c.args in
    let the-wrong-side = c.wrong_side in
    let the-if2 = c.if-wrong_side in
    let the-wrong-side2 = c.wrong_side-2 in
    let the-if3 = c.if-wrong_side-2 in
    let the-wrong-side3 = c.wrong_side-3 in
    let the-if4 = c.if-wrong_side-3 in
    let the-codel-count = c.codel_count-count in
    on_bytes (picture the-args.height the-args.width the-args.codel the-args.colours.now) the-args.map the-args.rows the-args.exits the-args.work (sym the-wrong-side.ensures ∙ the-if2.false) (sym the-wrong-side2.ensures ∙ the-if3.false) (sym the-wrong-side3.ensures ∙ the-if4.false) (few_of the-codel-count.ensures c.if-count-gt65536.false) c.if-colours-pixels.true

pub returns-then-index-pixels : goal.returns-then-index-pixels
returns-then-index-pixels c =
    let the-args = c.args in
    let the-wrong-side = c.wrong_side in
    let the-if2 = c.if-wrong_side in
    let the-wrong-side2 = c.wrong_side-2 in
    let the-if3 = c.if-wrong_side-2 in
    let the-wrong-side3 = c.wrong_side-3 in
    let the-if4 = c.if-wrong_side-3 in
    let the-codel-count = c.codel_count-count in
    let the-if5 = c.if-count-gt65536 in
    let the-if6 = c.if-colours-pixels in
    rw c.legal_first-index.ensures (on_colour (picture the-args.height the-args.width the-args.codel the-args.colours.now) the-args.map the-args.rows the-args.exits the-args.work (sym the-wrong-side.ensures ∙ the-if2.false) (sym the-wrong-side2.ensures ∙ the-if3.false) (sym the-wrong-side3.ensures ∙ the-if4.false) (few_of the-codel-count.ensures the-if5.false) the-if6.false (less-of c.legal_first-index.ensures the-if6.false c.if-index-pixels.true))

pub returns-then-colours-eq-WHITE : goal.returns-then-colours-eq-WHITE
returns-then-colours-eq-WHITE c =
    let the-args = c.args in
    let the-wrong-side = c.wrong_side in
    let the-if2 = c.if-wrong_side in
    let the-wrong-side2 = c.wrong_side-2 in
    let the-if3 = c.if-wrong_side-2 in
    let the-wrong-side3 = c.wrong_side-3 in
    let the-if4 = c.if-wrong_side-3 in
    let the-codel-count = c.codel_count-count in
    let the-if5 = c.if-count-gt65536 in
    let the-if6 = c.if-colours-pixels in
    let the-legal-first = c.legal_first-index in
    let the-if7 = c.if-index-pixels in
    on_white (picture the-args.height the-args.width the-args.codel the-args.colours.now) the-args.map the-args.rows the-args.exits the-args.work (sym the-wrong-side.ensures ∙ the-if2.false) (sym the-wrong-side2.ensures ∙ the-if3.false) (sym the-wrong-side3.ensures ∙ the-if4.false) (few_of the-codel-count.ensures the-if5.false) the-if6.false (legal-of the-legal-first.ensures the-if6.false the-if7.false) c.if-colours-eq-WHITE.true

pub returns-then-too_short : goal.returns-then-too_short
returns-then-too_short c =
    let the-args = c.args in
    let the-wrong-side = c.wrong_side in
    let the-if2 = c.if-wrong_side in
    let the-wrong-side2 = c.wrong_side-2 in
    let the-if3 = c.if-wrong_side-2 in
    let the-wrong-side3 = c.wrong_side-3 in
    let the-if4 = c.if-wrong_side-3 in
    let the-codel-count = c.codel_count-count in
    let the-if5 = c.if-count-gt65536 in
    let the-if6 = c.if-colours-pixels in
    let the-legal-first = c.legal_first-index in
    let the-if7 = c.if-index-pixels in
    let the-if8 = c.if-colours-eq-WHITE in
    on_room (picture the-args.height the-args.width the-args.codel the-args.colours.now) the-args.map the-args.rows the-args.exits the-args.work (sym the-wrong-side.ensures ∙ the-if2.false) (sym the-wrong-side2.ensures ∙ the-if3.false) (sym the-wrong-side3.ensures ∙ the-if4.false) (few_of the-codel-count.ensures the-if5.false) the-if6.false (legal-of the-legal-first.ensures the-if6.false the-if7.false) the-if8.false (short_of the-args.map the-args.rows the-args.exits the-args.work the-codel-count.ensures c.too_short.ensures c.if-too_short.true)

pub returns : goal.returns
returns c =
    let the-args = c.args in
    let the-wrong-side = c.wrong_side in
    let the-if2 = c.if-wrong_side in
    let the-wrong-side2 = c.wrong_side-2 in
    let the-if3 = c.if-wrong_side-2 in
    let the-wrong-side3 = c.wrong_side-3 in
    let the-if4 = c.if-wrong_side-3 in
    let the-codel-count = c.codel_count-count in
    let the-if5 = c.if-count-gt65536 in
    let the-if6 = c.if-colours-pixels in
    let the-legal-first = c.legal_first-index in
    let the-if7 = c.if-index-pixels in
    let the-if8 = c.if-colours-eq-WHITE in
    on_none (picture the-args.height the-args.width the-args.codel the-args.colours.now) the-args.map the-args.rows the-args.exits the-args.work (sym the-wrong-side.ensures ∙ the-if2.false) (sym the-wrong-side2.ensures ∙ the-if3.false) (sym the-wrong-side3.ensures ∙ the-if4.false) (few_of the-codel-count.ensures the-if5.false) the-if6.false (legal-of the-legal-first.ensures the-if6.false the-if7.false) the-if8.false (short_of the-args.map the-args.rows the-args.exits the-args.work the-codel-count.ensures c.too_short.ensures c.if-too_short.false)
