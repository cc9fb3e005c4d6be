-- `piet::run_picture::check_table` meets its contract: each return says which rows of building's table fail and which
-- holds; 1, 2 and 8 fail, since classifying refuses nothing.
-- Assumes nothing.
use mathlib.Core.Path.{◌≡◌, ◌∙◌, sym}
use Prim.Native.Nat.{ℕ, ◌*◌}
use native.Mathlib.Omega.{arith}
use lib.ListN.{length}
use Rattle.base.proofs.Sides.{side}
use Rattle.picture.specs.Picture.{Picture, picture}
use Rattle.colour.specs.Classify.{colours_under}
use Rattle.cfg.proofs.Refusing.{on_codel, on_grid, on_white, on_room, on_none, area_pos, few_of, many_of, short_of}
use Rattle.piet.proofs.Seeing.{length_under, legal_under}
use Rattle.piet.proofs.run_picture.check_table.Goals as goal

other-of : {x y : ℕ} → x ≡ y → (x ≡ 19 → ⊥) → y ≡ 19 → ⊥
other-of e h k = h (e ∙ k)

pub returns-then-wrong_side : goal.returns-then-wrong_side
returns-then-wrong_side c =
    let drawnFrom : Picture = picture c.args.height c.args.width c.args.codel (colours_under c.args.pixels.now c.args.setting) in
    let the-args = c.args in
    let the-pre = c.requires in
    on_codel drawnFrom the-args.map the-args.rows the-args.exits the-args.work the-pre.height_value.0 the-pre.height_value.1 (sym c.wrong_side.ensures ∙ c.if-wrong_side.true)

pub codel_count-count-requires : goal.codel_count-count-requires
codel_count-count-requires c =
    let the-args = c.args in
    let the-pre = c.requires in
    let high = side the-args.height the-pre.height_value.0 in
    let wide = side the-args.width the-pre.height_value.1 in
    let small = side the-args.codel (sym c.wrong_side.ensures ∙ c.if-wrong_side.false) in
    (high.1, wide.1, small.0, small.1)

pub returns-then-count-gt65536 : goal.returns-then-count-gt65536
returns-then-count-gt65536 c =
    let drawnFrom : Picture = picture c.args.height c.args.width c.args.codel (colours_under c.args.pixels.now c.args.setting) in
    let the-args = c.args in
    let the-pre = c.requires in
    let the-wrong-side = c.wrong_side in
    let the-if1 = c.if-wrong_side in
    on_grid drawnFrom the-args.map the-args.rows the-args.exits the-args.work the-pre.height_value.0 the-pre.height_value.1 (sym the-wrong-side.ensures ∙ the-if1.false) (many_of c.codel_count-count.ensures c.if-count-gt65536.true)

pub first_colour-colour-requires : goal.first_colour-colour-requires
first_colour-colour-requires c =
    let the-pre = c.requires in
    let the-args = c.args in
    omega (arith, the-pre.pixels_len, area_pos (side the-args.height the-pre.height_value.0).0 (side the-args.width the-pre.height_value.1).0)

pub returns-then-colour-eq-WHITE : goal.returns-then-colour-eq-WHITE
returns-then-colour-eq-WHITE c =
    let drawnFrom : Picture = picture c.args.height c.args.width c.args.codel (colours_under c.args.pixels.now c.args.setting) in
    let one_each : length (colours_under c.args.pixels.now c.args.setting) ≡ c.args.height * c.args.width = length_under c.args.pixels.now c.args.setting (c.args.height * c.args.width) c.requires.pixels_len in
    let the-args = c.args in
    let the-pre = c.requires in
    let the-wrong-side = c.wrong_side in
    let the-if1 = c.if-wrong_side in
    let the-codel-count = c.codel_count-count in
    let the-if2 = c.if-count-gt65536 in
    let the-first-colour = c.first_colour-colour in
    on_white drawnFrom the-args.map the-args.rows the-args.exits the-args.work the-pre.height_value.0 the-pre.height_value.1 (sym the-wrong-side.ensures ∙ the-if1.false) (few_of the-codel-count.ensures the-if2.false) one_each (legal_under the-args.pixels.now the-args.setting) (sym the-first-colour.ensures ∙ c.if-colour-eq-WHITE.true)

pub returns-then-short : goal.returns-then-short
returns-then-short c =
    let drawnFrom : Picture = picture c.args.height c.args.width c.args.codel (colours_under c.args.pixels.now c.args.setting) in
    let one_each : length (colours_under c.args.pixels.now c.args.setting) ≡ c.args.height * c.args.width = length_under c.args.pixels.now c.args.setting (c.args.height * c.args.width) c.requires.pixels_len in
    let the-args = c.args in
    let the-pre = c.requires in
    let the-wrong-side = c.wrong_side in
    let the-if1 = c.if-wrong_side in
    let the-codel-count = c.codel_count-count in
    let the-if2 = c.if-count-gt65536 in
    let the-first-colour = c.first_colour-colour in
    let the-too-short = c.too_short-short in
    on_room drawnFrom the-args.map the-args.rows the-args.exits the-args.work the-pre.height_value.0 the-pre.height_value.1 (sym the-wrong-side.ensures ∙ the-if1.false) (few_of the-codel-count.ensures the-if2.false) one_each (legal_under the-args.pixels.now the-args.setting) (other-of the-first-colour.ensures c.if-colour-eq-WHITE.false) (short_of the-args.map the-args.rows the-args.exits the-args.work the-codel-count.ensures the-too-short.ensures c.if-short.true)

pub returns : goal.returns
returns c =
    let drawnFrom : Picture = picture c.args.height c.args.width c.args.codel (colours_under c.args.pixels.now c.args.setting) in
    let one_each : length (colours_under c.args.pixels.now c.args.setting) ≡ c.args.height * c.args.width = length_under c.args.pixels.now c.args.setting (c.args.height * c.args.width) c.requires.pixels_len in
    let the-args = c.args in
    let the-pre = c.requires in
    let the-wrong-side = c.wrong_side in
    let the-if1 = c.if-wrong_side in
    let the-codel-count = c.codel_count-count in
    let the-if2 = c.if-count-gt65536 in
    let the-first-colour = c.first_colour-colour in
    let the-too-short = c.too_short-short in
    on_none drawnFrom the-args.map the-args.rows the-args.exits the-args.work the-pre.height_value.0 the-pre.height_value.1 (sym the-wrong-side.ensures ∙ the-if1.false) (few_of the-codel-count.ensures the-if2.false) one_each (legal_under the-args.pixels.now the-args.setting) (other-of the-first-colour.ensures c.if-colour-eq-WHITE.false) (short_of the-args.map the-args.rows the-args.exits the-args.work the-codel-count.ensures the-too-short.ensures c.if-short.false)
