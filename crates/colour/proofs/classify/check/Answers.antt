-- `colour::classify::check` meets its contract: the tests come in the order of the table of refusals, and each return says which of its rows hold and fail.
-- Assumes nothing.
use mathlib.Core.Path.{◌≡◌, ◌∙◌, sym}
use mathlib.Core.Bool.{false, ◌||◌}
use borrow.Author.Tests.{lt-ltb, le-ltb, eq-eqb, ne_eqb}
use Rattle.base.specs.Numbers.{first}
use Rattle.base.specs.Limits.{wrong_side}
use Rattle.colour.specs.Classify.{answer, refusals, unknown_pixel}
use Rattle.colour.specs.Setting.{no_setting}
use Rattle.colour.proofs.classify.check.Goals as goal

pub returns-then-wrong_side : goal.returns-then-wrong_side
unfolding answer refusals unknown_pixel first
returns-then-wrong_side c = rw (← c.wrong_side.ensures, c.if-wrong_side.true)

pub returns-then-wrong_side-2 : goal.returns-then-wrong_side-2
unfolding answer refusals unknown_pixel first
returns-then-wrong_side-2 c = rw (← c.wrong_side.ensures, c.if-wrong_side.false, ← c.wrong_side-2.ensures, c.if-wrong_side-2.true)

pub returns-then-no_setting : goal.returns-then-no_setting
unfolding answer refusals unknown_pixel first
returns-then-no_setting c =
    let sides : (wrong_side c.args.height || wrong_side c.args.width) ≡ false =
    let h : wrong_side c.args.height ≡ false = sym c.wrong_side.ensures ∙ c.if-wrong_side.false in
    let w : wrong_side c.args.width ≡ false = sym c.wrong_side-2.ensures ∙ c.if-wrong_side-2.false in
    rw (h, w) in
    rw (sides, ← c.no_setting.ensures, c.if-no_setting.true)

pub returns-then-pixels-n : goal.returns-then-pixels-n
unfolding answer refusals unknown_pixel first
returns-then-pixels-n c =
    let sides : (wrong_side c.args.height || wrong_side c.args.width) ≡ false =
    let h : wrong_side c.args.height ≡ false = sym c.wrong_side.ensures ∙ c.if-wrong_side.false in
    let w : wrong_side c.args.width ≡ false = sym c.wrong_side-2.ensures ∙ c.if-wrong_side-2.false in
    rw (h, w) in
    let named : no_setting c.args.setting ≡ false = sym c.no_setting.ensures ∙ c.if-no_setting.false in
    rw (sides, named, ne_eqb _ _ c.if-pixels-n.true)

pub returns-then-room-n : goal.returns-then-room-n
unfolding answer refusals unknown_pixel first
returns-then-room-n c =
    let sides : (wrong_side c.args.height || wrong_side c.args.width) ≡ false =
    let h : wrong_side c.args.height ≡ false = sym c.wrong_side.ensures ∙ c.if-wrong_side.false in
    let w : wrong_side c.args.width ≡ false = sym c.wrong_side-2.ensures ∙ c.if-wrong_side-2.false in
    rw (h, w) in
    let named : no_setting c.args.setting ≡ false = sym c.no_setting.ensures ∙ c.if-no_setting.false in
    rw (sides, named, eq-eqb _ _ c.if-pixels-n.false, lt-ltb _ _ c.if-room-n.true)

pub returns-then-refuses : goal.returns-then-refuses
unfolding answer refusals unknown_pixel first
returns-then-refuses c =
    let sides : (wrong_side c.args.height || wrong_side c.args.width) ≡ false =
    let h : wrong_side c.args.height ≡ false = sym c.wrong_side.ensures ∙ c.if-wrong_side.false in
    let w : wrong_side c.args.width ≡ false = sym c.wrong_side-2.ensures ∙ c.if-wrong_side-2.false in
    rw (h, w) in
    let named : no_setting c.args.setting ≡ false = sym c.no_setting.ensures ∙ c.if-no_setting.false in
    rw (sides, named, eq-eqb _ _ c.if-pixels-n.false, le-ltb _ _ c.if-room-n.false, ← c.refuses.ensures, c.if-refuses.true) c.first_unknown.ensures

pub returns : goal.returns
unfolding answer refusals unknown_pixel first
returns c =
    let sides : (wrong_side c.args.height || wrong_side c.args.width) ≡ false =
    let h : wrong_side c.args.height ≡ false = sym c.wrong_side.ensures ∙ c.if-wrong_side.false in
    let w : wrong_side c.args.width ≡ false = sym c.wrong_side-2.ensures ∙ c.if-wrong_side-2.false in
    rw (h, w) in
    let named : no_setting c.args.setting ≡ false = sym c.no_setting.ensures ∙ c.if-no_setting.false in
    rw (sides, named, eq-eqb _ _ c.if-pixels-n.false, le-ltb _ _ c.if-room-n.false, ← c.refuses.ensures, c.if-refuses.false)
