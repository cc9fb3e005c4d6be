use mathlib.Core.Path.{◌≡◌, ◌∙◌, sym, ap}
use mathlib.Core.List.{List, map}
use Prim.Native.Nat.{ℕ, ◌<◌}
use native.Mathlib.Omega.{arith}
use lib.ListN.{length, set, length-set, length-map}
use Rattle.std.specs.Prelude.{None}
use Rattle.colour.specs.Classify.{found, colour_under, colours_under}
use Rattle.base.proofs.LentLaws.{write_turn, all_written, map_at}
use Rattle.colour.proofs.ClassifyLaws.{length_found}
use Rattle.colour.proofs.StretchLaws.{painted_through}
use Rattle.colour.proofs.classify.paint.Goals as goal

pub loop-i-preserved-then-end-i : goal.loop-i-preserved-then-end-i
loop-i-preserved-then-end-i c =
    let l = c.loop-i in
    let fs = found c.args.pixels.now in
    let w = map (colour_under c.args.setting) fs in
    let n : length fs ≡ c.args.n = length_found c.args.pixels.now c.args.n c.requires.0 in
    let m : length w ≡ length fs = length-map fs (colour_under c.args.setting) in (
      omega arith,
      (
        simp length-set l.invariant.1.0,
        ap (λ (t : List ℕ). set t l.i c.colour_under.result) l.invariant.1.1
            ∙ write_turn w c.args.colours.now l.i 0 (omega arith) (omega arith) c.colour_under.result
            (c.colour_under.ensures
            ∙ ap (colour_under c.args.setting) c.found_in-f.ensures
            ∙ sym (map_at (colour_under c.args.setting) fs l.i None 0 (omega arith))),
      ),
    )

pub loop-i-preserved : goal.loop-i-preserved
loop-i-preserved c =
    let farther : c.loop-i.i < c.alike-end.result = let d = c.if-end-i.false in omega arith in
    let l = c.loop-i in
    let a = c.alike-end.ensures in
    let f = c.fill in (
      omega arith,
      (
        f.auto.d ∙ l.invariant.1.0,
        f.ensures
            ∙ painted_through c.args.pixels.now _ _ a.1 farther (omega (arith, c.requires.0)) c.args.setting c.args.n
            c.args.colours.now l.colours c.requires.0 (omega arith) (omega arith) l.invariant.1.1,
      ),
    )

pub returns : goal.returns
unfolding colours_under
returns c =
    let l = c.loop-i in
    let p = c.args.pixels.now in
    let fs = found p in
    let w = map (colour_under c.args.setting) fs in
    let n : length fs ≡ c.args.n = length_found p c.args.n c.requires.0 in
    let m : length w ≡ length fs = length-map fs (colour_under c.args.setting) in
    l.invariant.1.1 ∙ all_written w c.args.colours.now l.i (omega arith)
