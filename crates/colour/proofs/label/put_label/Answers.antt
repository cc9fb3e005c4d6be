-- `colour::label::put_label` meets its contract: `Entry`, or the name and the two places one after the other.
-- Assumes nothing.
use native.Mathlib.Omega.{arith}
use lib.ListN.{length-append}
use Rattle.colour.specs.Label.{name, place, label_of}
use Rattle.base.proofs.Over.{put_put, put_length}
use Rattle.colour.proofs.LabelLaws.{name_length, place_length}
use Rattle.colour.proofs.label.put_label.Goals as goal

pub returns-then-is_entry : goal.returns-then-is_entry
unfolding label_of
returns-then-is_entry c = rw (← c.is_entry.ensures, c.if-is_entry.true) c.put_word.ensures

pub put_place-next-requires : goal.put_place-next-requires
put_place-next-requires c =
    let p = c.put_name-at.ensures in
    let n = name_length c.args.colour in
    let l = place_length c.args.row c.requires.0.0 in
    let k = put_length (omega (arith, n, c.requires)) p in
    omega (arith, p.next, c.requires)

pub put_place-requires : goal.put_place-requires
put_place-requires c =
    let p = c.put_name-at.ensures in
    let q = c.put_place-next.ensures in
    let n = name_length c.args.colour in
    let l = place_length c.args.row c.requires.0.0 in
    let m = place_length c.args.column c.requires.0.1 in
    let k = put_length (omega (arith, n, c.requires)) p in
    let j = put_length (omega (arith, p.next, c.requires)) q in
    omega (arith, p.next, q.next, c.requires)

pub returns : goal.returns
unfolding label_of
returns c =
    let n = name_length c.args.colour in
    let l = place_length c.args.row c.requires.0.0 in
    let e = length-append (name c.args.colour) (place c.args.row) in
    rw (← c.is_entry.ensures, c.if-is_entry.false)
    (put_put (omega (arith, e, c.requires)) (put_put (omega (arith, c.requires)) c.put_name-at.ensures c.put_place-next.ensures)
    c.put_place.ensures)
