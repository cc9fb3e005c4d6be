-- `netpbm::writing::put_file` meets its contract: five words one after another, with room for each.
-- Assumes nothing.
use Rattle.netpbm.specs.File.{line}
use Rattle.netpbm.proofs.WriteLaws.{magic_room, width_room, height_room, maximum_room, pixels_room, written}
use Rattle.netpbm.proofs.writing.put_file.Goals as goal

pub put_word-after_magic-requires : goal.put_word-after_magic-requires
unfolding line
put_word-after_magic-requires c =
    let the-args = c.args in
    magic_room the-args.height the-args.width the-args.pixels.now c.requires

pub put_line-after_width-requires : goal.put_line-after_width-requires
unfolding line
put_line-after_width-requires c =
    let the-args = c.args in
    let the-put-word = c.put_word-after_magic in
    width_room the-args.height the-args.width the-args.pixels.now c.requires the-put-word.ensures

pub put_line-after_height-requires : goal.put_line-after_height-requires
unfolding line
put_line-after_height-requires c =
    let the-args = c.args in
    let the-put-word = c.put_word-after_magic in
    let the-put-line = c.put_line-after_width in
    height_room the-args.height the-args.width the-args.pixels.now c.requires the-put-word.ensures the-put-line.ensures

pub put_word-after_maximum-requires : goal.put_word-after_maximum-requires
unfolding line
put_word-after_maximum-requires c =
    let the-args = c.args in
    let the-put-word = c.put_word-after_magic in
    let the-put-line = c.put_line-after_width in
    let the-put-line2 = c.put_line-after_height in
    maximum_room the-args.height the-args.width the-args.pixels.now c.requires the-put-word.ensures the-put-line.ensures the-put-line2.ensures

pub put_word-requires : goal.put_word-requires
unfolding line
put_word-requires c =
    let the-args = c.args in
    let the-put-word = c.put_word-after_magic in
    let the-put-line = c.put_line-after_width in
    let the-put-line2 = c.put_line-after_height in
    let the-put-word2 = c.put_word-after_maximum in
    pixels_room the-args.height the-args.width the-args.pixels.now c.requires the-put-word.ensures the-put-line.ensures the-put-line2.ensures the-put-word2.ensures

pub returns : goal.returns
unfolding line
returns c =
    let the-args = c.args in
    let the-put-word = c.put_word-after_magic in
    let the-put-line = c.put_line-after_width in
    let the-put-line2 = c.put_line-after_height in
    let the-put-word2 = c.put_word-after_maximum in
    let the-put-word3 = c.put_word in
    written the-args.height the-args.width the-args.pixels.now c.requires the-put-word.ensures the-put-line.ensures the-put-line2.ensures the-put-word2.ensures the-put-word3.ensures
