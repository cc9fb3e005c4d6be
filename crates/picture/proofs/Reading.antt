-- Reading a codel of the grid finds its colour. Assumes nothing.
use mathlib.Core.Path.{◌≡◌}
use Prim.Native.Nat.{ℕ, ◌+◌, ◌*◌, ◌<◌}
use lib.Arith.{digits_lt}
use lib.ListN.{length}
use borrow.Author.Tests.{lt-ltb}
use Rattle.std.specs.Prelude.{Some}
use Rattle.std.proofs.lemmas.Option.{slice_get-get_or}
use Rattle.picture.specs.Source.{get_at}
use Rattle.picture.specs.Picture.{Picture, Inside, colour_at, Sound}
use Rattle.picture.proofs.Codels.{row_in, col_in}

pub there : {p : Picture} (s : Sound p) (r c : ℕ) → Inside p r c
    → get_at p.colours p.height p.width (r * p.codel) (c * p.codel) ≡ Some (colour_at p r c)
unfolding get_at
there {p} s r c i =
    let y = row_in s r c i in
    let x = col_in s r c i in
    let l : r * p.codel * p.width + c * p.codel < p.height * p.width = digits_lt y x in
    let k : r * p.codel * p.width + c * p.codel < length p.colours = rw s.pixels l in
    rw (lt-ltb _ _ y, lt-ltb _ _ x) (slice_get-get_or p.colours (r * p.codel * p.width + c * p.codel) 0 k)
