-- `netpbm::writing::write_p6` meets its contract: where nothing is refused there is room; any other answer leaves the bytes as they were.
-- Assumes nothing.
use native.Mathlib.Omega.{arith}
use lib.ListN.{length}
use Rattle.netpbm.proofs.WriteLaws.{Accepted, accepted}
use Rattle.netpbm.proofs.writing.write_p6.Goals as goal

pub put_file-requires : goal.put_file-requires
put_file-requires c =
    let done : Accepted c.args.pixels.now c.args.height c.args.width (length c.args.file.now) = accepted c.args.pixels.now c.args.height c.args.width (length c.args.file.now) _ (rw c.in_ok-length.was at c.check_write.ensures) in
    let k = done in record { enough = omega arith }
