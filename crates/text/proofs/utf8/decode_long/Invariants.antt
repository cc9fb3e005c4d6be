-- `text::utf8::decode_long` meets its contract. The loop's invariant: the bits of the first byte and of i continuation bytes
-- are the number. Where a continuation byte is missing, or the number is overlong or no scalar, no character stands there.
-- Assumes nothing.
use Rattle.text.proofs.DecodeLaws.{Gathers}
use Rattle.text.proofs.utf8.decode_long.Given as goal

abbrev pub invariant-loop-i : goal.invariant-loop-i
invariant-loop-i l = Gathers l.s l.at l.high l.i l.cp
