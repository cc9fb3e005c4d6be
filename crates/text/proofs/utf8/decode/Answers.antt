-- `text::utf8::decode` meets its contract: the first byte chooses.
-- Assumes nothing.
use native.Mathlib.Omega.{arith}
use Rattle.text.proofs.DecodeLaws.{no_char_at, never1, read1}
use Rattle.text.proofs.utf8.decode.Goals as goal

pub returns-then-b-lt128 : goal.returns-then-b-lt128
returns-then-b-lt128 c =
    read1 c.args.s.now c.args.at c.wide-b.result (record { long = omega arith; hi = omega arith; b₀ = omega arith })

pub returns-then-b-lt192 : goal.returns-then-b-lt192
returns-then-b-lt192 c =
    no_char_at c.args.s.now c.args.at (omega arith)
    (λ k st. never1 c.args.s.now c.args.at k st (omega arith) (omega arith))
