-- `text::white::is_white` meets its contract: each way through the `match` knows a range or the single code points.
-- Assumes nothing.
use mathlib.Core.Path.{sym}
use native.Mathlib.Omega.{arith}
use borrow.Author.Rules.{rules}
use Rattle.text.proofs.RangeLaws.{below, above}
use Rattle.text.proofs.WhiteLaws.{single_white, no_white, low_white, mid_white, pair_white}
use Rattle.text.proofs.white.is_white.Goals as goal

pub returns-in_default : goal.returns-in_default
returns-in_default c =
    let x = c.args.cp in
    sym
    (no_white x (search rules)
    (below 0x9 0xD x (omega arith))
    (below 0x2000 0x200A x (omega arith))
    (below 0x2028 0x2029 x (omega arith)))

pub returns-in_default-2 : goal.returns-in_default-2
returns-in_default-2 c =
    let x = c.args.cp in
    sym
    (no_white x (search rules)
    (above 0x9 0xD x (omega arith))
    (below 0x2000 0x200A x (omega arith))
    (below 0x2028 0x2029 x (omega arith)))

pub returns-in_default-3 : goal.returns-in_default-3
returns-in_default-3 c =
    let x = c.args.cp in
    sym
    (no_white x (search rules)
    (above 0x9 0xD x (omega arith))
    (above 0x2000 0x200A x (omega arith))
    (below 0x2028 0x2029 x (omega arith)))

pub returns-in_default-4 : goal.returns-in_default-4
returns-in_default-4 c =
    let x = c.args.cp in
    sym
    (no_white x (search rules)
    (above 0x9 0xD x (omega arith))
    (above 0x2000 0x200A x (omega arith))
    (above 0x2028 0x2029 x (omega arith)))

pub returns-in-9-to-13 : goal.returns-in-9-to-13
returns-in-9-to-13 c = sym (single_white c.args.cp (search rules))

pub returns-in-9-to-13-2 : goal.returns-in-9-to-13-2
returns-in-9-to-13-2 c = sym (low_white _ (omega arith) (omega arith))

pub returns-in-9-to-13-3 : goal.returns-in-9-to-13-3
returns-in-9-to-13-3 c = sym (mid_white _ (omega arith) (omega arith))

pub returns-in-9-to-13-4 : goal.returns-in-9-to-13-4
returns-in-9-to-13-4 c = sym (pair_white _ (omega arith) (omega arith))
