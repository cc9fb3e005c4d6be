use Rattle.std.specs.Prelude.{All, IsTrue, ◌↔◌}
use Rattle.std.proofs.Common.{rules, sym}
use Rattle.base.specs.Text.{digit}
use Rattle.text.proofs.NumberLaws.{no_bytes, numeral_is}
use Rattle.text.proofs.number.is_numeral.Goals as goal

pub returns-then-not-is_empty : goal.returns-then-not-is_empty
returns-then-not-is_empty c =
    let f : IsTrue c.all.result ↔ All (λ b. IsTrue (digit b)) c.args.s.now = search rules in
    numeral_is c.args.s.now c.all.result (search rules) f

pub returns-else-not-is_empty : goal.returns-else-not-is_empty
returns-else-not-is_empty c = rw c.if-not-is_empty.false (sym (no_bytes c.args.s.now (search rules)))
