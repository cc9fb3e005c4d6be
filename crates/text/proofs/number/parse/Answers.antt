-- `text::number::parse` meets its contract, by the first byte.
-- Assumes nothing.
use mathlib.Core.Path.{ap, ◌∙◌}
use native.Mathlib.Omega.{arith}
use Rattle.text.specs.Number.{plus, minus}
use Rattle.text.proofs.Parts.{part_from}
use Rattle.text.proofs.NumberLaws.{number_none, number_minus, number_plus, number_bare}
use Rattle.text.proofs.number.parse.Goals as goal

pub returns-then-line-eq0 : goal.returns-then-line-eq0
returns-then-line-eq0 c = number_none c.args.line.now c.if-line-eq0.true

pub returns-then-b-eq45 : goal.returns-then-b-eq45
returns-then-b-eq45 c =
    let s = c.args.line.now in
    c.negative.ensures ∙ ap minus (part_from s 1) ∙ number_minus s (omega arith) (omega arith)

pub returns-then-b-eq43 : goal.returns-then-b-eq43
returns-then-b-eq43 c =
    let s = c.args.line.now in
    c.positive.ensures ∙ ap plus (part_from s 1) ∙ number_plus s (omega arith) c.if-b-eq45.false (omega arith)

pub returns : goal.returns
returns c =
    let s = c.args.line.now in
    c.positive-2.ensures ∙ number_bare s (omega arith) c.if-b-eq45.false c.if-b-eq43.false
