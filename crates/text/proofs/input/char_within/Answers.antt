-- `text::input::char_within` meets its contract. Assumes nothing.
use native.Mathlib.Omega.{arith}
use mir.Syntax.{w64}
use mir.ValLaws.{to_z_pos}
use Rattle.text.proofs.ValidLaws.{is-char, else_tag, no_char}
use Rattle.text.proofs.Judging.{takes_within, never_bad}
use Rattle.text.proofs.input.char_within.Goals as goal

-- never reached
pub returns-in_default : goal.returns-in_default
returns-in_default c =
    let d = c.decode in
    let input = c.args.input.now in
    absurd (never_bad input c.args.at c.requires.at_in_bounds c.requires.valid (no_char input c.args.at d.result d.ensures (else_tag input c.args.at d.result d.ensures c.in_default.not-Char) c.requires.at_in_bounds))

pub returns : goal.returns
returns c =
    let d = c.decode in
    let input = c.args.input.now in
    rw (to_z_pos w64 c.in-Char.cp (omega arith))
    (takes_within input c.args.at c.requires.at_in_bounds c.requires.valid c.in-Char.cp c.in-Char.next (is-char input c.args.at d.result d.ensures c.in-Char.cp c.in-Char.next c.in-Char.is))
