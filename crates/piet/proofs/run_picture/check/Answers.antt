-- `piet::run_picture::check` meets its contract: an unknown edition is the first refusal, then those of classifying, and where
-- there is none building's table decides.
-- Assumes nothing.
use mathlib.Core.Bool.{Bool, false}
use mathlib.Core.List.{List, []}
use mathlib.Core.Path.{◌∙◌}
use Prim.Native.Nat.{ℕ}
use Rattle.std.proofs.lemmas.Result.{err_from_is_err_and}
use Rattle.machine.specs.Machine.{asks}
use Rattle.base.proofs.EditionLaws.{edition_known, edition_refused}
use Rattle.base.proofs.RefusalLaws.{number_some}
use Rattle.piet.specs.RunPicture.{Asked, asked}
use Rattle.piet.proofs.Refusing.{on_unknown, on_classifying, on_building, passes_on}
use Rattle.piet.proofs.run_picture.check.Goals as goal

pub returns-in_err-try_from : goal.returns-in_err-try_from
returns-in_err-try_from c =
    let asking : ℕ → Bool → List ℕ → Asked = λ limit mode input. asked c.args.pixels.now c.args.height c.args.width c.args.setting c.args.codel (asks c.args.edition limit mode input) in
    let a = c.args in
    let p = err_from_is_err_and c.from_residual.result c.from_residual.ensures.1 in
    let k = edition_refused a.edition c.in_err-try_from.ensures in
    λ limit mode input. rw (p.1, p.2, k.1) (on_unknown (asking limit mode input) a.colours a.map a.rows a.exits a.work k.0)

pub returns-in_err-check : goal.returns-in_err-check
returns-in_err-check c =
    let asking : ℕ → Bool → List ℕ → Asked = λ limit mode input. asked c.args.pixels.now c.args.height c.args.width c.args.setting c.args.codel (asks c.args.edition limit mode input) in
    let a = c.args in
    let p = err_from_is_err_and c.from_residual-in_err-check.result c.from_residual-in_err-check.ensures.1 in
    let k = edition_known a.edition c.in_ok-try_from.ensures in
    λ limit mode input.
    rw (p.1, p.2) (on_classifying (asking limit mode input) a.colours a.map a.rows a.exits a.work k.0 _ _ (number_some _) c.in_err-check.ensures)

pub check_table-requires : goal.check_table-requires
check_table-requires c =
    let a = c.args in
    let k = passes_on (asked a.pixels.now a.height a.width a.setting a.codel (asks a.edition 0 false [])) a.colours a.map a.rows a.exits a.work _ c.in_ok-check.ensures in
    record { height_value = (k.high, k.wide); pixels_len = k.bytes }

pub returns : goal.returns
returns c =
    let asking : ℕ → Bool → List ℕ → Asked = λ limit mode input. asked c.args.pixels.now c.args.height c.args.width c.args.setting c.args.codel (asks c.args.edition limit mode input) in
    let a = c.args in
    let k = edition_known a.edition c.in_ok-try_from.ensures in
    λ limit mode input.
    c.check_table.ensures ∙ on_building (asking limit mode input) a.colours a.map a.rows a.exits a.work k.0 _ c.in_ok-check.ensures
