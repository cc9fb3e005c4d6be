-- `exit::leave::keep` meets its contract: the cell is one of the lent ones, and holds a codel. Assumes nothing.
use mathlib.Core.Path.{◌≡◌, sym, subst}
use Prim.Native.Nat.{ℕ, ◌<◌}
use native.Mathlib.Omega.{arith}
use lib.ListN.{length}
use Rattle.exit.specs.Keeping.{cell_of}
use Rattle.exit.proofs.KeepingLaws.{cell_in, better_small}
use Rattle.exit.proofs.leave.keep.Goals as goal

pub overflow_cast-best : goal.overflow_cast-best
overflow_cast-best c =
    let a = c.args in
    let cell-is : c.exit_cell-cell.result ≡ cell_of a.map.now a.s a.i =
    let e = c.exit_cell-cell.ensures in
    let n = c.number.ensures in
    let w = c.wide.ensures in
    omega arith in
    let here : c.exit_cell-cell.result < length a.best.now =
    omega (arith, cell-is, cell_in _ _ _ _ _ _ c.requires.0 c.requires.1 c.requires.2) in
    let codel-in : c.wide-j.result < length a.map.now =
    subst (λ (n : ℕ). n < length a.map.now) (sym c.wide-j.ensures) (c.requires.0.codels _ here) in
    let small = better_small a.map.now a.rows a.cols a.s a.i c.wide-j.result _ c.requires.1 codel-in in
    record { fits = omega (arith, c.better_of.ensures, c.requires.0.mapped.few, small) }
