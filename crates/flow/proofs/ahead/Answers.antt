-- `flow::ahead` meets its contract: one arm for each dp, one test in each. Assumes nothing.
use mathlib.Core.Path.{◌≡◌, sym, subst, ◌∙◌}
use Prim.Native.Nat.{ℕ, ◌-◌}
use native.Mathlib.Omega.{arith}
use lib.Dec.{ltb}
use borrow.Author.Tests.{lt-ltb, le-ltb}
use Rattle.std.specs.Prelude.{Option}
use Rattle.flow.specs.Neighbour.{ahead_of, or_outside}
use Rattle.flow.proofs.NeighbourLaws.{ahead_up}
use Rattle.flow.proofs.ahead.Goals as goal

at-dp : (f : ℕ → Option (ℕ × ℕ)) {x : Option (ℕ × ℕ)} {d k : ℕ} → d ≡ k → x ≡ f k → x ≡ f d
at-dp f {x} e h = subst (λ (n : ℕ). x ≡ f n) (sym e) h

pub returns-then-col-cols : goal.returns-then-col-cols
unfolding ahead_of
returns-then-col-cols c = at-dp (ahead_of _ _ _ _) c.in-0.is (simp (lt-ltb _ _ c.if-col-cols.true))

pub returns-then-row-rows : goal.returns-then-row-rows
unfolding ahead_of
returns-then-row-rows c = at-dp (ahead_of _ _ _ _) c.in-1.is (simp (lt-ltb _ _ c.if-row-rows.true))

pub returns-then-col-gt0 : goal.returns-then-col-gt0
unfolding ahead_of
returns-then-col-gt0 c = at-dp (ahead_of _ _ _ _) c.in-2.is (simp (lt-ltb _ _ c.if-col-gt0.true))

pub returns-then-row-gt0 : goal.returns-then-row-gt0
returns-then-row-gt0 c =
    let up : ahead_of c.args.rows c.args.cols c.args.row c.args.col c.args.dp ≡ or_outside (ltb 0 c.args.row) (c.args.row - 1) c.args.col = ahead_up _ _ _ _ _ (λ h. omega (arith, h)) (λ h. omega (arith, h)) (λ h. omega (arith, h)) in
    sym (up ∙ simp (lt-ltb _ _ c.if-row-gt0.true))

pub returns-else-col-cols : goal.returns-else-col-cols
unfolding ahead_of
returns-else-col-cols c = at-dp (ahead_of _ _ _ _) c.in-0.is (simp (le-ltb _ _ c.if-col-cols.false))

pub returns-else-row-rows : goal.returns-else-row-rows
unfolding ahead_of
returns-else-row-rows c = at-dp (ahead_of _ _ _ _) c.in-1.is (simp (le-ltb _ _ c.if-row-rows.false))

pub returns-else-col-gt0 : goal.returns-else-col-gt0
unfolding ahead_of
returns-else-col-gt0 c = at-dp (ahead_of _ _ _ _) c.in-2.is (simp (le-ltb _ _ c.if-col-gt0.false))

pub returns-else-row-gt0 : goal.returns-else-row-gt0
returns-else-row-gt0 c =
    let up : ahead_of c.args.rows c.args.cols c.args.row c.args.col c.args.dp ≡ or_outside (ltb 0 c.args.row) (c.args.row - 1) c.args.col = ahead_up _ _ _ _ _ (λ h. omega (arith, h)) (λ h. omega (arith, h)) (λ h. omega (arith, h)) in
    sym (up ∙ simp (le-ltb _ _ c.if-row-gt0.false))
