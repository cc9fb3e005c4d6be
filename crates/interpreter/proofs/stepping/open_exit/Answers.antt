use mathlib.Core.Bool.{cond}
use mathlib.Core.List.{List}
use mathlib.Core.Path.{◌≡◌, refl, sym, ap, ◌∙◌}
use Prim.Native.Nat.{ℕ, suc, ◌+◌, ◌-◌, ◌<◌}
use native.Mathlib.Numerals.{add-one}
use native.Mathlib.Omega.{arith}
use borrow.Author.Tests.{eq-eqb, ne_eqb}
use lib.Dec.{eqb}
use lib.ListN.{get_or}
use Rattle.flow.proofs.Order.{valid_attempt}
use Rattle.flow.specs.Pointer.{state_number, attempt_of}
use Rattle.flow.specs.declared.PointerState.{PointerState}
use Rattle.interpreter.specs.Table.{tried, open_from}
use Rattle.table.specs.Layout.{exit_cell}
use Rattle.interpreter.proofs.stepping.open_exit.Goals as goal

-- one attempt
open_step : (e : List ℕ) (r : ℕ) (p : PointerState) (k : ℕ) → k < 8
    → open_from e r p (8 - k) k ≡ cond (eqb (tried e r p k) 0) (open_from e r p (8 - (k + 1)) (k + 1)) (tried e r p k)
unfolding open_from
open_step e r p k h = ap (λ (j : ℕ). open_from e r p j k) (one_more k h) ∙ rw (← add-one k) refl
  where
    one_more : (k : ℕ) → k < 8 → 8 - k ≡ suc (8 - (k + 1))
    one_more k h = omega arith

open-end : (e : List ℕ) (r : ℕ) (p : PointerState) (k : ℕ) → k ≡ 8 → 0 ≡ open_from e r p (8 - k) k
unfolding open_from
open-end e r p k h = rw h refl

found : (e : List ℕ) (r : ℕ) (p : PointerState) (k : ℕ) → k < 8 → (tried e r p k ≡ 0 → ⊥)
    → tried e r p k ≡ open_from e r p (8 - k) k
found e r p k h n = sym (open_step e r p k h ∙ rw (ne_eqb (tried e r p k) 0 n) refl)

passed : (e : List ℕ) (r : ℕ) (p : PointerState) (k : ℕ) → k < 8 → tried e r p k ≡ 0
    → open_from e r p (8 - (k + 1)) (k + 1) ≡ open_from e r p (8 - k) k
passed e r p k h n = sym (open_step e r p k h ∙ rw (eq-eqb (tried e r p k) 0 n) refl)

pub number-requires : goal.number-requires
number-requires c =
    let the-pre = c.requires in
    rw c.attempt-tried.ensures (valid_attempt _ _ the-pre.valid)

pub exit_cell-requires : goal.exit_cell-requires
exit_cell-requires c =
    let tries : c.number.result ≡ state_number (attempt_of c.args.p c.loop-k.k) = c.number.ensures ∙ ap state_number c.attempt-tried.ensures in
    let below : c.number.result < 8 =
    let h = valid_attempt c.args.p c.loop-k.k
    c.requires.valid in omega (arith, tries, h.dp, h.cc) in
    let the-pre = c.requires in
    (omega (arith, the-pre.region_bound.0), below)

pub bounds-exits-exit_cell : goal.bounds-exits-exit_cell
bounds-exits-exit_cell c =
    let tries : c.number.result ≡ state_number (attempt_of c.args.p c.loop-k.k) = c.number.ensures ∙ ap state_number c.attempt-tried.ensures in
    let below : c.number.result < 8 =
    let h = valid_attempt c.args.p c.loop-k.k
    c.requires.valid in omega (arith, tries, h.dp, h.cc) in
    let the-pre = c.requires in
    omega (arith, c.exit_cell.ensures, below, the-pre.region_bound.1)

pub returns-then-w-ne0 : goal.returns-then-w-ne0
returns-then-w-ne0 c =
    let tries : c.number.result ≡ state_number (attempt_of c.args.p c.loop-k.k) = c.number.ensures ∙ ap state_number c.attempt-tried.ensures in
    let reads-tried : get_or c.args.exits.now c.exit_cell.result 0 ≡ tried c.args.exits.now c.args.region c.args.p c.loop-k.k =
    ap (λ (t : ℕ). get_or c.args.exits.now t 0)
    (c.exit_cell.ensures ∙ ap (exit_cell c.args.region) tries) in
    let the-args = c.args in
    let the-loop = c.loop-k in
    let e = reads-tried in
    e ∙ found the-args.exits.now the-args.region the-args.p the-loop.k (omega arith) (λ z. c.if-w-ne0.true (e ∙ z))
    ∙ the-loop.invariant

pub loop-k-preserved : goal.loop-k-preserved
loop-k-preserved c =
    let tries : c.number.result ≡ state_number (attempt_of c.args.p c.loop-k.k) = c.number.ensures ∙ ap state_number c.attempt-tried.ensures in
    let reads-tried : get_or c.args.exits.now c.exit_cell.result 0 ≡ tried c.args.exits.now c.args.region c.args.p c.loop-k.k =
    ap (λ (t : ℕ). get_or c.args.exits.now t 0)
    (c.exit_cell.ensures ∙ ap (exit_cell c.args.region) tries) in
    let the-args = c.args in
    let the-loop = c.loop-k in
    let e = reads-tried in
    passed the-args.exits.now the-args.region the-args.p the-loop.k (omega arith) (sym e ∙ c.if-w-ne0.false) ∙ the-loop.invariant

pub returns : goal.returns
returns c =
    let the-args = c.args in
    open-end the-args.exits.now the-args.region the-args.p c.loop-k.k (omega (arith, c.loop-k.auto.k-end, c.loop-k-test.false))
    ∙ c.loop-k.invariant
