-- `stack::roll` meets its contract. Assumes nothing.
use mathlib.Core.Path.{◌≡◌, sym, ap, ◌∙◌}
use mathlib.Core.Bool.{false}
use Prim.Native.Nat.{ℕ, ◌-◌, ◌^◌, ◌<◌, ◌≤◌}
use native.Mathlib.Omega.{arith}
use lib.ListN.{get_or}
use lib.IntN.{ℤ, pos, nat_abs}
use mir.Syntax.{w64}
use mir.Val.{of_z, to_z}
use Rattle.word.specs.Word.{residue}
use Rattle.word.proofs.Signed.{back, casts_pos}
use Rattle.word.proofs.Wrapping.{residue_lt}
use Rattle.stack.specs.Instr.{places}
use Rattle.stack.proofs.Rolling.{few_roll, bad_at, some, good_nonneg, places_good, places_le, depth, roll_bad, roll_none, roll_some}
use Rattle.stack.proofs.Exchanging.{turns}
use Rattle.stack.proofs.roll.Goals as goal

pub returns-then-depth-lt2 : goal.returns-then-depth-lt2
returns-then-depth-lt2 c = few_roll _ _ _ c.if-depth-lt2.true c.requires

pub returns-then-bad_depth : goal.returns-then-bad_depth
returns-then-bad_depth c =
    let second : ℤ = get_or c.args.stack.now (c.args.depth - 2) (pos 0) in
    let bad-is : c.bad_depth.result ≡ bad_at c.args.stack.now c.args.depth = rw (back second c.n-1.given) at c.bad_depth.ensures in
    roll_bad _ c.if-depth-lt2.false (sym bad-is ∙ c.if-bad_depth.true) c.undo.ensures

pub returns-then-m-eq0 : goal.returns-then-m-eq0
returns-then-m-eq0 c =
    let second : ℤ = get_or c.args.stack.now (c.args.depth - 2) (pos 0) in
    let bad-is : c.bad_depth.result ≡ bad_at c.args.stack.now c.args.depth = rw (back second c.n-1.given) at c.bad_depth.ensures in
    let good : bad_at c.args.stack.now c.args.depth ≡ false = sym bad-is ∙ c.if-bad_depth.false in
    let count : ℕ = nat_abs (to_z w64 (of_z w64 second)) in
    let count-is : count ≡ places second (c.args.depth - 2) =
    ap nat_abs (back second c.n-1.given)
    ∙ sym (places_good second (c.args.depth - 2) good) in
    roll_none _ c.if-depth-lt2.false good c.pop_two-d.ensures (sym count-is ∙ c.if-m-eq0.true)

pub residue-k-requires : goal.residue-k-requires
residue-k-requires c =
    let second : ℤ = get_or c.args.stack.now (c.args.depth - 2) (pos 0) in
    let bad-is : c.bad_depth.result ≡ bad_at c.args.stack.now c.args.depth = rw (back second c.n-1.given) at c.bad_depth.ensures in
    let good : bad_at c.args.stack.now c.args.depth ≡ false = sym bad-is ∙ c.if-bad_depth.false in
    let count : ℕ = nat_abs (to_z w64 (of_z w64 second)) in
    let count-is : count ≡ places second (c.args.depth - 2) =
    ap nat_abs (back second c.n-1.given)
    ∙ sym (places_good second (c.args.depth - 2) good) in
    let fits : (count < 2 ^ 63) × (count ≤ c.pop_two-d.result) =
    let q = c.pop_two-d in
    let d = depth c.if-depth-lt2.false q.ensures in
    let l = places_le second (c.args.depth - 2) in
    let e = count-is in
    let r = q.ensures.lies.room in
    (omega (arith, c.well_formed, q.auto), omega arith) in
    (some count c.if-m-eq0.false, fits.0)

pub turn-requires : goal.turn-requires
turn-requires c =
    let top : ℤ = get_or c.args.stack.now (c.args.depth - 1) (pos 0) in
    let second : ℤ = get_or c.args.stack.now (c.args.depth - 2) (pos 0) in
    let bad-is : c.bad_depth.result ≡ bad_at c.args.stack.now c.args.depth = rw (back second c.n-1.given) at c.bad_depth.ensures in
    let good : bad_at c.args.stack.now c.args.depth ≡ false = sym bad-is ∙ c.if-bad_depth.false in
    let count : ℕ = nat_abs (to_z w64 (of_z w64 second)) in
    let count-is : count ≡ places second (c.args.depth - 2) =
    ap nat_abs (back second c.n-1.given)
    ∙ sym (places_good second (c.args.depth - 2) good) in
    let fits : (count < 2 ^ 63) × (count ≤ c.pop_two-d.result) =
    let q = c.pop_two-d in
    let d = depth c.if-depth-lt2.false q.ensures in
    let l = places_le second (c.args.depth - 2) in
    let e = count-is in
    let r = q.ensures.lies.room in
    (omega (arith, c.well_formed, q.auto), omega arith) in
    let residue-is : c.residue-k.result ≡ residue top count =
    rw (back top c.a-1.given) at c.residue-k.ensures in
    let l = residue_lt top count (some count c.if-m-eq0.false) in
    record { lies = c.pop_two-d.ensures.lies; k_le_n = (omega (arith, residue-is), fits.1) }

pub overflow_cast-m : goal.overflow_cast-m
overflow_cast-m c =
    let second : ℤ = get_or c.args.stack.now (c.args.depth - 2) (pos 0) in
    let bad-is : c.bad_depth.result ≡ bad_at c.args.stack.now c.args.depth = rw (back second c.n-1.given) at c.bad_depth.ensures in
    let good : bad_at c.args.stack.now c.args.depth ≡ false = sym bad-is ∙ c.if-bad_depth.false in
    casts_pos (good_nonneg second _ c.n-1.given good)

pub returns : goal.returns
returns c =
    let top : ℤ = get_or c.args.stack.now (c.args.depth - 1) (pos 0) in
    let second : ℤ = get_or c.args.stack.now (c.args.depth - 2) (pos 0) in
    let bad-is : c.bad_depth.result ≡ bad_at c.args.stack.now c.args.depth = rw (back second c.n-1.given) at c.bad_depth.ensures in
    let good : bad_at c.args.stack.now c.args.depth ≡ false = sym bad-is ∙ c.if-bad_depth.false in
    let count : ℕ = nat_abs (to_z w64 (of_z w64 second)) in
    let count-is : count ≡ places second (c.args.depth - 2) =
    ap nat_abs (back second c.n-1.given)
    ∙ sym (places_good second (c.args.depth - 2) good) in
    let residue-is : c.residue-k.result ≡ residue top count =
    rw (back top c.a-1.given) at c.residue-k.ensures in
    let fits : count ≤ c.pop_two-d.result =
    let d = depth c.if-depth-lt2.false c.pop_two-d.ensures in
    let l = places_le second (c.args.depth - 2) in
    let e = count-is in
    omega arith in
    let l = residue_lt top count (some count c.if-m-eq0.false) in
    roll_some _ c.if-depth-lt2.false good c.pop_two-d.ensures count c.residue-k.result
    count-is (some count c.if-m-eq0.false) residue-is
    (rw c.turn.ensures (turns _ _ _ _ (omega (arith, residue-is)) fits c.pop_two-d.ensures.lies))
