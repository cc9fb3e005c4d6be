-- Laws of `any` and `every`, and what a table that is not refused may be relied on for.
--     lost_passes     the number of a lost slide passes in edition 2, however many regions there are (rules 12.2, 16.5)
--     lost_refused    in edition 1 a table is refused that has it in one of its 8n cells, a node's or not
-- Assumes nothing.
use mathlib.Core.Path.{◌≡◌, refl, sym, ap, ◌∙◌}
use mathlib.Core.Bool.{Bool, true, false, ◌&&◌, ◌||◌}
use mathlib.Core.List.{List}
use Prim.Native.Nat.{◌≤◌, ℕ, zero, suc, ◌+◌, ◌<◌}
use native.Mathlib.Numerals.{add-one}
use native.Mathlib.Omega.{arith}
use borrow.Author.Tests.{eqb-false, ltb-false, leb-false, not-true, ne_eqb, le-ltb, lt-leb}
use lib.Dec.{eqb, ltb, leb}
use lib.ListN.{length, get_or}
use Rattle.base.specs.declared.edition.Edition.{Edition}
use Rattle.base.specs.declared.edition.Edition.TheVariants.{Rust, Page}
use Rattle.base.proofs.Tests.{neither, and_both, by_size}
use Rattle.interpreter.specs.Table.{any, every, wrong_count, too_short, wrong_mark, wrong_exit, wrong_exits, wrong_table, valid_of, Good}
use Rattle.table.specs.Layout.{exit_cell, exit_at, rows_room, exits_room}
use Rattle.table.proofs.Cells.{exit_in, exit_below, each_exit_cell}
use Rattle.table.specs.ExitNumber.{target_of, lost_slide, largest_in}

both_true : (a b : Bool) → a ≡ true → b ≡ true → (a && b) ≡ true
both_true a b p q = rw (p, q) refl

both_false : (a b : Bool) → a ≡ false → b ≡ false → (a || b) ≡ false
both_false a b p q = rw (p, q) refl

second_false : (a b : Bool) → b ≡ false → (a && b) ≡ false
second_false true b q = q
second_false false b q = refl

second_true : (a b : Bool) → b ≡ true → (a || b) ≡ true
second_true true b q = refl
second_true false b q = q

below : {X : Type 0} {i : ℕ} → i < 0 → X
below h = absurd (never h)
  where
    never : {i : ℕ} → i < 0 → ⊥
    never h = omega arith

module _ (f : ℕ → Bool) where
  pub any_none : any f 0 ≡ false
  unfolding any
  any_none = refl

  pub any_more : (i : ℕ) → f i ≡ false → any f i ≡ false → any f (i + 1) ≡ false
  unfolding any
  any_more i p q = rw (add-one i) (both_false (f i) (any f i) p q)

  pub any_yes : (i m : ℕ) → i < m → f i ≡ true → any f m ≡ true
  unfolding any
  any_yes i zero h p = below h
  any_yes i (suc m) h p =
      by_size i m (λ q. second_true (f m) (any f m) (any_yes i m q p))
      (λ q.
      let k : m ≡ i = omega arith in
      ap (λ (t : Bool). t || any f m) (ap f k ∙ p))

  pub any_not : (m : ℕ) → any f m ≡ false → (i : ℕ) → i < m → f i ≡ false
  unfolding any
  any_not zero p i h = below h
  any_not (suc m) p i h =
      let d = neither (f m) (any f m) p in
      by_size i m (λ q. any_not m d.1 i q)
      (λ q.
      let k : i ≡ m = omega arith in
      rw k d.0)

  pub any_nowhere : (m : ℕ) → ((i : ℕ) → i < m → f i ≡ false) → any f m ≡ false
  unfolding any
  any_nowhere zero h = refl
  any_nowhere (suc m) h = both_false (f m) (any f m) (h m (omega arith)) (any_nowhere m (λ i l. h i (omega arith)))

  pub every_none : every f 0 ≡ true
  unfolding every
  every_none = refl

  pub every_more : (i : ℕ) → f i ≡ true → every f i ≡ true → every f (i + 1) ≡ true
  unfolding every
  every_more i p q = rw (add-one i) (both_true (f i) (every f i) p q)

  pub every_not : (i m : ℕ) → i < m → f i ≡ false → every f m ≡ false
  unfolding every
  every_not i zero h p = below h
  every_not i (suc m) h p =
      by_size i m (λ q. second_false (f m) (every f m) (every_not i m q p))
      (λ q.
      let k : m ≡ i = omega arith in
      ap (λ (t : Bool). t && every f m) (ap f k ∙ p))

  pub every_at : (m : ℕ) → every f m ≡ true → (i : ℕ) → i < m → f i ≡ true
  unfolding every
  every_at zero p i h = below h
  every_at (suc m) p i h =
      let d = and_both (f m) (every f m) p in
      by_size i m (λ q. every_at m d.1 i q)
      (λ q.
      let k : i ≡ m = omega arith in
      rw k d.0)

-- two tests that fail together are one
same_test : (a b : Bool) → (a ≡ false → b ≡ false) → (b ≡ false → a ≡ false) → a ≡ b
same_test true true p q = refl
same_test true false p q = q refl
same_test false true p q = sym (p refl)
same_test false false p q = refl

-- the exits of n regions, cell by cell, and state by state of each region
pub wrong_by_cell : (largest n : ℕ) (exits : List ℕ)
    → any (λ i. wrong_exit largest n (get_or exits i 0)) (exits_room n) ≡ any (wrong_exits largest n exits) n
wrong_by_cell largest n exits = same_test (any cell (exits_room n)) (any (wrong_exits largest n exits) n) by_region by_cell
  where
    cell : ℕ → Bool
    cell i = wrong_exit largest n (get_or exits i 0)

    by_region : any cell (exits_room n) ≡ false → any (wrong_exits largest n exits) n ≡ false
    by_region h =
        any_nowhere (wrong_exits largest n exits) n
        (λ r l. any_nowhere (λ s. cell (exit_cell r s)) 8 (λ s k. any_not cell (exits_room n) h (exit_cell r s) (exit_in n r s k l)))

    by_cell : any (wrong_exits largest n exits) n ≡ false → any cell (exits_room n) ≡ false
    by_cell h =
        any_nowhere cell (exits_room n)
        (each_exit_cell (λ i. i < exits_room n → cell i ≡ false)
        (λ r s k l. any_not (λ s. cell (exit_cell r s)) 8 (any_not (wrong_exits largest n exits) n h r (exit_below n r s k l)) s k))

pub good_of : (e : Edition) (n : ℕ) (rows exits : List ℕ) → valid_of e n rows exits ≡ true → Good n rows exits
good_of e n rows exits v =
    let marks : Bool = any (wrong_mark rows) n in
    let leaves : Bool = any (wrong_exits (largest_in e) n exits) n in
    let a = neither (wrong_count n) (too_short n rows exits || (marks || leaves)) (not-true (wrong_table e n rows exits) v) in
    let b = neither (eqb n 0) (ltb 65536 n) a.0 in
    let z : n ≡ 0 → ⊥ = eqb-false n 0 b.0 in
    let c = neither (too_short n rows exits) (marks || leaves) a.1 in
    let d = neither (ltb (length rows) (rows_room n)) (ltb (length exits) (exits_room n)) c.0 in
    let f = neither marks leaves c.1 in
    record {
      some = omega (arith, z);
      few = omega (arith, ltb-false 65536 n b.1);
      rows_fit = omega (arith, ltb-false (length rows) (rows_room n) d.0);
      exits_fit = omega (arith, ltb-false (length exits) (exits_room n) d.1);
      leads =
          λ r s h k.
          let w : ℕ = exit_at exits r s in
          let q = any_not (λ s. wrong_exit (largest_in e) n (exit_at exits r s)) 8 (any_not (wrong_exits (largest_in e) n exits) n f.1 r h) s k in
          leb-false n (target_of w) (neither (ltb (largest_in e) w) (leb n (target_of w)) q).1;
    }

-- the first two sentences of refusal 10 do not hold
pub count_fits : (n : ℕ) → (n ≡ 0 → ⊥) → n ≤ 65536 → wrong_count n ≡ false
count_fits n h k = rw (ne_eqb n 0 h, le-ltb 65536 n k) refl

pub long_enough : (n : ℕ) (rows exits : List ℕ) → rows_room n ≤ length rows → exits_room n ≤ length exits → too_short n rows exits ≡ false
long_enough n rows exits h k = rw (le-ltb (length rows) (rows_room n) h, le-ltb (length exits) (exits_room n) k) refl

pub lost_passes : (n : ℕ) → 0 < n → wrong_exit (largest_in Page) n lost_slide ≡ false
lost_passes n h = lt-leb n 0 h

pub lost_refused : (n : ℕ) (rows exits : List ℕ) (r s : ℕ) → r < n → s < 8 → exit_at exits r s ≡ lost_slide → wrong_table Rust n rows exits ≡ true
lost_refused n rows exits r s h k e =
    second_true (wrong_count n) _
    (second_true (too_short n rows exits) _
    (second_true (any (wrong_mark rows) n) _
    (any_yes (wrong_exits (largest_in Rust) n exits) r n h
    (any_yes (λ i. wrong_exit (largest_in Rust) n (exit_at exits r i)) s 8 k (ap (wrong_exit (largest_in Rust) n) e)))))
