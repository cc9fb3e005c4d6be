-- Counting from the start: the first n cells are the counts of the regions entered, the others are as they were. Assumes nothing.
use mathlib.Core.Path.{◌≡◌, refl, sym, ap, ◌∙◌}
use mathlib.Core.List.{List, [], ◌∷◌, map}
use Prim.Native.Nat.{ℕ, zero, suc, ◌+◌, ◌^◌, ◌<◌, ◌≤◌}
use native.Mathlib.Omega.{arith}
use borrow.Author.Tests.{ne_eqb}
use lib.ListN.{length, get_or, set, replicate, length-set, length-replicate, get_or-replicate}
use lib.Seq.{ext_get_or, get_or-set_same, get_or-set_other}
use Rattle.base.specs.Counting.{count, counts}
use Rattle.base.specs.Lent.{lent, filled}
use Rattle.base.proofs.CountingLaws.{Below, more, count_most, count_past, counts_at, counts_length}
use Rattle.base.proofs.Over.{lent_length, lent_front, lent_past, filled_lent}
use Rattle.base.proofs.Tests.{by_size}
use Rattle.table.specs.ExitNumber.{target_of}
use Rattle.machine.specs.Machine.{Given}
use Rattle.machine.specs.Held.{Slices}
use Rattle.interpreter.specs.Table.{Good}
use Rattle.interpreter.specs.Outcome.{job_of}
use Rattle.interpreter.specs.Observed.{CanCount, ObservedAll}
use Rattle.interpreter.proofs.Entering.{entered_below}
use Rattle.visits.specs.Counted.{Counted}

-- the counts of n regions stand in the first n cells
pub counts_held : (n : ℕ) (entered v : List ℕ) {v' : List ℕ} → v' ≡ lent (counts n entered) v → (r : ℕ) → r < n → get_or v' r 0 ≡ count r entered
counts_held n entered v e r h =
    ap (λ (x : List ℕ). get_or x r 0) e ∙ lent_front (counts n entered) v 0 r (omega (arith, counts_length n entered)) ∙ counts_at n r entered h

module _ (n : ℕ) (v v₁ : List ℕ) (some : 0 < n) (long : n ≤ length v) (e : v₁ ≡ filled 0 n 0 v) where
  -- the cells as they are before the first step: 0, and 1 for region 0
  abbrev first : List ℕ
  first = set v₁ 0 1

  cleared : v₁ ≡ lent (replicate n 0) v
  cleared = e ∙ filled_lent v n 0

  cleared_long : length v₁ ≡ length v
  cleared_long = ap length cleared ∙ lent_length (replicate n 0) v (omega (arith, length-replicate {A = ℕ} n 0))

  first_below : (i : ℕ) → i < n → get_or first i 0 ≡ count i (0 ∷ [])
  unfolding count
  first_below zero h = get_or-set_same v₁ 0 1 0 (omega (arith, cleared_long))
  first_below (suc i) h =
      let d : suc i ≡ 0 → ⊥ = λ e. omega arith in
      get_or-set_other v₁ 0 (suc i) 1 0 d
      ∙ ap (λ (x : List ℕ). get_or x (suc i) 0) cleared
      ∙ lent_front (replicate n 0) v 0 (suc i) (omega (arith, length-replicate {A = ℕ} n 0))
      ∙ get_or-replicate n (suc i) 0 0 h
      ∙ sym (rw (ne_eqb 0 (suc i) (λ e. d (sym e))) refl)

  first_past : (i : ℕ) → n ≤ i → get_or first i 0 ≡ get_or v i 0
  first_past i h =
      let d : i ≡ 0 → ⊥ = λ e. omega arith in
      get_or-set_other v₁ 0 i 1 0 d
      ∙ ap (λ (x : List ℕ). get_or x i 0) cleared
      ∙ lent_past (replicate n 0) v 0 i (omega (arith, length-replicate {A = ℕ} n 0))

  -- with them a limit may be counted to that leaves room for the start
  pub countable : (limit : ℕ) → limit + 1 < 2 ^ 64 → CanCount n first limit
  countable limit h r i _ = omega (arith, first_below r i, count_most r (0 ∷ []))

  -- and what grew from them by the targets is the counts
  counted_all : (w v' : List ℕ) → length v' ≡ length v → Below n w → ((r : ℕ) → r < length first → get_or v' r 0 ≡ get_or first r 0 + count r w)
      → v' ≡ lent (counts n (0 ∷ w)) v
  unfolding count
  counted_all w v' q b f = ext_get_or 0 v' (lent (counts n (0 ∷ w)) v) (q ∙ sym (lent_length (counts n (0 ∷ w)) v (omega (arith, cells)))) at
    where
      cells : length (counts n (0 ∷ w)) ≡ n
      cells = counts_length n (0 ∷ w)

      has : (i : ℕ) → i < length v' → i < length first
      has i h = omega (arith, q, cleared_long, length-set v₁ 0 1)

      at : (i : ℕ) → i < length v' → get_or v' i 0 ≡ get_or (lent (counts n (0 ∷ w)) v) i 0
      at i h =
          by_size i n
          (λ k.
          let x = lent_front (counts n (0 ∷ w)) v 0 i (omega (arith, cells)) ∙ counts_at n i (0 ∷ w) k in
          omega (arith, f i (has i h), first_below i k, x))
          (λ k.
          let x = lent_past (counts n (0 ∷ w)) v 0 i (omega (arith, cells)) in
          omega (arith, f i (has i h), first_past i k, count_past i k b, x))

  pub counted : {rows exits : List ℕ} (g : Given) (l : Slices) {v' t t' : List ℕ} → Good n rows exits → length v' ≡ length v → ObservedAll rows exits g l first v' t t'
      → Counted n (job_of rows exits g l) v v'
  counted {rows} {exits} g l {v'} {t} G q c = record {
    history = c.history;
    cells =
        counted_all (map target_of c.history.exits) v' q
        (tail_below (entered_below (job_of rows exits g l) G c.history.passes G.some (record { dp = omega arith; cc = omega arith }))) c.cells;
  }
    where
      tail_below : {a : ℕ} {w : List ℕ} → Below n (a ∷ w) → Below n w
      tail_below (more h b) = b
