-- What one codel more, and one state more, does to the table of the codels to leave by. Assumes nothing.
use mathlib.Core.Path.{◌≡◌, refl, sym, ap, subst, ◌∙◌}
use mathlib.Core.Bool.{Bool, true, false, cond}
use mathlib.Core.List.{List}
use Prim.Native.Nat.{ℕ, ◌+◌, ◌<◌}
use native.Mathlib.Omega.{arith}
use borrow.Author.Tests.{eqb-true, eqb-false, eq-eqb, ne_eqb}
use lib.Dec.{eqb}
use lib.ListN.{length, get_or, length-set}
use lib.Seq.{get_or-set_same, get_or-set_other}
use Rattle.base.proofs.Tests.{by_size}
use Rattle.flow.specs.Pointer.{Valid, state_number, of_number}
use Rattle.flow.proofs.Order.{number_small}
use Rattle.flow.specs.declared.PointerState.{PointerState}
use Rattle.table.specs.Layout.{exit_cell, exit_at}
use Rattle.table.proofs.Cells.{exit_apart}
use Rattle.exit.specs.Leaving.{beats, Furthest, LeavesBy}
use Rattle.exit.specs.LeaveTable.{Mapped, AllKept}
use Rattle.exit.specs.Keeping.{cell_of, Cells, better, kept, Kept}
use Rattle.exit.proofs.LeavingLaws.{beats_self, beats_past}

-- a number below i + 1 is below i, or i
last_or : {P : Type 0} (j i : ℕ) → j < i + 1 → (j < i → P) → (j ≡ i → P) → P
last_or j i h f g = by_size j i f (λ l. g (omega arith))

-- ---- the better of two codels

module _ (map : List ℕ) (rows cols : ℕ) (s : PointerState) (i j : ℕ) where
  pub better_beaten : get_or map j 0 ≡ get_or map i 0 → beats rows cols s i j ≡ true → better map rows cols s i j ≡ i
  unfolding better
  better_beaten e b = simp (eq-eqb (get_or map j 0) (get_or map i 0) e, b)

  pub better_kept : get_or map j 0 ≡ get_or map i 0 → beats rows cols s i j ≡ false → better map rows cols s i j ≡ j
  unfolding better
  better_kept e b = simp (eq-eqb (get_or map j 0) (get_or map i 0) e, b)

  pub better_new : (get_or map j 0 ≡ get_or map i 0 → ⊥) → better map rows cols s i j ≡ i
  unfolding better
  better_new h = simp (ne_eqb (get_or map j 0) (get_or map i 0) h)

  pub better_small : (n : ℕ) → i < n → j < n → better map rows cols s i j < n
  unfolding better
  better_small n h k = pick (eqb (get_or map j 0) (get_or map i 0)) (beats rows cols s i j)
    where
      pick : (p q : Bool) → cond p (cond q i j) i < n
      pick true true = h
      pick true false = k
      pick false q = h

-- ---- one codel more

module _ (map best : List ℕ) (rows cols : ℕ) (s : PointerState) (i : ℕ) (L : Cells map best rows cols) (h : i < length map) (v : Valid s) where
  abbrev held : ℕ
  held = get_or best (cell_of map s i) 0

  pub cell_in : cell_of map s i < length best
  cell_in = omega (arith, L.mapped.numbered i h, L.mapped.room, number_small s v)

  -- what the pass has kept for the region of codel i, if that has come up before
  abbrev Before : List ℕ → Type 0
  Before l = (j : ℕ) → j < i → Furthest map rows cols s i (get_or map j 0) (get_or l (cell_of map s j) 0)

  earlier : Before best → (j : ℕ) → j < i → get_or map j 0 ≡ get_or map i 0 → Furthest map rows cols s i (get_or map i 0) held
  earlier B j l e = subst (λ (m : ℕ). Furthest map rows cols s i m (get_or best (exit_cell m (state_number s)) 0)) e (B j l)

  -- the better of codel i and the one held is the furthest of the first i + 1
  abbrev Weighed : ℕ → Type 0
  Weighed x = Furthest map rows cols s (i + 1) (get_or map i 0) x

  weigh : Before best → (p q : Bool) → eqb (get_or map held 0) (get_or map i 0) ≡ p → beats rows cols s i held ≡ q → Weighed (cond p (cond q i held) i)
  weigh B true true e f =
      record {
        codel = h;
        own = refl;
        unbeaten = λ j l o. last_or j i l
            (λ m. beats_past rows cols s i held j f ((earlier B j m o).unbeaten j m o))
            (λ m. subst (λ (x : ℕ). beats rows cols s x i ≡ false) (sym m) (beats_self rows cols s i));
      }
  weigh B true false e f =
      record {
        codel = L.codels (cell_of map s i) cell_in;
        own = eqb-true _ _ e;
        unbeaten = λ j l o. last_or j i l
            (λ m. (earlier B j m o).unbeaten j m o)
            (λ m. subst (λ (x : ℕ). beats rows cols s x held ≡ false) (sym m) f);
      }
  weigh B false q e f =
      record {
        codel = h;
        own = refl;
        unbeaten = λ j l o. last_or j i l
            (λ m. absurd (eqb-false _ _ e (earlier B j m o).own))
            (λ m. subst (λ (x : ℕ). beats rows cols s x i ≡ false) (sym m) (beats_self rows cols s i));
      }

  weighed : Before best → Weighed (better map rows cols s i held)
  unfolding better
  weighed B = weigh B (eqb (get_or map held 0) (get_or map i 0)) (beats rows cols s i held) refl refl

  other_cell : (j : ℕ) → (get_or map j 0 ≡ get_or map i 0 → ⊥) → cell_of map s j ≡ cell_of map s i → ⊥
  other_cell j n e = n (omega arith)

  -- a region that codel i is not of
  longer : (j : ℕ) → (get_or map j 0 ≡ get_or map i 0 → ⊥) → {x : ℕ} → Furthest map rows cols s i (get_or map j 0) x → Furthest map rows cols s (i + 1) (get_or map j 0) x
  longer j n F =
      record {
        codel = F.codel;
        own = F.own;
        unbeaten = λ k l o. last_or k i l
            (λ m. F.unbeaten k m o)
            (λ m. absurd (n (sym o ∙ ap (λ (x : ℕ). get_or map x 0) m)));
      }

  -- the pass goes on with codel i
  next_best : Before best → (j : ℕ) → j < i + 1 → (b : Bool) → eqb (get_or map j 0) (get_or map i 0) ≡ b
      → Furthest map rows cols s (i + 1) (get_or map j 0) (get_or (kept map best rows cols s i) (cell_of map s j) 0)
  next_best B j l true e =
      let m = eqb-true (get_or map j 0) (get_or map i 0) e in
      subst (λ (r : ℕ). Furthest map rows cols s (i + 1) r (get_or (kept map best rows cols s i) (exit_cell r (state_number s)) 0)) (sym m)
      (subst Weighed (sym (get_or-set_same best (cell_of map s i) (better map rows cols s i held) 0 cell_in)) (weighed B))
  next_best B j l false e =
      let n = eqb-false (get_or map j 0) (get_or map i 0) e in
      last_or j i l
      (λ m.
      subst (Furthest map rows cols s (i + 1) (get_or map j 0))
      (sym (get_or-set_other best (cell_of map s i) (cell_of map s j) (better map rows cols s i held) 0 (other_cell j n)))
      (longer j n (B j m)))
      (λ m. absurd (n (ap (λ (x : ℕ). get_or map x 0) m)))

  pub kept_more : (before : List ℕ) → Kept map before best rows cols s i → Kept map before (kept map best rows cols s i) rows cols s (i + 1)
  kept_more before K =
      record {
        same_length = length-set best (cell_of map s i) (better map rows cols s i held) ∙ K.same_length;
        best = λ j l. next_best K.best j l (eqb (get_or map j 0) (get_or map i 0)) refl;
        others = λ k n.
            get_or-set_other best (cell_of map s i) k (better map rows cols s i held) 0 (λ e. n i (omega arith) (sym e))
            ∙ K.others k (λ j l. n j (omega arith));
      }

  -- the cells still hold codels
  pub cells_more : Cells map (kept map best rows cols s i) rows cols
  cells_more =
      record {
        mapped = subst (λ (n : ℕ). Mapped map n rows cols) (sym (length-set best (cell_of map s i) (better map rows cols s i held))) L.mapped;
        codels = λ k l. at k (subst (λ (n : ℕ). k < n) (length-set best (cell_of map s i) (better map rows cols s i held)) l) (eqb k (cell_of map s i)) refl;
      }
    where
      at : (k : ℕ) → k < length best → (b : Bool) → eqb k (cell_of map s i) ≡ b → get_or (kept map best rows cols s i) k 0 < length map
      at k l true e =
          subst (λ (x : ℕ). get_or (kept map best rows cols s i) x 0 < length map) (sym (eqb-true k (cell_of map s i) e))
          (subst (λ (x : ℕ). x < length map) (sym (get_or-set_same best (cell_of map s i) (better map rows cols s i held) 0 cell_in))
          (better_small map rows cols s i held (length map) h (L.codels (cell_of map s i) cell_in)))
      at k l false e =
          subst (λ (x : ℕ). x < length map)
          (sym (get_or-set_other best (cell_of map s i) k (better map rows cols s i held) 0 (eqb-false k (cell_of map s i) e)))
          (L.codels k l)

-- ---- one state more

-- a state's number
number_is : (s : ℕ) → state_number (of_number s) ≡ s
number_is s = omega arith

pub all_more : (map before best after : List ℕ) (rows cols n : ℕ) → n < 8 → AllKept map before best rows cols n
    → Kept map best after rows cols (of_number n) (length map) → AllKept map before after rows cols (n + 1)
all_more map before best after rows cols n h A K =
    record {
      same_length = K.same_length ∙ A.same_length;
      leaves = λ s l j m. last_or s n l (earlier s j m) (λ o. subst (λ (t : ℕ). Left t j) (sym o) (now j m));
      others = λ r s k none.
          K.others (exit_cell r s) (λ j l e. let x = meet j r s k e in none (omega (arith, x.1)) j l x.0)
          ∙ A.others r s k (λ l j m e. none (omega arith) j m e);
    }
  where
    -- the codel to leave by stands in the exit of codel j's region
    Left : ℕ → ℕ → Type 0
    Left s j = LeavesBy map rows cols (of_number s) (get_or map j 0) (exit_at after (get_or map j 0) s)

    -- a cell of this pass that is a region's exit in a state
    meet : (j r s : ℕ) → s < 8 → cell_of map (of_number n) j ≡ exit_cell r s → (get_or map j 0 ≡ r) × (n ≡ s)
    meet j r s k e =
        let x = exit_apart (get_or map j 0) (state_number (of_number n)) r s (omega arith) k e in
        (x.0, sym (number_is n) ∙ x.1)

    earlier : (s j : ℕ) → j < length map → s < n → Left s j
    earlier s j m o =
        subst (LeavesBy map rows cols (of_number s) (get_or map j 0))
        (sym (K.others (exit_cell (get_or map j 0) s) (λ i l e. omega (arith, (meet i (get_or map j 0) s (omega arith) e).1))))
        (A.leaves s o j m)

    now : (j : ℕ) → j < length map → Left n j
    now j m = subst (λ (c : ℕ). LeavesBy map rows cols (of_number n) (get_or map j 0) (exit_at after (get_or map j 0) c)) (number_is n) (K.best j m)
