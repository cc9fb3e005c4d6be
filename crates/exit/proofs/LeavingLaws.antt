-- `beats` orders the codels of a grid, and the code's tests answer it. Assumes nothing.
use mathlib.Core.Path.{◌≡◌, refl, sym, ◌∙◌}
use mathlib.Core.Bool.{Bool, true, false, cond, true≢false, false≢true}
use mathlib.Core.Logic.{◌⊎◌, inl, inr}
use Prim.Native.Nat.{ℕ, zero, suc, ◌+◌, ◌-◌, ◌*◌, ◌/◌, ◌%◌, ◌<◌, ◌≤◌}
use native.Mathlib.Nat.{div-add-mod', div-lt_iff_lt-mul, mod-lt}
use native.Mathlib.Omega.{arith}
use borrow.Author.Tests.{ltb-true, ltb-false, lt-ltb, le-ltb}
use lib.Dec.{ltb}
use Rattle.flow.specs.Pointer.{Valid}
use Rattle.flow.specs.declared.PointerState.{PointerState}
use Rattle.exit.specs.Leaving.{behind, side_of, further, reach, beats}

-- ---- two pairs of distances

-- the test as a fact
abbrev More : ℕ → ℕ → ℕ → ℕ → Type 0
More a b a' b' = (a' < a) ⊎ ((a ≡ a') × (b' < b))

abbrev pub NotMore : ℕ → ℕ → ℕ → ℕ → Type 0
NotMore a b a' b' = (a < a') ⊎ ((a ≡ a') × (b ≤ b'))

is_more : (a b a' b' : ℕ) → further a b a' b' ≡ true → More a b a' b'
is_more a b a' b' e = first (ltb a' a) refl e
  where
    second : a ≤ a' → (t : Bool) → ltb a a' ≡ t → cond t false (ltb b' b) ≡ true → More a b a' b'
    second h true k e = absurd (false≢true e)
    second h false k e = let l = ltb-false a a' k in inr (omega arith, ltb-true b' b e)

    first : (t : Bool) → ltb a' a ≡ t → cond t true (cond (ltb a a') false (ltb b' b)) ≡ true → More a b a' b'
    first true h e = inl (ltb-true a' a h)
    first false h e = second (ltb-false a' a h) (ltb a a') refl e

not_more : (a b a' b' : ℕ) → further a b a' b' ≡ false → NotMore a b a' b'
not_more a b a' b' e = first (ltb a' a) refl e
  where
    second : a ≤ a' → (t : Bool) → ltb a a' ≡ t → cond t false (ltb b' b) ≡ false → NotMore a b a' b'
    second h true k e = inl (ltb-true a a' k)
    second h false k e = let l = ltb-false a a' k in inr (omega arith, ltb-false b' b e)

    first : (t : Bool) → ltb a' a ≡ t → cond t true (cond (ltb a a') false (ltb b' b)) ≡ false → NotMore a b a' b'
    first true h e = absurd (true≢false e)
    first false h e = second (ltb-false a' a h) (ltb a a') refl e

-- and back: what is not more is not found to be
more_false : (a b a' b' : ℕ) → (More a b a' b' → ⊥) → further a b a' b' ≡ false
more_false a b a' b' h = go (further a b a' b') refl
  where
    go : (t : Bool) → further a b a' b' ≡ t → further a b a' b' ≡ false
    go true e = absurd (h (is_more a b a' b' e))
    go false e = e

-- nothing is more than itself
same_more : (a b : ℕ) → More a b a b → ⊥
same_more a b (inl h) = omega arith
same_more a b (inr h) = omega arith

-- what is not more than a pair is not more than what is more than that pair
past : (a b x y p q : ℕ) → More x y p q → NotMore a b p q → More a b x y → ⊥
past a b x y p q (inl f) (inl g) (inl h) = omega arith
past a b x y p q (inl f) (inl g) (inr h) = omega arith
past a b x y p q (inl f) (inr g) (inl h) = omega arith
past a b x y p q (inl f) (inr g) (inr h) = omega arith
past a b x y p q (inr f) (inl g) (inl h) = omega arith
past a b x y p q (inr f) (inl g) (inr h) = omega arith
past a b x y p q (inr f) (inr g) (inl h) = omega arith
past a b x y p q (inr f) (inr g) (inr h) = omega arith

-- neither is more: they are equal
level : (a b p q : ℕ) → NotMore a b p q → NotMore p q a b → (a ≡ p) × (b ≡ q)
level a b p q (inl f) (inl g) = omega arith
level a b p q (inl f) (inr g) = omega arith
level a b p q (inr f) (inl g) = omega arith
level a b p q (inr f) (inr g) = omega arith

-- the test where its parts are known
more_first : (a b a' b' : ℕ) → a' < a → further a b a' b' ≡ true
more_first a b a' b' h = simp (lt-ltb a' a h)

more_not : (a b a' b' : ℕ) → a < a' → further a b a' b' ≡ false
more_not a b a' b' h =
    let k : a ≤ a' = omega arith in
    simp (le-ltb a' a k, lt-ltb a a' h)

more_second : (a b a' b' : ℕ) → a ≤ a' → a' ≤ a → further a b a' b' ≡ ltb b' b
more_second a b a' b' h k = simp (le-ltb a' a h, le-ltb a a' k)

-- ---- the same of codels

module _ (rows cols : ℕ) (s : PointerState) where
  abbrev A : ℕ → ℕ
  A i = reach rows cols s.dp i

  abbrev B : ℕ → ℕ
  B i = reach rows cols (side_of s) i

  pub beats_self : (i : ℕ) → beats rows cols s i i ≡ false
  unfolding beats
  beats_self i = more_false (A i) (B i) (A i) (B i) (same_more (A i) (B i))

  pub beats_past : (i j k : ℕ) → beats rows cols s i j ≡ true → beats rows cols s k j ≡ false → beats rows cols s k i ≡ false
  unfolding beats
  beats_past i j k e f =
      more_false (A k) (B k) (A i) (B i)
      (past (A k) (B k) (A i) (B i) (A j) (B j) (is_more (A i) (B i) (A j) (B j) e) (not_more (A k) (B k) (A j) (B j) f))

  pub beats_not : (i j : ℕ) → beats rows cols s i j ≡ false → NotMore (A i) (B i) (A j) (B j)
  unfolding beats
  beats_not i j e = not_more (A i) (B i) (A j) (B j) e

  -- the code's tests, of distances that were worked out
  module _ (i j : ℕ) {a b : ℕ} (ea : a ≡ A i) (eb : b ≡ A j) where
    pub beats_further : b < a → true ≡ beats rows cols s i j
    unfolding beats
    beats_further h = sym (more_first (A i) (B i) (A j) (B j) (omega arith))

    pub beats_nearer : a < b → false ≡ beats rows cols s i j
    unfolding beats
    beats_nearer h = sym (more_not (A i) (B i) (A j) (B j) (omega arith))

    pub beats_side : a ≤ b → b ≤ a → {x y : ℕ} → x ≡ B i → y ≡ B j → ltb y x ≡ beats rows cols s i j
    unfolding beats
    beats_side h k ex ey = rw (ex, ey) (sym (more_second (A i) (B i) (A j) (B j) (omega arith) (omega arith)))

-- ---- places

-- facing up is what is none of the other three
pub behind_up : (rows cols d r c : ℕ) → (d ≡ 0 → ⊥) → (d ≡ 1 → ⊥) → (d ≡ 2 → ⊥) → rows - 1 - r ≡ behind rows cols d r c
unfolding behind
behind_up rows cols zero r c h i j = absurd (h refl)
behind_up rows cols (suc zero) r c h i j = absurd (i refl)
behind_up rows cols (suc (suc zero)) r c h i j = absurd (j refl)
behind_up rows cols (suc (suc (suc d))) r c h i j = refl

-- a codel's place follows from how far it lies toward dp and toward cc
placed : (rows cols d k r c r' c' : ℕ) → r < rows → c < cols → r' < rows → c' < cols → d < 4 → k < 2
    → behind rows cols d r c ≡ behind rows cols d r' c'
    → behind rows cols ((d + 3 + 2 * k) % 4) r c ≡ behind rows cols ((d + 3 + 2 * k) % 4) r' c'
    → (r ≡ r') × (c ≡ c')
unfolding behind
placed rows cols zero zero r c r' c' h i h' i' l m e f = omega arith
placed rows cols zero (suc zero) r c r' c' h i h' i' l m e f = omega arith
placed rows cols (suc zero) zero r c r' c' h i h' i' l m e f = omega arith
placed rows cols (suc zero) (suc zero) r c r' c' h i h' i' l m e f = omega arith
placed rows cols (suc (suc zero)) zero r c r' c' h i h' i' l m e f = omega arith
placed rows cols (suc (suc zero)) (suc zero) r c r' c' h i h' i' l m e f = omega arith
placed rows cols (suc (suc (suc zero))) zero r c r' c' h i h' i' l m e f = omega arith
placed rows cols (suc (suc (suc zero))) (suc zero) r c r' c' h i h' i' l m e f = omega arith
placed rows cols (suc (suc (suc (suc d)))) zero r c r' c' h i h' i' l m e f = omega arith
placed rows cols (suc (suc (suc (suc d)))) (suc zero) r c r' c' h i h' i' l m e f = omega arith
placed rows cols d (suc (suc k)) r c r' c' h i h' i' l m e f = omega arith

-- two codels of the grid of which neither beats the other are one
pub neither : (rows cols : ℕ) (s : PointerState) → 0 < cols → Valid s → (i j : ℕ) → i < rows * cols → j < rows * cols
    → beats rows cols s i j ≡ false → beats rows cols s j i ≡ false → i ≡ j
neither rows cols s h v i j li lj e f =
    let a = level _ _ _ _ (beats_not rows cols s i j e) (beats_not rows cols s j i f) in
    let q =
    placed rows cols s.dp s.cc (i / cols) (i % cols) (j / cols) (j % cols)
    ((div-lt_iff_lt-mul h).1 li) (mod-lt i h) ((div-lt_iff_lt-mul h).1 lj) (mod-lt j h)
    v.dp v.cc a.0 a.1 in
    joined q.0 q.1
  where
    joined : i / cols ≡ j / cols → i % cols ≡ j % cols → i ≡ j
    joined p q = sym (div-add-mod' i cols) ∙ rw (p, q) (div-add-mod' j cols)
