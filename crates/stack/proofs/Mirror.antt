-- Cells in the opposite order: what one exchange of two cells leaves to do. Assumes nothing.
use mathlib.Core.Path.{◌≡◌, refl, sym, ap, ◌∙◌}
use mathlib.Core.List.{List, [], ◌∷◌, ◌++◌, reverse, append_assoc, reverse-append, reverse-cons}
use Prim.Native.Nat.{ℕ, suc, ◌+◌, ◌-◌, ◌<◌, ◌≤◌}
use native.Mathlib.Omega.{arith}
use lib.ListN.{length, get_or, set, take, drop, length-append, length-drop, length-take, take-append-drop}
use lib.Seq.{take_at, drop_at, set_at, split_at, get_or-drop, length-take-le, drop-drop}
use lib.IntN.{ℤ, pos}
use Rattle.stack.specs.Exchange.{exchange}

-- the cells from lo up to hi in the opposite order
unfoldable pub mirrored : ℕ → ℕ → List ℤ → List ℤ
mirrored lo hi c = take lo c ++ reverse (take (hi - lo) (drop lo c)) ++ drop hi c

module _ {A : Type 0} where
  sum : (p q : List A) {i j : ℕ} → length p ≡ i → i + length q ≡ j → length (p ++ q) ≡ j
  sum p q e f = length-append p q ∙ rw e f

-- the middle of three parts
pub mirror_cut : (p q r : List ℤ) (i j : ℕ) → length p ≡ i → i + length q ≡ j
    → mirrored i j (p ++ (q ++ r)) ≡ p ++ (reverse q ++ r)
unfolding mirrored
mirror_cut p q r i j e f =
    rw (take_at p (q ++ r) i e, drop_at p (q ++ r) i e, take_at q r (j - i) (omega arith), ← append_assoc p q r, drop_at (p ++ q) r j (sum p q e f))
    (append_assoc p (reverse q) r)

-- two cells exchanged
swap_cut : (p q r : List ℤ) (x y : ℤ) (i k : ℕ) → length p ≡ i → suc i + length q ≡ k
    → set (set (p ++ (x ∷ (q ++ (y ∷ r)))) i y) k x ≡ p ++ (y ∷ (q ++ (x ∷ r)))
swap_cut p q r x y i k e f =
    ap (λ (l : List ℤ). set l k x) (set_at p x (q ++ (y ∷ r)) y i e ∙ sym (append_assoc p (y ∷ q) (y ∷ r)))
    ∙ set_at (p ++ (y ∷ q)) y r x k (length-append p (y ∷ q) ∙ omega arith)
    ∙ append_assoc p (y ∷ q) (x ∷ r)

-- the order of a part whose ends are exchanged
ends : (q : List ℤ) (x y : ℤ) → reverse (x ∷ (q ++ (y ∷ []))) ≡ y ∷ (reverse q ++ (x ∷ []))
ends q x y = reverse-cons x (q ++ (y ∷ [])) ∙ ap (λ (l : List ℤ). l ++ (x ∷ [])) (reverse-append q (y ∷ []))

-- one turn of the loop, on cells in five parts
turned : (p q r : List ℤ) (x y : ℤ) (i j : ℕ) → length p ≡ i → i + 2 + length q ≡ j
    → mirrored (i + 1) (j - 1) (p ++ (y ∷ (q ++ (x ∷ r)))) ≡ mirrored i j (p ++ (x ∷ (q ++ (y ∷ r))))
turned p q r x y i j e f =
    ap (mirrored (i + 1) (j - 1)) (sym (append_assoc p (y ∷ []) (q ++ (x ∷ r))))
    ∙ mirror_cut (p ++ (y ∷ [])) q (x ∷ r) (i + 1) (j - 1) (length-append p (y ∷ []) ∙ omega arith) (omega arith)
    ∙ append_assoc p (y ∷ []) (reverse q ++ (x ∷ r))
    ∙ ap (λ (l : List ℤ). p ++ (y ∷ l)) (sym (append_assoc (reverse q) (x ∷ []) r))
    ∙ ap (λ (l : List ℤ). p ++ (l ++ r)) (sym (ends q x y))
    ∙ sym (mirror_cut p (x ∷ (q ++ (y ∷ []))) r i j e (omega (arith, length-append q (y ∷ []))))
    ∙ ap (λ (l : List ℤ). mirrored i j (p ++ (x ∷ l))) (append_assoc q (y ∷ []) r)

-- the five parts of cells
abbrev parts : List ℤ → ℕ → ℕ → List ℤ
parts c i j = take (j - 2 - i) (drop (suc i) c)

cut : (c : List ℤ) (i j : ℕ) → i + 1 < j → j ≤ length c
    → c ≡ take i c ++ (get_or c i (pos 0) ∷ (parts c i j ++ (get_or c (j - 1) (pos 0) ∷ drop (suc (j - 2 - i)) (drop (suc i) c))))
cut c i j h l =
    split_at c i (pos 0) (omega arith)
    ∙ ap (λ (d : List ℤ). take i c ++ (get_or c i (pos 0) ∷ d))
    (split_at (drop (suc i) c) (j - 2 - i) (pos 0) (rw length-drop (omega arith))
    ∙ ap (λ (z : ℤ). parts c i j ++ (z ∷ drop (suc (j - 2 - i)) (drop (suc i) c)))
    (get_or-drop (suc i) c (j - 2 - i) (pos 0) ∙ ap (λ (k : ℕ). get_or c k (pos 0)) (place i j h)))
  where
    place : (i j : ℕ) → i + 1 < j → suc i + (j - 2 - i) ≡ j - 1
    place i j h = omega arith

pub mirror_step : (c : List ℤ) (i j : ℕ) → i + 1 < j → j ≤ length c
    → mirrored (i + 1) (j - 1) (exchange i (j - 1) c) ≡ mirrored i j c
unfolding exchange
mirror_step c i j h l =
    go c (take i c) (parts c i j) (drop (suc (j - 2 - i)) (drop (suc i) c)) (get_or c i (pos 0)) (get_or c (j - 1) (pos 0)) (cut c i j h l)
    (length-take-le i c (omega arith))
    (rw (length-take-le (j - 2 - i) (drop (suc i) c) (rw length-drop (omega arith))) (omega arith))
  where
    go : (c p q r : List ℤ) (x y : ℤ) → c ≡ p ++ (x ∷ (q ++ (y ∷ r))) → length p ≡ i → i + 2 + length q ≡ j
        → mirrored (i + 1) (j - 1) (set (set c i y) (j - 1) x) ≡ mirrored i j c
    go c p q r x y e f g =
        ap (λ (l : List ℤ). mirrored (i + 1) (j - 1) (set (set l i y) (j - 1) x)) e
        ∙ ap (mirrored (i + 1) (j - 1)) (swap_cut p q r x y i (j - 1) f (omega arith))
        ∙ turned p q r x y i j f g
        ∙ ap (mirrored i j) (sym e)

-- no turn is left
pub mirror_end : (c : List ℤ) (i j : ℕ) → j ≤ i + 1 → i ≤ j → j ≤ length c → mirrored i j c ≡ c
unfolding mirrored
mirror_end c i j h k l =
    ap (λ (q : List ℤ). take i c ++ q ++ drop j c) (short (take (j - i) (drop i c)) (rw length-take (omega arith)))
    ∙ append_assoc (take i c) (take (j - i) (drop i c)) (drop j c)
    ∙ ap (λ (q : List ℤ). take i c ++ (take (j - i) (drop i c) ++ q)) (ap (λ (n : ℕ). drop n c) (back i j k) ∙ sym (drop-drop (j - i) i c))
    ∙ ap (λ (q : List ℤ). take i c ++ q) (take-append-drop (j - i) (drop i c))
    ∙ take-append-drop i c
  where
    back : (i j : ℕ) → i ≤ j → j ≡ i + (j - i)
    back i j h = omega arith

    short : (q : List ℤ) → length q ≤ 1 → reverse q ≡ q
    short [] h = refl
    short (x ∷ []) h = refl
    short (x ∷ (y ∷ q)) h = absurd (omega arith)
