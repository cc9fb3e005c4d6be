-- Laws of counting in lists.
--     Below                                   all numbers of a list are below n
--     count_append, count_most, count_past    one list after another; no more than there are; none of a number that all are below
--     one_most                                what is counted for one element is at most 1
--     counts_at, counts_length, counts_sum    the counts of the numbers below n: each, how many, and all together
--     counts_none, counts_more                all together, of no numbers and of one number more
--     those_one, those_not, those_none        one number more is tested, which passes or does not; and none
--     those_most, those_count, those_rise     those of the numbers below n: no more than n, each once, and rising
--     those_same                              tests that agree below n find the same
-- Assumes nothing.
use mathlib.Core.Path.{◌≡◌, refl, sym, ap, ◌∙◌}
use mathlib.Core.Bool.{Bool, true, false, cond, ◌&&◌}
use mathlib.Core.List.{List, [], ◌∷◌, ◌++◌, map-append, append-nil}
use Prim.Native.Nat.{ℕ, zero, suc, ◌+◌, ◌<◌, ◌≤◌}
use native.Mathlib.Omega.{arith}
use borrow.Author.Tests.{ltb-true, ltb-false, eqb-true, eqb-false, lt-ltb, le-ltb, eq-eqb, ne_eqb}
use lib.Dec.{eqb, ltb}
use lib.ListN.{length, get_or, length-map, length-append, get_or-append}
use lib.Seq.{get_or_at}
use Rattle.base.specs.Counting.{count, sum, up_to, counts, those}
use Rattle.base.proofs.LentLaws.{map_at}
use Rattle.base.proofs.Tests.{by_size}

-- all are below n
pub data Below (n : ℕ) : List ℕ → Type 0 where
  none : Below n []
  more : {a : ℕ} {l : List ℕ} → a < n → Below n l → Below n (a ∷ l)

pub count_append : (x : ℕ) (l k : List ℕ) → count x (l ++ k) ≡ count x l + count x k
unfolding count
count_append x [] k = omega arith
count_append x (a ∷ l) k = omega (arith, count_append x l k)

-- what is counted for one element
pub one_most : (t : Bool) → cond t 1 0 ≤ 1
one_most true = omega arith
one_most false = omega arith

pub count_most : (x : ℕ) (l : List ℕ) → count x l ≤ length l
unfolding count
count_most x [] = omega arith
count_most x (a ∷ l) = omega (arith, one_most (eqb a x), count_most x l)

pub count_past : {n : ℕ} {l : List ℕ} (x : ℕ) → n ≤ x → Below n l → count x l ≡ 0
unfolding count
count_past x h none = refl
count_past x h (more {a} {l} k b) =
    let d : a ≡ x → ⊥ = λ e. omega arith in
    rw (ne_eqb a x d) (omega (arith, count_past x h b))

up_to_length : (n : ℕ) → length (up_to n) ≡ n
unfolding up_to
up_to_length zero = refl
up_to_length (suc n) = length-append (up_to n) (n ∷ []) ∙ (omega (arith, up_to_length n))

up_to_at : (n i : ℕ) → i < n → get_or (up_to n) i 0 ≡ i
unfolding up_to
up_to_at zero i h = absurd (omega arith)
up_to_at (suc n) i h =
    by_size i n (λ k. get_or-append (up_to n) (n ∷ []) 0 i (omega (arith, up_to_length n)) ∙ up_to_at n i k)
    (λ k.
    let e : i ≡ n = omega arith in
    get_or_at (up_to n) n [] 0 i (up_to_length n ∙ sym e) ∙ sym e)

pub counts_at : (n i : ℕ) (l : List ℕ) → i < n → get_or (counts n l) i 0 ≡ count i l
counts_at n i l h = map_at (λ x. count x l) (up_to n) i 0 0 (omega (arith, up_to_length n)) ∙ ap (λ (x : ℕ). count x l) (up_to_at n i h)

pub counts_length : (n : ℕ) (l : List ℕ) → length (counts n l) ≡ n
counts_length n l = length-map (up_to n) (λ x. count x l) ∙ up_to_length n

sum_append : (l k : List ℕ) → sum (l ++ k) ≡ sum l + sum k
unfolding sum
sum_append [] k = omega arith
sum_append (a ∷ l) k = omega (arith, sum_append l k)

pub counts_none : (l : List ℕ) → sum (counts 0 l) ≡ 0
unfolding sum up_to
counts_none l = refl

pub counts_more : (n : ℕ) (l : List ℕ) → sum (counts (suc n) l) ≡ sum (counts n l) + count n l
unfolding sum up_to
counts_more n l =
    ap sum (map-append (λ x. count x l) (up_to n) (n ∷ []))
    ∙ sum_append (counts n l) (count n l ∷ [])
    ∙ (omega arith)

-- how many are below n
unfoldable lower : ℕ → List ℕ → ℕ
lower n [] = 0
lower n (a ∷ l) = cond (ltb a n) 1 0 + lower n l

one_more : (a n : ℕ) → cond (ltb a (suc n)) 1 0 ≡ cond (ltb a n) 1 0 + cond (eqb a n) 1 0
one_more a n = go (ltb a (suc n)) (ltb a n) (eqb a n) refl refl refl
  where
    go : (t l e : Bool) → ltb a (suc n) ≡ t → ltb a n ≡ l → eqb a n ≡ e → ◌≡◌ {A = ℕ} (cond t 1 0) (cond l 1 0 + cond e 1 0)
    go true true true p q r = absurd (omega (arith, ltb-true a n q, eqb-true a n r))
    go true true false p q r = refl
    go true false true p q r = refl
    go true false false p q r = absurd (omega (arith, ltb-true a (suc n) p, ltb-false a n q, eqb-false a n r))
    go false true e p q r = absurd (omega (arith, ltb-false a (suc n) p, ltb-true a n q))
    go false false true p q r = absurd (omega (arith, ltb-false a (suc n) p, eqb-true a n r))
    go false false false p q r = refl

lower_zero : (l : List ℕ) → lower 0 l ≡ 0
unfolding lower
lower_zero [] = refl
lower_zero (a ∷ l) = rw (le-ltb a 0 (omega arith)) (omega (arith, lower_zero l))

lower_more : (n : ℕ) (l : List ℕ) → lower (suc n) l ≡ lower n l + count n l
unfolding lower count
lower_more n [] = refl
lower_more n (a ∷ l) = omega (arith, lower_more n l, one_more a n)

lower_all : {n : ℕ} {l : List ℕ} → Below n l → lower n l ≡ length l
unfolding lower
lower_all none = refl
lower_all {n} (more {a} h b) = rw (lt-ltb a n h) (omega (arith, lower_all b))

lower_counts : (n : ℕ) (l : List ℕ) → sum (counts n l) ≡ lower n l
lower_counts zero l = counts_none l ∙ sym (lower_zero l)
lower_counts (suc n) l = omega (arith, counts_more n l, lower_more n l, lower_counts n l)

pub counts_sum : {n : ℕ} {l : List ℕ} → Below n l → sum (counts n l) ≡ length l
counts_sum {n} {l} b = lower_counts n l ∙ lower_all b

those_append : (f : ℕ → Bool) (l k : List ℕ) → those f (l ++ k) ≡ those f l ++ those f k
unfolding those
those_append f [] k = refl
those_append f (a ∷ l) k = go (f a) (those_append f l k)
  where
    go : (t : Bool) → those f (l ++ k) ≡ those f l ++ those f k
        → cond t (a ∷ those f (l ++ k)) (those f (l ++ k)) ≡ cond t (a ∷ those f l) (those f l) ++ those f k
    go true e = ap (λ (x : List ℕ). a ∷ x) e
    go false e = e

-- how often r stands in the one number that is tested next
count_last : (r n : ℕ) (t : Bool) → count r (cond t (n ∷ []) []) ≡ cond t (cond (eqb n r) 1 0) 0
unfolding count
count_last r n true = omega arith
count_last r n false = refl

cond_same : (t : Bool) → ◌≡◌ {A = ℕ} (cond t 0 0) 0
cond_same true = refl
cond_same false = refl

module _ (f : ℕ → Bool) where
  -- one number more is tested, and by the test's answer
  those_more : (n : ℕ) → those f (up_to (suc n)) ≡ those f (up_to n) ++ cond (f n) (n ∷ []) []
  unfolding up_to those
  those_more n = those_append f (up_to n) (n ∷ [])

  pub those_one : (n : ℕ) → f n ≡ true → those f (up_to (suc n)) ≡ those f (up_to n) ++ (n ∷ [])
  those_one n e = those_more n ∙ rw e

  pub those_not : (n : ℕ) → f n ≡ false → those f (up_to (suc n)) ≡ those f (up_to n)
  those_not n e = those_more n ∙ rw e (append-nil (those f (up_to n)))

  by_test : (P : List ℕ → Type 0) (n : ℕ) → P (those f (up_to n) ++ (n ∷ [])) → P (those f (up_to n)) → P (those f (up_to (suc n)))
  by_test P n a b = go (f n) refl
    where
      go : (t : Bool) → f n ≡ t → P (those f (up_to (suc n)))
      go true e = rw (those_one n e) a
      go false e = rw (those_not n e) b

  pub those_none : those f (up_to 0) ≡ []
  unfolding those up_to
  those_none = refl

  pub those_most : (n : ℕ) → length (those f (up_to n)) ≤ n
  those_most zero = rw those_none (omega arith)
  those_most (suc n) =
      let h = those_most n in
      by_test (λ l. length l ≤ suc n) n (simp length-append (omega arith)) (omega arith)

  -- they rise: each is below what is tested next
  those_below : (n i : ℕ) → i < length (those f (up_to n)) → get_or (those f (up_to n)) i 0 < n
  those_below zero i = λ h. absurd (omega (arith, those_most 0))
  those_below (suc n) i =
      let w = those f (up_to n) in
      by_test (λ l. i < length l → get_or l i 0 < suc n) n
      (λ h. by_size i (length w)
      (λ k. rw (get_or-append w (n ∷ []) 0 i k) (omega (arith, those_below n i k)))
      (λ k. rw (get_or_at w n [] 0 i (omega (arith, length-append w (n ∷ [])))) (omega arith)))
      (λ h. omega (arith, those_below n i h))

  pub those_rise : (n i k : ℕ) → i < k → k < length (those f (up_to n)) → get_or (those f (up_to n)) i 0 < get_or (those f (up_to n)) k 0
  those_rise zero i k l = λ h. absurd (omega (arith, those_most 0))
  those_rise (suc n) i k l =
      let w = those f (up_to n) in
      by_test (λ s. k < length s → get_or s i 0 < get_or s k 0) n
      (λ h.
      let g = length-append w (n ∷ []) in
      let j : i < length w = omega arith in
      rw (get_or-append w (n ∷ []) 0 i j)
      (by_size k (length w)
      (λ m. rw (get_or-append w (n ∷ []) 0 k m) (those_rise n i k l m))
      (λ m. rw (get_or_at w n [] 0 k (omega arith)) (those_below n i j))))
      (those_rise n i k l)

  those_count_more : (n r : ℕ) → count r (those f (up_to (suc n))) ≡ count r (those f (up_to n)) + cond (f n) (cond (eqb n r) 1 0) 0
  those_count_more n r = rw (those_more n, count_append r (those f (up_to n)) (cond (f n) (n ∷ []) []), count_last r n (f n))

  pub those_count : (n r : ℕ) → count r (those f (up_to n)) ≡ cond (ltb r n && f r) 1 0
  unfolding count
  those_count zero r = rw (those_none, le-ltb r 0 (omega arith))
  those_count (suc n) r =
      those_count_more n r
      ∙ rw (those_count n r)
      (by_size r n
      (λ l. rw (lt-ltb r n l, lt-ltb r (suc n) (omega arith), ne_eqb n r (λ e. omega arith), cond_same (f n)) (omega arith))
      (λ g.
      by_size n r
      (λ l. rw (le-ltb r n g, le-ltb r (suc n) l, ne_eqb n r (λ e. omega arith), cond_same (f n)) refl)
      (λ l.
      let e : n ≡ r = omega arith in
      rw (le-ltb r n g, lt-ltb r (suc n) (omega arith), eq-eqb n r e, e) (omega arith))))

-- tests that agree below n find the same
pub those_same : (f g : ℕ → Bool) (n : ℕ) → ((r : ℕ) → r < n → f r ≡ g r) → those f (up_to n) ≡ those g (up_to n)
those_same f g zero h = those_none f ∙ sym (those_none g)
those_same f g (suc n) h = rw (those_more f n, those_more g n, h n (omega arith), those_same f g n (λ r l. h r (omega arith)))
