-- A grid has one map: what `IsMap` says settles every number and the count. Assumes nothing.
use mathlib.Core.Path.{◌≡◌, sym, ◌∙◌}
use mathlib.Core.Logic.{by_cases}
use mathlib.Core.List.{List}
use Prim.Native.Nat.{ℕ, zero, suc, ◌-◌, ◌≤◌, ◌<◌}
use native.Mathlib.Omega.{arith}
use native.Mathlib.Decide.{dec_lt}
use lib.ListN.{length, get_or, drop}
use Rattle.region.specs.Grid.{Grid, count}
use Rattle.region.specs.Region.{Joined, IsMap}
use Rattle.region.proofs.Cells.{same_list}

-- a number that is less in one map than in the other would have come before in the other, and so in both
not_less : (g : Grid) (m m' : List ℕ) (n n' : ℕ) → IsMap g m n → IsMap g m' n' → (i : ℕ) → i < count g
    → ((j : ℕ) → j < i → get_or m j 0 ≡ get_or m' j 0) → get_or m i 0 < get_or m' i 0 → ⊥
not_less g m m' n n' a b i h before less =
    let (j, l, e) = b.order i h (get_or m i 0) less in
    let inside : j < count g = omega arith in
    let path : Joined g j i = a.apart j i inside h (before j l ∙ e) in
    omega (arith, b.same j i inside h path)

agree : (g : Grid) (m m' : List ℕ) (n n' : ℕ) → IsMap g m n → IsMap g m' n' → (f i : ℕ) → i < f → i < count g
    → get_or m i 0 ≡ get_or m' i 0
agree g m m' n n' a b zero i l h = absurd (omega arith)
agree g m m' n n' a b (suc f) i l h =
    let before : (j : ℕ) → j < i → get_or m j 0 ≡ get_or m' j 0 = λ j s. agree g m m' n n' a b f j (omega arith) (omega arith) in
    let up : ¬ (get_or m i 0 < get_or m' i 0) = not_less g m m' n n' a b i h before in
    let down : ¬ (get_or m' i 0 < get_or m i 0) = not_less g m' m n' n b a i h (λ j s. sym (before j s)) in
    omega arith

not_fewer : (g : Grid) (m m' : List ℕ) (n n' : ℕ) → IsMap g m n → IsMap g m' n'
    → ((i : ℕ) → i < count g → get_or m i 0 ≡ get_or m' i 0) → n < n' → ⊥
not_fewer g m m' n n' a b same less =
    let (j, l, e) = b.each n less in
    omega (arith, a.below j l, same j l)

-- two maps of one grid have the same number at every codel, and the same count
pub unique : (g : Grid) (m m' : List ℕ) (n n' : ℕ) → IsMap g m n → IsMap g m' n'
    → ((i : ℕ) → i < count g → get_or m i 0 ≡ get_or m' i 0) × (n ≡ n')
unique g m m' n n' a b =
    let same : (i : ℕ) → i < count g → get_or m i 0 ≡ get_or m' i 0 = λ i h. agree g m m' n n' a b (suc i) i (omega arith) h in
    let up : ¬ (n < n') = not_fewer g m m' n n' a b same in
    let down : ¬ (n' < n) = not_fewer g m' m n' n b a (λ i h. sym (same i h)) in
    (same, omega arith)

-- a map's numbers are no more than its codels
low : (g : Grid) (m : List ℕ) (n : ℕ) → IsMap g m n → (f i : ℕ) → i < f → i < count g → get_or m i 0 ≤ i
low g m n a zero i l h = absurd (omega arith)
low g m n a (suc f) i l h =
    by_cases (dec_lt 0 (get_or m i 0))
    (λ some.
    let (j, k, e) = a.order i h (get_or m i 0 - 1) (omega arith) in
    omega (arith, low g m n a f j (omega arith) (omega arith)))
    (λ none. omega arith)

pub map_low : (g : Grid) (m : List ℕ) (n : ℕ) → IsMap g m n → (i : ℕ) → i < count g → get_or m i 0 ≤ i
map_low g m n a i h = low g m n a (suc i) i (omega arith) h

pub map_few : (g : Grid) (m : List ℕ) (n : ℕ) → IsMap g m n → n ≤ count g
map_few g m n a =
    by_cases (dec_lt 0 n)
    (λ some.
    let (j, k, e) = a.each (n - 1) (omega arith) in
    omega (arith, map_low g m n a j k))
    (λ none. omega arith)

-- what the numbering leaves is settled: two maps of one length that agree beyond the codels are equal
pub settled : (g : Grid) (m m' : List ℕ) (n n' : ℕ) → IsMap g m n → IsMap g m' n' → length m ≡ length m'
    → drop (count g) m ≡ drop (count g) m'
    → (m ≡ m') × (n ≡ n')
settled g m m' n n' a b size rest =
    let u = unique g m m' n n' a b in
    (same_list (count g) m m' size u.0 rest, u.1)
