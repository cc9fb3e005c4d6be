-- The regions are numbered one after the other, by first codel.
--     part_none      no region is numbered
--     part_over      a codel that has a number is passed
--     part_whole     every codel has been passed: the map is the regions'
-- Assumes nothing.
use mathlib.Core.Path.{◌≡◌, refl, sym, ap, ◌∙◌}
use mathlib.Core.Logic.{◌≢◌, by_cases}
use mathlib.Core.List.{List}
use Prim.Native.Nat.{ℕ, ◌+◌, ◌≤◌, ◌<◌}
use native.Mathlib.Decide.{dec_lt}
use native.Mathlib.Omega.{arith}
use lib.ListN.{length, get_or}
use Rattle.region.specs.Grid.{Grid, count}
use Rattle.region.specs.Region.{Joined, here, on, IsMap}
use Rattle.region.specs.Steps.{unnumbered, Part}

pub part_none : {g : Grid} {m : List ℕ} → ((j : ℕ) → j < count g → get_or m j 0 ≡ unnumbered) → Part g 0 0 m
part_none marked = record {
  few = omega arith;
  passed = λ j h. absurd (omega arith);
  below = λ j h d. absurd (d (marked j h));
  even = λ j i n e. marked j n.from ∙ sym (marked i n.to);
  one = λ j i h hi d e. absurd (d (marked j h));
  used = λ r h. absurd (omega arith);
  order = λ j h d r less. absurd (d (marked j h));
}

pub part_over : {g : Grid} {i k : ℕ} {m : List ℕ} → Part g i k m → get_or m i 0 ≢ unnumbered → Part g (i + 1) k m
part_over {i = i} {m = m} p d = record {
  few = omega (arith, p.few);
  passed = λ j h.
      by_cases (dec_lt j i)
      (λ b. p.passed j b)
      (λ b e. let at : j ≡ i = omega arith in d (ap (λ (x : ℕ). get_or m x 0) (sym at) ∙ e));
  below = p.below;
  even = p.even;
  one = p.one;
  used = λ r h. let (j, l, e) = p.used r h in (j, omega arith, e);
  order = p.order;
}

-- joined codels have one number
along : {g : Grid} {i k : ℕ} {m : List ℕ} → Part g i k m → {a b : ℕ} → Joined g a b → get_or m a 0 ≡ get_or m b 0
along p here = refl
along p (on {j = c} {k = d} q s e) = along p q ∙ p.even c d s e

pub part_whole : {g : Grid} {n : ℕ} {m : List ℕ} → Part g (count g) n m → count g ≤ length m → IsMap g m n
part_whole p long = record {
  long = long;
  same = λ i j hi hj q. along p q;
  apart = λ i j hi hj e. p.one i j hi hj (p.passed i hi) e;
  order = λ i h r less. p.order i h (p.passed i h) r less;
  below = λ i h. p.below i h (p.passed i h);
  each = λ r h. p.used r h;
}
