-- The length of the first line, byte by byte, and how a line lies in the input.
--     line_none, line_here, line_more      by the byte at a place
--     line_some                            a line that begins within the input has a byte
--     line_within, line_part               a line that begins within the input ends within it, and is a part of it
--     line_size                            a line has as many bytes as it is long
--     line_rest                            from a place within a line, the line is the rest of it
-- Assumes nothing.
use Prim.Native.Nat.{ℕ, zero, suc, ◌+◌, ◌-◌, ◌<◌, ◌≤◌}
use mathlib.Core.Path.{◌≡◌, refl, ap}
use mathlib.Core.Bool.{Bool, true, false, cond}
use mathlib.Core.List.{List, [], ◌∷◌}
use native.Mathlib.Omega.{arith}
use borrow.Author.Tests.{eq-eqb, ne_eqb}
use lib.Dec.{eqb}
use lib.ListN.{length, get_or, take, drop, length-take, length-drop, drop_of_length-le}
use lib.Seq.{length-take-le}
use Rattle.text.specs.Line.{line_length, line_at, line_end}
use Rattle.text.proofs.Parts.{from1}

module _ (s : List ℕ) (i : ℕ) where
  pub line_none : length s ≤ i → line_length (drop i s) ≡ 0
  unfolding line_length
  line_none h = rw (drop_of_length-le s h)

  pub line_here : i < length s → get_or s i 0 ≡ 10 → line_length (drop i s) ≡ 1
  unfolding line_length
  line_here h e = rw (from1 s i h, eq-eqb (get_or s i 0) 10 e)

  pub line_more : i < length s → (get_or s i 0 ≡ 10 → ⊥) → line_length (drop i s) ≡ 1 + line_length (drop (i + 1) s)
  unfolding line_length
  line_more h e = rw (from1 s i h, ne_eqb (get_or s i 0) 10 e)

pick_le : (t : Bool) (m n : ℕ) → m ≤ n → cond t 1 (1 + m) ≤ suc n
pick_le true m n h = omega arith
pick_le false m n h = omega arith

line_le : (l : List ℕ) → line_length l ≤ length l
unfolding line_length
line_le [] = omega arith
line_le (b ∷ bs) = pick_le (eqb b 10) (line_length bs) (length bs) (line_le bs)

pub line_within : (s : List ℕ) (at : ℕ) → at ≤ length s → line_end s at ≤ length s
line_within s at h = omega (arith, line_le (drop at s), length-drop at s)

pick_some : (t : Bool) (m : ℕ) → 0 < cond t 1 (1 + m)
pick_some true m = omega arith
pick_some false m = omega arith

line_has : (l : List ℕ) → 0 < length l → 0 < line_length l
unfolding line_length
line_has [] h = absurd (omega arith)
line_has (b ∷ bs) h = pick_some (eqb b 10) (line_length bs)

pub line_some : (s : List ℕ) (at e : ℕ) → e ≡ line_end s at → at < length s → 0 < length (take (e - at) (drop at s))
line_some s at e is h =
    let d = length-drop at s in
    let n = line_has (drop at s) (omega arith) in
    rw length-take (omega (arith, line_le (drop at s)))

pub line_part : (s : List ℕ) (at e : ℕ) → e ≡ line_end s at → take (e - at) (drop at s) ≡ line_at s at
line_part s at e is =
    let n : e - at ≡ line_length (drop at s) = omega arith in
    ap (λ (k : ℕ). take k (drop at s)) n

pub line_size : (s : List ℕ) (at : ℕ) → length (line_at s at) ≡ line_length (drop at s)
line_size s at = length-take-le (line_length (drop at s)) (drop at s) (line_le (drop at s))

pub line_rest : (n : ℕ) (l : List ℕ) → n < line_length l → take (line_length (drop n l)) (drop n l) ≡ drop n (take (line_length l) l)
unfolding line_length
line_rest zero l h = refl
line_rest (suc n) [] h = absurd (omega arith)
line_rest (suc n) (b ∷ bs) h = go (eqb b 10) h (line_rest n bs)
  where
    Rest : List ℕ → Type 0
    Rest l = take (line_length (drop n bs)) (drop n bs) ≡ l

    go : (t : Bool) → suc n < cond t 1 (1 + line_length bs) → (n < line_length bs → Rest (drop n (take (line_length bs) bs)))
        → Rest (drop (suc n) (take (cond t 1 (1 + line_length bs)) (b ∷ bs)))
    go true k on = absurd (omega arith)
    go false k on = let e : 1 + line_length bs ≡ suc (line_length bs) = omega arith in rw e (on (omega arith))
