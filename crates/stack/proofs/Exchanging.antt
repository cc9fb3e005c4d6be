-- Exchanges from both ends inward mirror a part, and three such parts turn the top of a stack. Assumes nothing.
use mathlib.Core.Path.{◌≡◌, refl, sym, ap, ◌∙◌}
use mathlib.Core.List.{List, [], ◌∷◌, ◌++◌}
use Prim.Native.Nat.{ℕ, zero, suc, ◌+◌, ◌-◌, ◌/◌, ◌≤◌}
use native.Mathlib.Omega.{arith}
use native.Mathlib.Numerals.{add-one}
use lib.ListN.{length, length-set}
use lib.IntN.{ℤ}
use Rattle.stack.specs.Stack.{Lies, Does}
use Rattle.stack.specs.Instr as Instr
use Rattle.stack.specs.Exchange.{Exchanges, exchange, exchanged, inward, reversal, three_reversals}
use Rattle.stack.proofs.Mirror.{mirrored, mirror_step, mirror_end}
use Rattle.stack.proofs.Turning.{turns_at}

pub length_exchanged : (ps : Exchanges) (c : List ℤ) → length (exchanged ps c) ≡ length c
unfolding exchanged exchange
length_exchanged [] c = refl
length_exchanged (p ∷ ps) c = length_exchanged ps (exchange p.0 p.1 c) ∙ simp length-set

one_after_the_other : (ps qs : Exchanges) (c : List ℤ) → exchanged (ps ++ qs) c ≡ exchanged qs (exchanged ps c)
unfolding exchanged
one_after_the_other [] qs c = refl
one_after_the_other (p ∷ ps) qs c = one_after_the_other ps qs (exchange p.0 p.1 c)

-- a reversal puts its part into the opposite order
reverses : (m lo hi : ℕ) (c : List ℤ) → (hi - lo) / 2 ≡ m → lo ≤ hi → hi ≤ length c → exchanged (inward m lo hi) c ≡ mirrored lo hi c
unfolding exchanged exchange inward
reverses zero lo hi c e h l = sym (mirror_end c lo hi (omega arith) h l)
reverses (suc m) lo hi c e h l =
    ap (λ (i : ℕ). exchanged (inward m i (hi - 1)) (exchange lo (hi - 1) c)) (sym (add-one lo))
    ∙ reverses m (lo + 1) (hi - 1) (exchange lo (hi - 1) c) (omega arith) (omega arith) (simp length-set (omega arith))
    ∙ mirror_step c lo hi (omega arith) l

pub reversed : (lo hi : ℕ) (c : List ℤ) → lo ≤ hi → hi ≤ length c → exchanged (reversal lo hi) c ≡ mirrored lo hi c
reversed lo hi c h l = reverses ((hi - lo) / 2) lo hi c refl h l

-- the three reversals one after the other, as the code makes them
pub three : (d n k : ℕ) (c : List ℤ)
    → exchanged (three_reversals d n k) c
    ≡ exchanged (reversal (d - n) d) (exchanged (reversal (d - k) d) (exchanged (reversal (d - n) (d - k)) c))
unfolding three_reversals
three d n k c =
    one_after_the_other (reversal (d - n) (d - k) ++ reversal (d - k) d) (reversal (d - n) d) c
    ∙ ap (exchanged (reversal (d - n) d)) (one_after_the_other (reversal (d - n) (d - k)) (reversal (d - k) d) c)

-- they turn the top n values of a stack by k places
pub turns : (c : List ℤ) (d n k : ℕ) → k ≤ n → n ≤ d → Lies c d → Does (Instr.turn n k) c d (exchanged (three_reversals d n k) c) d
turns c d n k kn nd l = rw (three d n k c) (rw (third, second, first) (turns_at c d n k kn nd l))
  where
    c₁ : List ℤ
    c₁ = exchanged (reversal (d - n) (d - k)) c

    c₂ : List ℤ
    c₂ = exchanged (reversal (d - k) d) c₁

    first : c₁ ≡ mirrored (d - n) (d - k) c
    first = reversed (d - n) (d - k) c (omega arith) (omega (arith, l.room))

    second : c₂ ≡ mirrored (d - k) d c₁
    second = reversed (d - k) d c₁ (omega arith) (omega (arith, l.room, length_exchanged (reversal (d - n) (d - k)) c))

    third : exchanged (reversal (d - n) d) c₂ ≡ mirrored (d - n) d c₂
    third = reversed (d - n) d c₂ (omega arith)
        (omega (arith, l.room, length_exchanged (reversal (d - n) (d - k)) c, length_exchanged (reversal (d - k) d) c₁))
