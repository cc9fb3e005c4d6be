-- Three mirrorings turn the top values of a stack. Assumes nothing.
use mathlib.Core.Path.{◌≡◌, refl, sym, ap, ◌∙◌}
use mathlib.Core.List.{List, [], ◌∷◌, ◌++◌, reverse, append_assoc, reverse-append, reverse-reverse}
use Prim.Native.Nat.{ℕ, zero, suc, ◌+◌, ◌-◌, ◌≤◌}
use native.Mathlib.Omega.{arith}
use lib.ListN.{length, get_or, take, drop, length-append, length-drop, length-reverse, take-append-drop}
use lib.Seq.{take_at, drop_at, take-suc, get_or-append-add, length-take-le}
use lib.IntN.{ℤ, pos}
use Rattle.stack.specs.Stack.{stack_of, Lies, Does}
use Rattle.stack.specs.Instr as Instr
use Rattle.stack.proofs.Mirror.{mirrored, mirror_cut}

-- a stack is its cells backwards
pub stack_of_take : (c : List ℤ) (d : ℕ) → d ≤ length c → stack_of c d ≡ reverse (take d c)
unfolding stack_of
stack_of_take c zero h = refl
stack_of_take c (suc d) h =
    ap (λ (l : List ℤ). get_or c d (pos 0) ∷ l) (stack_of_take c d (omega arith))
    ∙ sym (ap reverse (take-suc c d (pos 0) h) ∙ reverse-append (take d c) (get_or c d (pos 0) ∷ []))

pub stack_of_front : (a z : List ℤ) (d : ℕ) → length a ≡ d → stack_of (a ++ z) d ≡ reverse a
stack_of_front a z d e = stack_of_take (a ++ z) d (omega (arith, length-append a z)) ∙ ap reverse (take_at a z d e)

-- the same cells past the depth
kept : (a b z : List ℤ) (d : ℕ) → length a ≡ d → length b ≡ d → Lies (a ++ z) d → Lies (b ++ z) d
kept a b z d e f l = record {
  room = omega (arith, length-append b z);
  clean = λ i p. at b f i p ∙ sym (at a e i p) ∙ l.clean i p;
}
  where
    past : (i : ℕ) → d ≤ i → i ≡ d + (i - d)
    past i p = omega arith

    at : (b : List ℤ) → length b ≡ d → (i : ℕ) → d ≤ i → get_or (b ++ z) i (pos 0) ≡ get_or z (i - d) (pos 0)
    at b f i p = ap (λ (k : ℕ). get_or (b ++ z) k (pos 0)) (past i p ∙ ap (λ (k : ℕ). k + (i - d)) (sym f)) ∙ get_or-append-add b z (i - d) (pos 0)

-- a stack in three parts: p, then u, then v on top
stack_three : (p u v z : List ℤ) (d : ℕ) → length p + length u + length v ≡ d
    → stack_of (p ++ ((u ++ v) ++ z)) d ≡ reverse v ++ reverse u ++ reverse p
stack_three p u v z d e =
    ap (λ (l : List ℤ). stack_of l d) (sym (append_assoc p (u ++ v) z))
    ∙ stack_of_front (p ++ (u ++ v)) z d (length-append p (u ++ v) ∙ omega (arith, length-append u v))
    ∙ reverse-append p (u ++ v)
    ∙ ap (λ (l : List ℤ). l ++ reverse p) (reverse-append u v)

turn_three : (a b c : List ℤ) (n k : ℕ) → length a ≡ k → length a + length b ≡ n → Instr.turn n k (a ++ b ++ c) ≡ b ++ a ++ c
unfolding Instr.turn
turn_three a b c n k e f =
    rw (take_at (a ++ b) c n (length-append a b ∙ f), drop_at (a ++ b) c n (length-append a b ∙ f), drop_at a b k e, append_assoc a b c, take_at a (b ++ c) k e)
    refl

-- on a stack in four parts: p, then y, then x on top, and the cells z past the depth
module _ (p y x z : List ℤ) (d n k : ℕ) (hp : length p ≡ d - n) (hy : length y ≡ n - k) (hx : length x ≡ k) (kn : k ≤ n) (nd : n ≤ d) where
  cells : mirrored (d - n) d (mirrored (d - k) d (mirrored (d - n) (d - k) (p ++ (y ++ (x ++ z))))) ≡ p ++ ((x ++ y) ++ z)
  cells =
      ap (λ (l : List ℤ). mirrored (d - n) d (mirrored (d - k) d l)) (mirror_cut p y (x ++ z) (d - n) (d - k) hp (omega arith) ∙ sym (append_assoc p (reverse y) (x ++ z)))
      ∙ ap (mirrored (d - n) d)
      (mirror_cut (p ++ reverse y) x z (d - k) d (length-append p (reverse y) ∙ omega (arith, length-reverse y)) (omega arith)
      ∙ append_assoc p (reverse y) (reverse x ++ z)
      ∙ ap (λ (l : List ℤ). p ++ l) (sym (append_assoc (reverse y) (reverse x) z)))
      ∙ mirror_cut p (reverse y ++ reverse x) z (d - n) d hp (omega (arith, length-append (reverse y) (reverse x), length-reverse y, length-reverse x))
      ∙ ap (λ (l : List ℤ). p ++ (l ++ z)) back
    where
      back : reverse (reverse y ++ reverse x) ≡ x ++ y
      back = reverse-append (reverse y) (reverse x) ∙ rw (reverse-reverse x, reverse-reverse y) refl

  before : p ++ (y ++ (x ++ z)) ≡ p ++ ((y ++ x) ++ z)
  before = ap (λ (l : List ℤ). p ++ l) (sym (append_assoc y x z))

  turns : Lies (p ++ (y ++ (x ++ z))) d → Does (Instr.turn n k) (p ++ (y ++ (x ++ z))) d (p ++ ((x ++ y) ++ z)) d
  turns l = record {
    lies = rw (← append_assoc p (x ++ y) z)
        (kept (p ++ (y ++ x)) (p ++ (x ++ y)) z d
        (length-append p (y ++ x) ∙ omega (arith, length-append y x)) (length-append p (x ++ y) ∙ omega (arith, length-append x y))
        (rw (append_assoc p (y ++ x) z, ← before) l));
    is = stack_three p x y z d (omega arith)
        ∙ sym (turn_three (reverse x) (reverse y) (reverse p) n k (length-reverse x ∙ hx) (omega (arith, length-reverse x, length-reverse y)))
        ∙ ap (Instr.turn n k) (sym (ap (λ (l : List ℤ). stack_of l d) before ∙ stack_three p y x z d (omega arith)));
  }

-- the four parts of any cells
pub turns_at : (c : List ℤ) (d n k : ℕ) → k ≤ n → n ≤ d → Lies c d
    → Does (Instr.turn n k) c d (mirrored (d - n) d (mirrored (d - k) d (mirrored (d - n) (d - k) c))) d
turns_at c d n k kn nd l =
    go c (take (d - n) c) (take (n - k) (drop (d - n) c)) (take k (drop (n - k) (drop (d - n) c))) (drop k (drop (n - k) (drop (d - n) c)))
    (sym (rw (take-append-drop k (drop (n - k) (drop (d - n) c)), take-append-drop (n - k) (drop (d - n) c)) (take-append-drop (d - n) c)))
    (length-take-le (d - n) c (omega (arith, l.room)))
    (length-take-le (n - k) (drop (d - n) c) (rw length-drop (omega (arith, l.room))))
    (length-take-le k (drop (n - k) (drop (d - n) c)) (simp length-drop (omega (arith, l.room))))
    l
  where
    go : (c p y x z : List ℤ) → c ≡ p ++ (y ++ (x ++ z)) → length p ≡ d - n → length y ≡ n - k → length x ≡ k → Lies c d
        → Does (Instr.turn n k) c d (mirrored (d - n) d (mirrored (d - k) d (mirrored (d - n) (d - k) c))) d
    go c p y x z e hp hy hx l = rw e (rw (cells p y x z d n k hp hy hx kn nd) (turns p y x z d n k hp hy hx kn nd (rw e at l)))
