-- The page's roll (rule 14.14): one roll to depth n buries the top n deep; there are a of them, the other way for a negative a.
-- Assumes nothing.
use mathlib.Core.Path.{◌≡◌, sym, ap, ap₂, ◌∙◌}
use mathlib.Core.Logic.{by_cases}
use mathlib.Core.List.{List, [], ◌∷◌, ◌++◌, append_assoc, append-nil}
use Prim.Native.Nat.{ℕ, zero, suc, ◌+◌, ◌-◌, ◌*◌, ◌/◌, ◌%◌, ◌<◌, ◌≤◌}
use native.Mathlib.Decide.{dec_lt}
use native.Mathlib.Nat.{zero-add, suc-mod, mod_self, mod-lt, mod-eq_of_lt, add-zero, add-suc, mul-mod_left, div-add-mod', suc-mul}
use native.Mathlib.Omega.{arith}
use borrow.Author.Tests.{le-ltb, ne_eqb}
use lib.ListN.{length, get_or, take, drop, take-append-drop, drop_of_length-le, length-append, length-drop}
use lib.Seq.{take_at, drop_at, take-suc, drop-cons, get_or-take, length-take-le}
use lib.IntN.{ℤ, pos, negsuc}
use Rattle.word.specs.Word.{residue}
use Rattle.stack.specs.Instr as Instr
use Rattle.machine.specs.declared.Op.TheVariants.{Roll}
use Rattle.machine.specs.Machine.{does, exec, with_stack}
use Rattle.piet.specs.Page.{Changes, bury, times}

-- the top x goes below the values u
bury_below : (n : ℕ) (x : ℤ) (u r : List ℤ) → length u ≡ n - 1 → bury n (x ∷ (u ++ r)) ≡ u ++ (x ∷ r)
unfolding bury
bury_below n x u r e = ap₂ (λ (a b : List ℤ). a ++ (x ∷ b)) (take_at u r (n - 1) e) (drop_at u r (n - 1) e)

module _ (n : ℕ) (s : List ℤ) (some : 0 < n) (fits : n ≤ length s) where
  turned_all : Instr.turn n n s ≡ Instr.turn n 0 s
  unfolding Instr.turn
  turned_all = rw (drop_of_length-le (take n s) {i = n} (omega (arith, length-take-le n s fits)), append-nil (take n s))

  turned_none : Instr.turn n 0 s ≡ s
  unfolding Instr.turn
  turned_none = ap (λ (l : List ℤ). l ++ drop n s) (append-nil (take n s)) ∙ take-append-drop n s

  -- one roll more turns by one place more
  bury_turned : (k : ℕ) → k < n → bury n (Instr.turn n k s) ≡ Instr.turn n (suc k) s
  unfolding Instr.turn
  bury_turned k h =
      ap (λ (l : List ℤ). bury n (l ++ take k s ++ drop n s)) first
      ∙ bury_below n (get_or s k (pos 0)) (drop (suc k) (take n s) ++ take k s) (drop n s) size
      ∙ append_assoc (drop (suc k) (take n s)) (take k s) (get_or s k (pos 0) ∷ drop n s)
      ∙ sym
      (ap (λ (l : List ℤ). drop (suc k) (take n s) ++ l ++ drop n s) (take-suc s k (pos 0) (omega arith))
      ∙ append_assoc (drop (suc k) (take n s)) (take k s ++ (get_or s k (pos 0) ∷ [])) (drop n s)
      ∙ ap (λ (l : List ℤ). drop (suc k) (take n s) ++ l) (append_assoc (take k s) (get_or s k (pos 0) ∷ []) (drop n s)))
    where
      long : length (take n s) ≡ n
      long = length-take-le n s fits

      first : drop k (take n s) ≡ get_or s k (pos 0) ∷ drop (suc k) (take n s)
      first = drop-cons (take n s) k (pos 0) (omega (arith, long)) ∙ ap (λ (x : ℤ). x ∷ drop (suc k) (take n s)) (get_or-take n s k (pos 0) h)

      size : length (drop (suc k) (take n s) ++ take k s) ≡ n - 1
      size =
          omega (arith, length-append (drop (suc k) (take n s)) (take k s), length-drop (suc k) (take n s), long, length-take-le k s (omega arith))

  rolled_once : (k : ℕ) → k < n → bury n (Instr.turn n k s) ≡ Instr.turn n (suc k % n) s
  rolled_once k h =
      by_cases (dec_lt (suc k) n)
      (λ l. bury_turned k h ∙ ap (λ (i : ℕ). Instr.turn n i s) (sym (mod-eq_of_lt {n = suc k} {m = n} l)))
      (λ l.
      let e : suc k ≡ n = omega arith in
      bury_turned k h ∙ ap (λ (i : ℕ). Instr.turn n i s) e ∙ turned_all ∙ ap (λ (i : ℕ). Instr.turn n i s) (sym (ap (λ (i : ℕ). i % n) e ∙ mod_self n)))

  rolled_times : (j k : ℕ) → k < n → times j (bury n) (Instr.turn n k s) ≡ Instr.turn n ((k + j) % n) s
  unfolding times
  rolled_times zero k h = ap (λ (i : ℕ). Instr.turn n i s) (sym (ap (λ (i : ℕ). i % n) (add-zero k) ∙ mod-eq_of_lt {n = k} {m = n} h))
  rolled_times (suc j) k h =
      ap (bury n) (rolled_times j k h)
      ∙ rolled_once ((k + j) % n) (mod-lt (k + j) some)
      ∙ ap (λ (i : ℕ). Instr.turn n i s) (sym (ap (λ (i : ℕ). i % n) (add-suc k j) ∙ suc-mod (k + j) n))

  rolls : (a : ℤ) → Changes Roll (a ∷ pos n ∷ s) (Instr.turn n (residue a n) s)
  unfolding exec Instr.roll Instr.bad_depth Instr.places Instr.rolled
  rolls a g size m = rw (le-ltb (length s) n fits, ne_eqb n 0 (λ e. omega arith))

  -- a rolls to depth n
  pub roll : (a : ℕ) → Changes Roll (pos a ∷ pos n ∷ s) (times a (bury n) s)
  unfolding residue
  roll a g size m = rolls (pos a) g size m ∙ ap (λ (l : List ℤ). does (with_stack l m)) same
    where
      same : Instr.turn n (a % n) s ≡ times a (bury n) s
      same = sym (ap (times a (bury n)) (sym turned_none) ∙ rolled_times a 0 some ∙ ap (λ (i : ℕ). Instr.turn n (i % n) s) (zero-add a))

  -- the other way: as many rolls forward give back what there was
  pub roll_back : (k : ℕ) → (s' : List ℤ) × Changes Roll (negsuc k ∷ pos n ∷ s) s' × (times (suc k) (bury n) s' ≡ s)
  unfolding residue
  roll_back k = (
    Instr.turn n (n - suc (k % n)) s,
    rolls (negsuc k),
    rolled_times (suc k) (n - suc (k % n)) (omega arith) ∙ ap (λ (i : ℕ). Instr.turn n i s) whole ∙ turned_none,
  )
    where
      -- together they are whole turns
      whole : (n - suc (k % n) + suc k) % n ≡ 0
      whole =
          let e : n - suc (k % n) + suc k ≡ suc (k / n) * n = omega (arith, div-add-mod' k n, suc-mul (k / n) n, mod-lt k some) in
          ap (λ (i : ℕ). i % n) e ∙ mul-mod_left (suc (k / n)) n

-- a roll to depth 0: both values go, and nothing moves
pub roll_none : (a : ℤ) (s : List ℤ) → Changes Roll (a ∷ pos 0 ∷ s) s
unfolding exec Instr.roll Instr.bad_depth Instr.places Instr.rolled
roll_none a s g size m = rw (le-ltb (length s) 0 (omega arith))
