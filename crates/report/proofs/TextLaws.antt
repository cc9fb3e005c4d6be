-- Laws of the texts: what a turn of a loop writes, and how long they are. Assumes nothing.
use mathlib.Core.Path.{◌≡◌, sym, refl}
use mathlib.Core.Bool.{Bool, true, false, cond}
use mathlib.Core.List.{List, [], ◌∷◌, ◌++◌, append_assoc, append-nil}
use Prim.Native.Nat.{ℕ, zero, suc, ◌+◌, ◌-◌, ◌^◌, ◌<◌, ◌≤◌}
use native.Mathlib.Numerals.{add-one}
use native.Mathlib.Omega.{arith}
use lib.Dec.{eqb}
use lib.IntN.{ℤ, pos, negsuc}
use lib.Signed.{mag}
use lib.ListN.{length, get_or}
use Rattle.base.specs.Text.{ascii, decimal}
use Rattle.base.proofs.Decimal.{decimal_length}
use Rattle.stack.specs.Stack.{stack_of}
use Rattle.machine.specs.Output.{Emit, outs_of}
use Rattle.report.specs.Text.{int, value, letter, item, values, items}

pub values_turn : (cells : List ℤ) (i : ℕ) → 0 < i → values (stack_of cells i) ≡ value (get_or cells (i - 1) (pos 0)) ++ values (stack_of cells (i - 1))
unfolding values stack_of
values_turn cells zero h = absurd (omega arith)
values_turn cells (suc d) h = let e : suc d - 1 ≡ d = omega arith in rw e

items_append : (es fs : List Emit) → items (es ++ fs) ≡ items es ++ items fs
unfolding items
items_append [] fs = refl
items_append (e ∷ es) fs = rw (items_append es fs) (sym (append_assoc (item e.kind e.value) (items es) (items fs)))

-- one output more
pub items_turn : (kinds : List ℕ) (numbers : List ℤ) (i : ℕ)
    → items (outs_of kinds numbers i) ++ item (get_or kinds i 0) (get_or numbers i (pos 0)) ≡ items (outs_of kinds numbers (i + 1))
unfolding items outs_of
items_turn kinds numbers i =
    rw (add-one i, items_append (outs_of kinds numbers i) (record { kind = get_or kinds i 0; value = get_or numbers i (pos 0) } ∷ []), append-nil)

-- a number of 64 bits has at most 20 digits, a signed one at most 19 and a sign
pub decimal_long : (n : ℕ) → n < 2 ^ 64 → length (decimal n) ≤ 20
decimal_long n h = decimal_length 19 n (omega arith)

pub int_long : (z : ℤ) → mag z < 2 ^ 63 → length (int z) ≤ 20
unfolding int
int_long (pos n) h = omega (arith, decimal_length 18 n (omega arith))
int_long (negsuc n) h = omega (arith, decimal_length 18 (suc n) (omega arith))

pub letter_long : (kind : ℕ) → length (letter kind) ≡ 2
letter_long kind = go (eqb kind 1)
  where
    go : (b : Bool) → length (cond b (ascii " c") (ascii " i")) ≡ 2
    go true = refl
    go false = refl
