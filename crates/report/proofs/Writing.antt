-- Words that are written one after another: room for each, and what all write. Assumes nothing.
use mathlib.Core.Path.{◌≡◌, sym}
use mathlib.Core.List.{List, [], ◌++◌}
use Prim.Native.Nat.{ℕ, ◌+◌, ◌≤◌}
use native.Mathlib.Nat.{add-zero}
use native.Mathlib.Omega.{arith}
use lib.ListN.{length, length-append}
use Rattle.base.specs.Lent.{Put, Room}
use Rattle.base.proofs.Over.{put_put, put_length, over_none}
use Rattle.report.specs.Text.{newline}
use Rattle.report.specs.Wrote.{Wrote}

pub put_none : (d : List ℕ) (at : ℕ) → Put d at [] at d
put_none d at = record { next = sym (add-zero at); list = over_none d at }

-- words of which only a bound is known
pub wrote : {d d' w : List ℕ} {at r : ℕ} → Put d at w r d' → (m : ℕ) → length w ≤ m → Wrote d at w r d' m
wrote p m h = record { put = p; short = h }

pub widen : {d d' w : List ℕ} {at r m : ℕ} → Wrote d at w r d' m → (n : ℕ) → m ≤ n → Wrote d at w r d' n
widen p n h = let k = p.short in record { put = p.put; short = omega arith }

pub room_of_lem : {d : List ℕ} {at : ℕ} (w : List ℕ) (m : ℕ) → length w ≤ m → at + m ≤ length d → Room d at w
room_of_lem w m h k = record { enough = omega arith }

pub wrote_length : {d d' w : List ℕ} {at r m : ℕ} → Wrote d at w r d' m → at + m ≤ length d → length d' ≡ length d
wrote_length p h = let k = p.short in put_length (omega arith) p.put

pub wrote_room : {d d' w : List ℕ} {at r m : ℕ} (n : ℕ) → Wrote d at w r d' m → at + (m + n) ≤ length d → r + n ≤ length d'
wrote_room n p h =
    let k = p.short in
    let e = p.put.next in
    omega (arith, wrote_length p (omega arith))

pub wrote_then : {d d' d'' v w : List ℕ} {at r s m n : ℕ} → Wrote d at v r d' m → Wrote d' r w s d'' n → at + (m + n) ≤ length d
    → Wrote d at (v ++ w) s d'' (m + n)
wrote_then {v = v} {w = w} p q h =
    let k = p.short in
    let l = q.short in
    record { put = put_put (omega arith) p.put q.put; short = rw (length-append v w) (omega arith) }

-- a line: its head, what it lists, and a newline
pub wrote_line : {d d₁ d₂ d₃ v w : List ℕ} {at r s t m n : ℕ} → Wrote d at v r d₁ m → Wrote d₁ r w s d₂ n → Put d₂ s newline t d₃
    → at + (m + n + 1) ≤ length d → Wrote d at (v ++ w ++ newline) t d₃ (m + n + 1)
wrote_line p q x h = wrote_then (wrote_then p q (omega arith)) (wrote x 1 (omega arith)) h
