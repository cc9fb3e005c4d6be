-- A text that is written a word at a time. Assumes nothing.
use mathlib.Core.Path.{◌≡◌, ◌∙◌, sym, refl}
use mathlib.Core.List.{List, [], ◌++◌, append_assoc, append-nil}
use Prim.Native.Nat.{ℕ, ◌+◌, ◌≤◌}
use native.Mathlib.Omega.{arith}
use lib.ListN.{length}
use Rattle.report.specs.Wrote.{Wrote}
use Rattle.report.proofs.Writing.{put_none, wrote, widen, wrote_length, wrote_room, wrote_then}

-- a front of the whole text is written, at most so many bytes, and the rest is not
pub record Partly (d : List ℕ) (at : ℕ) (whole rest : List ℕ) (most r : ℕ) (d' : List ℕ) : Type 0 where
  pub front : List ℕ
  pub split : front ++ rest ≡ whole
  pub done : Wrote d at front r d' most

pub partly_none : (d : List ℕ) (at : ℕ) (whole : List ℕ) (m : ℕ) → Partly d at whole whole m at d
partly_none d at whole m = record { front = []; split = refl; done = wrote (put_none d at) m (omega arith) }

module _ {d d' : List ℕ} {at r m : ℕ} {whole rest : List ℕ} (p : Partly d at whole rest m r d') where
  pub partly_room : (n : ℕ) → at + (m + n) ≤ length d → r + n ≤ length d'
  partly_room n h = wrote_room n p.done h

  pub partly_more : (v w : List ℕ) → rest ≡ v ++ w → {s n : ℕ} {d'' : List ℕ} → Wrote d' r v s d'' n → (m' : ℕ) → m + n ≤ m' → at + (m + n) ≤ length d
      → Partly d at whole w m' s d''
  partly_more v w e q m' k h =
      record {
        front = p.front ++ v;
        split = append_assoc p.front v w ∙ rw (← e) p.split;
        done = widen (wrote_then p.done q h) m' k;
      }

  pub partly_length : at + m ≤ length d → length d' ≡ length d
  partly_length h = wrote_length p.done h

  pub partly_all : rest ≡ [] → Wrote d at whole r d' m
  partly_all e = let s : p.front ≡ whole = sym (append-nil p.front) ∙ rw (← e) p.split in rw s at p.done
