-- Parts of a list, as the code takes them. Assumes nothing.
use Prim.Native.Nat.{ℕ, ◌+◌, ◌-◌, ◌<◌}
use mathlib.Core.Path.{◌≡◌}
use mathlib.Core.List.{List, ◌∷◌}
use native.Mathlib.Numerals.{add-one}
use native.Mathlib.Nat.{le_refl}
use lib.ListN.{length, get_or, take, drop, length-drop}
use lib.Seq.{drop-cons, take_all}

-- what stands from a place on, by its first element
pub from1 : (s : List ℕ) (at : ℕ) → at < length s → drop at s ≡ get_or s at 0 ∷ drop (at + 1) s
from1 s at h = rw (add-one, drop-cons s at 0)

-- the part `&s[a..]`
pub part_from : (s : List ℕ) (a : ℕ) → take (length s - a) (drop a s) ≡ drop a s
part_from s a = take_all (length s - a) (drop a s) (rw length-drop (le_refl (length s - a)))
