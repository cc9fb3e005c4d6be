-- The turns of a trail: none at its beginning, one more by a turn, no more by a move. Assumes nothing.
use mathlib.Core.Path.{◌≡◌, refl}
use mathlib.Core.List.{[], ◌∷◌}
use Prim.Native.Nat.{ℕ, ◌+◌, ◌%◌}
use native.Mathlib.Omega.{arith}
use borrow.Author.Tests.{eq-eqb, ne_eqb}
use Rattle.flow.specs.Pointer.{turned_once}
use Rattle.flow.specs.declared.PointerState.{PointerState}
use Rattle.exit.specs.Trail.{Station, station, Trail, turns_of}

pub no_turns : (a : Station) → turns_of (a ∷ []) ≡ 0
unfolding turns_of
no_turns a = refl

-- a turn leads to another dp
other_dp : (d : ℕ) → (d + 1) % 4 ≡ d → ⊥
other_dp d e = omega arith

module _ (r c : ℕ) (s : PointerState) (past : Trail) where
  pub turns_turn : turns_of (station r c (turned_once s) ∷ station r c s ∷ past) ≡ turns_of (station r c s ∷ past) + 1
  unfolding turns_of
  turns_turn = rw (ne_eqb ((s.dp + 1) % 4) s.dp (other_dp s.dp)) (omega arith)

  pub turns_move : (a b : ℕ) → turns_of (station a b s ∷ station r c s ∷ past) ≡ turns_of (station r c s ∷ past)
  unfolding turns_of
  turns_move a b = rw (eq-eqb s.dp s.dp refl) (omega arith)
