-- A table that passes one test at each pair of colours is the rule's, and the commands are 0 to 17. Assumes nothing.
use mathlib.Core.Bool.{Bool, true, false, cond, ◌&&◌}
use mathlib.Core.List.{List, []}
use Prim.Native.Nat.{ℕ, ◌<◌, ◌≤◌}
use native.Mathlib.Omega.{arith}
use lib.Dec.{eqb, eqb→eq, leb, leb→le, ltb, lit≤, T}
use lib.ListN.{get_or}
use Rattle.colour.specs.Decode.{commands, hue_steps, darker_steps, decode_of}
use Rattle.colour.specs.Lookup.{DecodesPairs}
use Rattle.base.proofs.Table.{all_two, all_two_at}

abbrev right : List (List ℕ) → ℕ → ℕ → Bool
right pairs from to = eqb (get_or (get_or pairs from []) to 0) (decode_of from to)

-- one test over the four hundred pairs
pub all_right : (pairs : List (List ℕ)) → T (all_two 20 20 (right pairs)) → DecodesPairs pairs
all_right pairs t =
    record { entry = λ from to h k. eqb→eq _ _ (all_two_at 20 20 (right pairs) t from to (omega arith) (omega arith)) }

-- the commands are at most 17
small : ℕ → ℕ → Bool
small h d = leb (get_or (get_or commands h []) d 0) 17

small_at : (h d : ℕ) → h < 6 → d < 3 → get_or (get_or commands h []) d 0 ≤ 17
unfolding small
small_at h d k l = leb→le _ _ (all_two_at 6 3 small tt h d k l)

pub decode_small : (from to : ℕ) → decode_of from to ≤ 17
unfolding decode_of
decode_small from to = pick (ltb from 18 && ltb to 18)
  where
    pick : (t : Bool) → cond t (get_or (get_or commands (hue_steps from to) []) (darker_steps from to) 0) 0 ≤ 17
    pick true = small_at (hue_steps from to) (darker_steps from to) (omega arith) (omega arith)
    pick false = lit≤ tt
