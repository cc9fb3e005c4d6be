-- How Roll moves its values: by exchanging two cells at a time (rule 9.11). Assumes nothing.
use Rattle.std.specs.Prelude.{cond, List, [], ◌∷◌, ◌++◌, ℕ, zero, suc, ◌+◌, ◌-◌, ◌/◌, eqb, length, get_or, set, ℤ, pos}
use Rattle.word.specs.Word.{residue}
use Rattle.stack.specs.Instr.{places}

-- pairs of cells, by their index (cell 0 is the bottom), that change places, one pair after the other
abbrev pub Exchanges : Type 0
Exchanges = List (ℕ × ℕ)

-- the cells after two of them have changed places: one write to each of the two
unfoldable pub exchange : ℕ → ℕ → List ℤ → List ℤ
exchange i j c = set (set c i (get_or c j (pos 0))) j (get_or c i (pos 0))

-- the cells after all of these, the first pair first
unfoldable pub exchanged : Exchanges → List ℤ → List ℤ
exchanged [] c = c
exchanged (p ∷ ps) c = exchanged ps (exchange p.0 p.1 c)

-- m pairs of the cells from lo up to hi, from both ends inward
unfoldable pub inward : ℕ → ℕ → ℕ → Exchanges
inward zero lo hi = []
inward (suc m) lo hi = (lo, hi - 1) ∷ inward m (suc lo) (hi - 1)

-- a reversal of the cells from lo up to hi: each of them is in one pair, but for the middle one of an odd count
abbrev pub reversal : ℕ → ℕ → Exchanges
reversal lo hi = inward ((hi - lo) / 2) lo hi

-- the top n of d values turned by k places: the n - k lower ones are reversed, the k uppermost, and then all n
unfoldable pub three_reversals : ℕ → ℕ → ℕ → Exchanges
three_reversals d n k = reversal (d - n) (d - k) ++ reversal (d - k) d ++ reversal (d - n) d

-- the exchanges of a Roll, by the stack before it, top first: a, the depth n and the values s, of which a and n are taken off before the
-- exchanges; none where no value turns, as at a bad depth, where in edition 2 a and n stay
unfoldable pub roll_exchanges : List ℤ → Exchanges
roll_exchanges [] = []
roll_exchanges (a ∷ []) = []
roll_exchanges (a ∷ (n ∷ s)) = let m = places n (length s) in cond (eqb m 0) [] (three_reversals (length s) m (residue a m))

-- how often they write the cell i
unfoldable pub writes_to : ℕ → Exchanges → ℕ
writes_to i [] = 0
writes_to i (p ∷ ps) = cond (eqb i p.0) 1 0 + cond (eqb i p.1) 1 0 + writes_to i ps
