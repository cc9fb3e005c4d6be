-- Building: refusals 15, 1, 6, 7, 2, 8, 9, 4 in this order (rules 12.4, 16.1), and what a call answers and leaves (rule 7.4).
-- Assumes nothing.
use Rattle.std.specs.Prelude.{◌≡◌, Bool, not, cond, ◌||◌, List, [], ◌∷◌, ℕ, suc, ◌*◌, ◌≤◌, eqb, ltb, length, get_or, take, drop, Result, Ok, Err}
use Rattle.base.specs.Numbers.{Numbers, numbers, Row, row, first}
use Rattle.base.specs.Limits.{wrong_side}
use Rattle.base.specs.Edition.{unknown_edition, edition_of}
use Rattle.base.specs.declared.edition.Edition.{Edition}
use Rattle.base.specs.Refusal.{place_cells, answered}
use Rattle.base.specs.declared.refusal.Refusal.{Refusal}
use Rattle.cfg.specs.Table.{Builds}
use Rattle.colour.specs.Palette.{white}
use Rattle.picture.specs.Picture.{Picture, codels, Sound}
use Rattle.table.specs.Layout.{rows_room, exits_room}

-- the answer's number (rule 12.2), the count of regions and the index of a colour, zero where there is none
abbrev pub numbered : Result ℕ Refusal → Numbers
numbered = answered (λ regions. regions ∷ 0 ∷ []) place_cells

-- how many colours stand before the first above 19
unfoldable pub legal_first : List ℕ → ℕ
legal_first [] = 0
legal_first (c ∷ cs) = cond (ltb 19 c) 0 (suc (legal_first cs))

-- a lent slice too short for so many codels (rule 7.4)
unfoldable pub short : ℕ → ℕ → ℕ → ℕ → ℕ → Bool
short count map rows exits work = ltb map count || (ltb rows (rows_room count) || (ltb exits (exits_room count) || ltb work count))

-- the refusals of a picture, in building's order (rule 12.4); the last four numbers are the lent slices' lengths
unfoldable pub picture_refusals : Picture → ℕ → ℕ → ℕ → ℕ → List Row
picture_refusals p map rows exits work =
    row (wrong_side p.height || wrong_side p.width) (numbers 1 (0 ∷ 0 ∷ []))
    ∷ row (wrong_side p.codel) (numbers 6 (0 ∷ 0 ∷ []))
    ∷ row (ltb 65536 (codels p)) (numbers 7 (0 ∷ 0 ∷ []))
    ∷ row (not (eqb (length p.colours) (p.height * p.width))) (numbers 2 (0 ∷ 0 ∷ []))
    ∷ row (ltb (legal_first p.colours) (length p.colours)) (numbers 8 (0 ∷ legal_first p.colours ∷ []))
    ∷ row (eqb (get_or p.colours 0 0) white) (numbers 9 (0 ∷ 0 ∷ []))
    ∷ row (short (codels p) map rows exits work) (numbers 4 (0 ∷ 0 ∷ []))
    ∷ []

unfoldable pub picture_refusal : Picture → ℕ → ℕ → ℕ → ℕ → Numbers
picture_refusal p map rows exits work = first (picture_refusals p map rows exits work) (numbers 0 (0 ∷ 0 ∷ []))

-- the refusal of a number that names no edition, where a place is answered with it
abbrev pub edition_row : ℕ → Row
edition_row edition = row (unknown_edition edition) (numbers 15 (0 ∷ 0 ∷ []))

-- the table of refusals: that of the edition comes before all others (rule 16.1)
unfoldable pub refusals : ℕ → Picture → ℕ → ℕ → ℕ → ℕ → List Row
refusals edition p map rows exits work = edition_row edition ∷ picture_refusals p map rows exits work

unfoldable pub refusal : ℕ → Picture → ℕ → ℕ → ℕ → ℕ → Numbers
refusal edition p map rows exits work = first (refusals edition p map rows exits work) (numbers 0 (0 ∷ 0 ∷ []))

-- room for the table
pub record Enough (p : Picture) (map rows exits work : ℕ) : Type 0 where
  pub sound : Sound p
  pub map_in : codels p ≤ map
  pub rows_in : rows_room (codels p) ≤ rows
  pub exits_in : exits_room (codels p) ≤ exits
  pub work_in : codels p ≤ work

-- the table stands at the slices' beginnings, and past it they are as they were
pub record Written (e : Edition) (p : Picture) (map rows exits work map' rows' exits' work' : List ℕ) (n : ℕ) : Type 0 where
  pub builds : Builds e p (take (codels p) map') (take (rows_room (codels p)) rows') (take (exits_room (codels p)) exits') (take (codels p) work') n
  pub map_rest : drop (codels p) map' ≡ drop (codels p) map
  pub rows_rest : drop (rows_room (codels p)) rows' ≡ drop (rows_room (codels p)) rows
  pub exits_rest : drop (exits_room (codels p)) exits' ≡ drop (exits_room (codels p)) exits
  pub work_rest : drop (codels p) work' ≡ drop (codels p) work

-- what a call answers and leaves: refused, with every slice as it was; or done, with the picture's table in the edition that
-- the number names
pub data Outcome (edition : ℕ) (p : Picture) (map rows exits work : List ℕ) : Result ℕ Refusal → List ℕ → List ℕ → List ℕ → List ℕ → Type 0 where
  refused : (r : Refusal) → numbered (Err r) ≡ refusal edition p (length map) (length rows) (length exits) (length work)
      → Outcome edition p map rows exits work (Err r) map rows exits work
  done : {n : ℕ} {map' rows' exits' work' : List ℕ} → refusal edition p (length map) (length rows) (length exits) (length work) ≡ numbers 0 (0 ∷ 0 ∷ [])
      → Written (edition_of edition) p map rows exits work map' rows' exits' work' n
      → Outcome edition p map rows exits work (Ok n) map' rows' exits' work'
