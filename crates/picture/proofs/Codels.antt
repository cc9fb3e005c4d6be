-- The codels of a picture, by row and column and by index. Assumes nothing.
use mathlib.Core.Path.{◌≡◌, refl}
use Prim.Native.Nat.{ℕ, ◌+◌, ◌*◌, ◌/◌, ◌%◌, ◌<◌, ◌≤◌}
use native.Mathlib.Nat.{div-lt_iff_lt-mul, mod-lt, zero-mul}
use native.Mathlib.Omega.{arith}
use lib.Arith.{digits_div, digits_mod, digits_lt}
use Rattle.picture.specs.declared.grid.CodelGrid.{CodelGrid}
use Rattle.picture.specs.Codels.{picture_in}
use Rattle.picture.specs.Picture.{Picture, rows_of, cols_of, codels, Inside, index_of, Sound, shape_of, Frames}
use Rattle.picture.proofs.Sizes.{side_pos, corner_in}

-- the index of a codel is in the grid, and gives its row and column back
pub index_in : (p : Picture) (r c : ℕ) → Inside p r c → index_of p r c < codels p
index_in p r c i = digits_lt i.row_in i.col_in

pub row_of : (p : Picture) (r c : ℕ) → Inside p r c → index_of p r c / cols_of p ≡ r
row_of p r c i = digits_div r i.col_in

pub col_of : (p : Picture) (r c : ℕ) → Inside p r c → index_of p r c % cols_of p ≡ c
col_of p r c i = digits_mod r i.col_in

pub cols_pos : {p : Picture} → Sound p → 0 < cols_of p
cols_pos {p} s = side_pos p.width p.codel s.some s.wide

pub rows_pos : {p : Picture} → Sound p → 0 < rows_of p
rows_pos {p} s = side_pos p.height p.codel s.some s.high

pub first_in : {p : Picture} → Sound p → 0 < codels p
first_in {p} s =
    let h : 0 * cols_of p + 0 < codels p = digits_lt (rows_pos s) (cols_pos s) in
    omega (arith, zero-mul (cols_of p))

-- the codel of an index
pub inside_of : {p : Picture} → Sound p → (i : ℕ) → i < codels p → Inside p (i / cols_of p) (i % cols_of p)
inside_of {p} s i h = record { row_in = (div-lt_iff_lt-mul (cols_pos s)).1 h; col_in = mod-lt i (cols_pos s) }

-- a codel's corner is a position of the picture
pub row_in : {p : Picture} → Sound p → (r c : ℕ) → Inside p r c → r * p.codel < p.height
row_in {p} s r c i = corner_in p.height p.codel r s.some i.row_in

pub col_in : {p : Picture} → Sound p → (r c : ℕ) → Inside p r c → c * p.codel < p.width
col_in {p} s r c i = corner_in p.width p.codel c s.some i.col_in

-- the code's shape of a sound picture
pub frames : {p : Picture} → Sound p → Frames p.colours (shape_of p)
frames s = record { sound = s; rows_are = refl; cols_are = refl }

-- the same of the code's grid: its numbers are those of its picture
pub grid_few : (g : CodelGrid) → g.shape.rows * g.shape.cols ≤ 65536
grid_few g = rw (g.framed.rows_are, g.framed.cols_are) g.framed.sound.few

pub grid_count : (g : CodelGrid) → g.shape.rows * g.shape.cols ≡ codels (picture_in g)
grid_count g = rw (g.framed.rows_are, g.framed.cols_are)
