-- Reading a position of a picture (`PietSource::get`). Assumes nothing.
use Rattle.std.specs.Prelude.{ℕ, ◌+◌, ◌*◌, cond, ◌&&◌, List, Option, None, ltb, slice_get}

-- what stands at a position, if it is inside (rule 2.4); the slice is in rows of width
unfoldable pub get_at : List ℕ → ℕ → ℕ → ℕ → ℕ → Option ℕ
get_at prog height width row column = cond (ltb row height && ltb column width) (slice_get prog (row * width + column)) None
