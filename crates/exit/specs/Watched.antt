-- Inner: what the functions of edition 2's slide promise each other. Assumes nothing.
use Rattle.std.specs.Prelude.{◌≡◌, ℕ, ◌+◌, ◌*◌, ◌<◌, ◌≤◌}
use Rattle.flow.specs.declared.PointerState.{PointerState}
use Rattle.picture.specs.Picture.{Picture}
use Rattle.exit.specs.declared.page_slide.Watch.{Watch}
use Rattle.exit.specs.declared.page_slide.Walked.{Walked}
use Rattle.exit.specs.Trail.{comes_back}
use Rattle.exit.specs.Slide.{Ends, looks_of}

-- the watch of a slide that begins at (r, c) with dp d: that station is kept
abbrev pub begun_at : ℕ → ℕ → ℕ → Watch
begun_at r c d = record { row = r; col = c; dp = d; looks = 0; next = 1 }

-- the kept station, of some looks ago, was this one
pub record Met (w : Watch) (r c d : ℕ) : Type 0 where
  pub some : 0 < w.looks
  pub same_row : w.row ≡ r
  pub same_col : w.col ≡ c
  pub same_dp : w.dp ≡ d

-- after one more look, from station (r, c) with dp d: that station is kept now, or the one before still is
pub data Noted (w : Watch) (r c d : ℕ) : Watch → Type 0 where
  here : w.looks ≡ w.next → Noted w r c d (record { row = r; col = c; dp = d; looks = w.looks + 1; next = 2 * w.next })
  still : (w.looks ≡ w.next → ⊥) → Noted w r c d (record { row = w.row; col = w.col; dp = w.dp; looks = w.looks + 1; next = w.next })

-- no slide takes more: three looks for each station of the largest grid
abbrev pub most_looks : ℕ
most_looks = 3 * (4 * 65536)

-- edition 2's slide ends as told, and the looks that are told are no fewer than the slide's own, and at most three times as many
pub record Walks (p : Picture) (r c : ℕ) (s : PointerState) (x : Walked) : Type 0 where
  pub ends : Ends p comes_back r c s x.end
  pub own : looks_of x.end ends.trail ≤ x.looks
  pub cheap : x.looks ≤ 3 * looks_of x.end ends.trail
