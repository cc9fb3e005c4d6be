-- Two outcomes that a contract allows for one input are equal, for each public function:
--     PietSource::new                                                   source_only
--     PietSource::dimensions                                            sides_only
--     PietSource::get, get_at, read_pixel, shape_of, colour_at          `equation_only` of base's proofs/Only.antt
-- Assumes nothing.
use mathlib.Core.Path.{◌≡◌, ◌∙◌, sym}
use mathlib.Core.List.{List}
use Prim.Native.Nat.{ℕ}
use denote.Ref.{Bor}
use Rattle.picture.specs.declared.PietSource.{PietSource}
use Rattle.picture.specs.declared.Sides.{Sides}

pub source_only : {prog : Bor (List ℕ)} {height width : ℕ} {r r' : PietSource}
    → (r.prog ≡ prog) × ((r.height ≡ height) × (r.width ≡ width))
    → (r'.prog ≡ prog) × ((r'.height ≡ height) × (r'.width ≡ width))
    → r ≡ r'
source_only p q =
    λ i. record { prog = (p.0 ∙ sym q.0) i; height = (p.1.0 ∙ sym q.1.0) i; width = (p.1.1 ∙ sym q.1.1) i }

pub sides_only : {height width : ℕ} {r r' : Sides} → (r.height ≡ height) × (r.width ≡ width) → (r'.height ≡ height) × (r'.width ≡ width) → r ≡ r'
sides_only p q = λ i. record { height = (p.0 ∙ sym q.0) i; width = (p.1 ∙ sym q.1) i }
