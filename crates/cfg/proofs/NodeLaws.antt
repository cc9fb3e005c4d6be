-- Where the attempts of a found region lead, and what the colour of a region is.
--     opens_found      an open attempt leads to a found region
--     number_exit      what the code makes of a node's attempt is its exit; of a lost slide by the edition
--     joined_colour    joined codels have one colour
-- Assumes nothing.
use mathlib.Core.Path.{◌≡◌, refl, sym, subst, ◌∙◌}
use mathlib.Core.List.{List}
use Prim.Native.Nat.{ℕ, ◌<◌}
use native.Mathlib.Omega.{arith}
use lib.ListN.{length}
use Rattle.base.specs.declared.edition.Edition.{Edition}
use Rattle.base.specs.declared.edition.Edition.TheVariants.{Rust, Page}
use Rattle.flow.specs.Pointer.{Valid, state_number, of_number}
use Rattle.flow.proofs.Order.{valid_number}
use Rattle.flow.specs.declared.PointerState.{PointerState}
use Rattle.colour.specs.Decode.{decode_of}
use Rattle.picture.specs.Picture.{Picture, cols_of, codels, colour_at, codel_colour}
use Rattle.region.specs.Grid.{Grid}
use Rattle.region.specs.Region.{Joined, here, on}
use Rattle.table.specs.ExitNumber.{exit_number}
use Rattle.exit.specs.declared.attempt.Way.{Way}
use Rattle.exit.specs.declared.attempt.Way.TheVariants.{Closed, Step, Astray, Glide}
use Rattle.exit.specs.Opens.{region_at, Tried, Opens, beside, across, lost}
use Rattle.exit.proofs.Opening.{closed_shut, astray_shut}
use Rattle.cfg.specs.Nodes.{Found, next, Node}
use Rattle.cfg.specs.Nodes as nodes
use Rattle.cfg.specs.Table.{Exit, shut, leads, stuck}
use Rattle.cfg.specs.Search.{lost_exit, way_number, Number}

pub opens_found : {e : Edition} {p : Picture} {map : List ℕ} {r target : ℕ} {q u : PointerState} {i : ℕ} → Found e p map r → Valid q → Opens e p map r q target u i → Found e p map target
opens_found f v (beside t) = next f v t nodes.beside
opens_found f v (across t) = next f v t nodes.landing

module _ {p : Picture} {map : List ℕ} {r s : ℕ} (h : 0 < cols_of p) (l : length map ≡ codels p) (k : s < 8) where
  -- of a lost slide, by the edition: it is passed over, or is where a run ends
  lost_number : (e : Edition) {a b : ℕ} → Node e p map r → Tried e p map r (of_number s) (Astray a b) → Exit e p map r (of_number s) (lost_exit e)
  lost_number Rust N t = shut N (astray_shut h l (valid_number s k) t)
  lost_number Page N t = stuck N (lost t)

  module _ {e : Edition} (N : Node e p map r) where
    way_exit : (w : Way) (t : Tried e p map r (of_number s) w) → Exit e p map r (of_number s) (way_number e p map (codel_colour p t.codel) s w)
    unfolding way_number
    way_exit Closed t = shut N (closed_shut h l (valid_number s k) t)
    way_exit (Astray a b) t = lost_number e N t
    way_exit (Step a b) t =
        let same : state_number (of_number s) ≡ s = omega arith in
        subst (λ (z : ℕ). Exit e p map r (of_number s) (exit_number (region_at p map a b) z (decode_of (codel_colour p t.codel) (colour_at p a b)))) same (leads N (beside t))
    way_exit (Glide a b c d u) t = leads N (across t)

    pub number_exit : {x : ℕ} → Number e p map r s x → Exit e p map r (of_number s) x
    number_exit n = subst (Exit e p map r (of_number s)) (sym n.number) (way_exit n.way n.tried)

-- joined codels have one colour
pub joined_colour : {g : Grid} {i j : ℕ} → Joined g i j → g.colour i ≡ g.colour j
joined_colour here = refl
joined_colour (on q n e) = joined_colour q ∙ e
