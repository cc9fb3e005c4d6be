-- Where the exits of a table lead.
--     opens_leads    an open attempt of a found region leads to a node, in a state, with an instruction of rule 1.5
--     open_fits      the number of an open attempt is at most 9,437,184
--     exit_fits      an exit is at most the largest of its edition, and what it says of a target is a region's number, as the
--                    run asks
-- Assumes nothing.
use mathlib.Core.Path.{◌≡◌, sym, subst, ◌∙◌}
use mathlib.Core.List.{List}
use Prim.Native.Nat.{ℕ, ◌<◌, ◌≤◌}
use native.Mathlib.Omega.{arith}
use lib.ListN.{length}
use Rattle.base.specs.declared.edition.Edition.{Edition}
use Rattle.flow.specs.Pointer.{Valid, state_number}
use Rattle.flow.proofs.Order.{valid_number, number_small}
use Rattle.flow.specs.declared.PointerState.{PointerState}
use Rattle.colour.specs.Palette.{white}
use Rattle.picture.specs.Picture.{Picture, Inside, colour_at, codels, codel_colour, index_of, Sound}
use Rattle.picture.proofs.Codels.{index_in, row_of, col_of, first_in}
use Rattle.region.specs.Grid.{grid_of}
use Rattle.region.specs.Region.{IsMap}
use Rattle.region.proofs.MapLaws.{map_few}
use Rattle.table.specs.Layout.{exit_at}
use Rattle.table.specs.ExitNumber.{exit_number, target_of, largest_exit, largest_in}
use Rattle.table.proofs.Exits.{target_back, in-range, largest-in}
use Rattle.exit.specs.Opens.{region_at, Opens, lost}
use Rattle.exit.proofs.Opening.{reached, opens_known}
use Rattle.cfg.specs.Nodes.{Found, Node}
use Rattle.cfg.specs.Table.{Exit, no_node, shut, leads, stuck, Builds}
use Rattle.cfg.proofs.NodeLaws.{joined_colour, opens_found}

-- what a target, a state and an instruction of an exit are
pub record Leads (e : Edition) (p : Picture) (map : List ℕ) (n target : ℕ) (u : PointerState) (i : ℕ) : Type 0 where
  pub low : target < n
  pub valid : Valid u
  pub known : i ≤ 17
  pub node : Node e p map target

-- an exit of a table of n regions
abbrev pub Fits : Edition → ℕ → ℕ → Type 0
Fits e n x = (x ≤ largest_in e) × (target_of x < n)

module _ {p : Picture} {map : List ℕ} {n : ℕ} (S : Sound p) (M : IsMap (grid_of p) map n) (long : length map ≡ codels p) where
  colour-at : (a b : ℕ) → Inside p a b → codel_colour p (index_of p a b) ≡ colour_at p a b
  colour-at a b i = rw (row_of p a b i, col_of p a b i)

  -- a found region with a coloured codel is a node
  coloured_node : {e : Edition} (a b : ℕ) → Inside p a b → (colour_at p a b ≡ white → ⊥) → Found e p map (region_at p map a b) → Node e p map (region_at p map a b)
  coloured_node a b i d f = record {
    found = f;
    coloured = λ w. d (sym (colour-at a b i) ∙ sym (joined_colour (M.apart w.codel (index_of p a b) w.inside (index_in p a b i) w.own)) ∙ w.colour);
  }

  pub opens_leads : {e : Edition} {r target i : ℕ} {q u : PointerState} → Found e p map r → Valid q → Opens e p map r q target u i → Leads e p map n target u i
  opens_leads {e} f v o =
      let x = reached S long v o in
      let l = x.lands in
      record {
        low = subst (λ (t : ℕ). t < n) x.own (M.below (index_of p x.row x.col) (index_in p x.row x.col l.place));
        valid = l.valid;
        known = opens_known o;
        node = subst (Node e p map) x.own (coloured_node x.row x.col l.place l.not_white (subst (Found e p map) (sym x.own) (opens_found f v o)));
      }

  few : n ≤ 65536
  few = omega (arith, map_few (grid_of p) map n M, S.few)

  pub open_fits : {e : Edition} {r target i : ℕ} {q u : PointerState} → Found e p map r → Valid q → Opens e p map r q target u i
      → (exit_number target (state_number u) i ≤ largest_exit) × (target_of (exit_number target (state_number u) i) < n)
  open_fits {target = target} {i = i} {u = u} f v o =
      let l = opens_leads f v o in
      let t : target < 65536 = omega (arith, l.low, few) in
      let k = number_small u l.valid in
      (in-range target (state_number u) i t k l.known, rw (target_back target (state_number u) i t k) l.low)

  some : 0 < n
  some = omega (arith, M.below 0 (first_in S))

  fits : {e : Edition} {r x : ℕ} {q : PointerState} → Valid q → Exit e p map r q x → Fits e n x
  fits v (no_node a) = (omega arith, some)
  fits v (shut a s) = (omega arith, some)
  fits {e} v (leads a o) =
      let l = open_fits a.found v o in
      (omega (arith, l.0, largest-in e), l.1)
  fits v (stuck a (lost t)) = (omega arith, some)

-- the exits of a table
pub exit_fits : {e : Edition} {p : Picture} {map rows exits work : List ℕ} {n : ℕ} → Sound p → Builds e p map rows exits work n → (r s : ℕ) → r < n → s < 8
    → Fits e n (exit_at exits r s)
exit_fits S B r s h k = fits S B.regions B.map_long (valid_number s k) (B.exit r s h k)
