-- The exit numbers of rule 5.5's small pictures, by the definition: where a slide lands they are one in both editions, where
-- it is lost there are two. Red is 6, white 19. Assumes nothing.
use mathlib.Core.Path.{◌≡◌, refl, subst}
use mathlib.Core.List.{List, [], ◌∷◌}
use Prim.Native.Nat.{ℕ, zero, suc, ◌<◌}
use native.Mathlib.Omega.{arith}
use lib.Dec.{lit<}
use lib.ListN.{length, get_or}
use Rattle.base.specs.declared.edition.Edition.{Edition}
use Rattle.base.specs.declared.edition.Edition.TheVariants.{Rust, Page}
use Rattle.flow.specs.Pointer.{of_number}
use Rattle.flow.specs.declared.PointerState.{PointerState}
use Rattle.flow.proofs.Order.{valid_number}
use Rattle.colour.specs.Palette.{white}
use Rattle.picture.specs.Picture.{Picture, codels, codel_colour}
use Rattle.exit.specs.Leaving.{LeavesBy}
use Rattle.exit.specs.declared.attempt.Way.TheVariants.{Astray}
use Rattle.exit.specs.Opens.{Tried, across, lost}
use Rattle.exit.proofs.Opening.{astray_shut}
use Rattle.exit.proofs.LeavingLaws.{beats_self}
use Rattle.exit.proofs.Examples.{red_white, back_to_itself, red_white_red, straight_on, round, none_open}
use Rattle.cfg.specs.Nodes.{entry, Node}
use Rattle.cfg.specs.Table.{Exit, shut, leads, stuck}

-- region 0 has the first codel and no other
abbrev Alone : List ℕ → Type 0
Alone map = (j : ℕ) → j < length map → get_or map j 0 ≡ 0 → j ≡ 0

-- so it is left by that codel
leaves_first : (map : List ℕ) (rows cols : ℕ) (q : PointerState) → 0 < length map → get_or map 0 0 ≡ 0 → Alone map → LeavesBy map rows cols q 0 0
leaves_first map rows cols q h own alone =
    record { codel = h; own = own; unbeaten = λ j l e. rw (alone j l e) (beats_self rows cols q 0) }

-- and is a node where the codel is not white
first_node : (e : Edition) (p : Picture) (map : List ℕ) → length map ≡ codels p → Alone map → (codel_colour p 0 ≡ white → ⊥) → Node e p map 0
first_node e p map l alone coloured = record {
  found = entry;
  coloured = λ w. coloured (subst (λ (j : ℕ). codel_colour p j ≡ white) (alone w.codel (omega (arith, w.inside)) w.own) w.colour);
}

not_white : ◌≡◌ {A = ℕ} 6 white → ⊥
not_white e = omega arith

-- red, white: back to itself
alone_of_two : Alone (0 ∷ 1 ∷ [])
alone_of_two zero h e = refl
alone_of_two (suc zero) h e = absurd (omega arith)
alone_of_two (suc (suc j)) h e = absurd (omega arith)

pub back_numbers : (e : Edition) → Exit e red_white (0 ∷ 1 ∷ []) 0 (of_number 0) 262145 × Exit e red_white (0 ∷ 1 ∷ []) 0 (of_number 1) 327681
back_numbers e =
    let node = first_node e red_white (0 ∷ 1 ∷ []) refl alone_of_two not_white in
    let leaves : (q : PointerState) → LeavesBy (0 ∷ 1 ∷ []) 1 2 q 0 0 = λ q. leaves_first (0 ∷ 1 ∷ []) 1 2 q (lit< tt) refl alone_of_two in (
      leads node (across (record { codel = 0; leaves = leaves (of_number 0); way = (back_to_itself e).0 })),
      leads node (across (record { codel = 0; leaves = leaves (of_number 1); way = (back_to_itself e).1 })),
    )

-- red, white, red: straight on
alone_of_three : Alone (0 ∷ 1 ∷ 2 ∷ [])
alone_of_three zero h e = refl
alone_of_three (suc zero) h e = absurd (omega arith)
alone_of_three (suc (suc zero)) h e = absurd (omega arith)
alone_of_three (suc (suc (suc j))) h e = absurd (omega arith)

pub straight_numbers : (e : Edition) → Exit e red_white_red (0 ∷ 1 ∷ 2 ∷ []) 0 (of_number 0) 3 × Exit e red_white_red (0 ∷ 1 ∷ 2 ∷ []) 0 (of_number 1) 65539
straight_numbers e =
    let node = first_node e red_white_red (0 ∷ 1 ∷ 2 ∷ []) refl alone_of_three not_white in
    let leaves : (q : PointerState) → LeavesBy (0 ∷ 1 ∷ 2 ∷ []) 1 3 q 0 0 = λ q. leaves_first (0 ∷ 1 ∷ 2 ∷ []) 1 3 q (lit< tt) refl alone_of_three in (
      leads node (across (record { codel = 0; leaves = leaves (of_number 0); way = (straight_on e).0 })),
      leads node (across (record { codel = 0; leaves = leaves (of_number 1); way = (straight_on e).1 })),
    )

-- red, white, white over black, white, white: both slides are lost
alone_of_six : Alone (0 ∷ 1 ∷ 1 ∷ 2 ∷ 1 ∷ 1 ∷ [])
alone_of_six zero h e = refl
alone_of_six (suc zero) h e = absurd (omega arith)
alone_of_six (suc (suc zero)) h e = absurd (omega arith)
alone_of_six (suc (suc (suc zero))) h e = absurd (omega arith)
alone_of_six (suc (suc (suc (suc zero)))) h e = absurd (omega arith)
alone_of_six (suc (suc (suc (suc (suc zero))))) h e = absurd (omega arith)
alone_of_six (suc (suc (suc (suc (suc (suc j)))))) h e = absurd (omega arith)

abbrev Around : Edition → ℕ → ℕ → Type 0
Around e state x = Exit e round (0 ∷ 1 ∷ 1 ∷ 2 ∷ 1 ∷ 1 ∷ []) 0 (of_number state) x

pub lost_numbers : (Around Rust 0 0 × Around Rust 1 0) × (Around Page 0 9437185 × Around Page 1 9437185)
lost_numbers =
    let map : List ℕ = 0 ∷ 1 ∷ 1 ∷ 2 ∷ 1 ∷ 1 ∷ [] in
    let leaves : (q : PointerState) → LeavesBy map 2 3 q 0 0 = λ q. leaves_first map 2 3 q (lit< tt) refl alone_of_six in
    let node : (e : Edition) → Node e round map 0 = λ e. first_node e round map refl alone_of_six not_white in
    let t : (e : Edition) → Tried e round map 0 (of_number 0) (Astray 0 1) = λ e. record { codel = 0; leaves = leaves (of_number 0); way = (none_open e).0 } in
    let u : (e : Edition) → Tried e round map 0 (of_number 1) (Astray 0 1) = λ e. record { codel = 0; leaves = leaves (of_number 1); way = (none_open e).1 } in (
      (
        shut (node Rust) (astray_shut (lit< tt) refl (valid_number 0 (lit< tt)) (t Rust)),
        shut (node Rust) (astray_shut (lit< tt) refl (valid_number 1 (lit< tt)) (u Rust)),
      ),
      (stuck (node Page) (lost (t Page)), stuck (node Page) (lost (u Page))),
    )
