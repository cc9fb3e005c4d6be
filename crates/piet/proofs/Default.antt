-- Setting 0 acts as 2 in the call from pixels to a run's result, and 5 is given for 1 alone (rule 1.2). Assumes nothing.
use mathlib.Core.Path.{◌≡◌, ◌∙◌, sym, ap, subst}
use mathlib.Core.List.{List, [], ◌∷◌}
use Prim.Native.Nat.{ℕ}
use native.Mathlib.Omega.{arith}
use lib.ListN.{length, take}
use Rattle.base.specs.Edition.{edition_of}
use Rattle.base.specs.Lent.{lent}
use Rattle.base.specs.Numbers.{numbers, first}
use Rattle.base.proofs.Refusals.{refused as not_zero, another, no_row}
use Rattle.colour.specs.Classify as classifying
use Rattle.colour.specs.Classify.{colours_under}
use Rattle.colour.proofs.SettingLaws.{default_colours, default_refusals, by_setting_1}
use Rattle.picture.specs.Picture.{Picture, picture, codels}
use Rattle.machine.specs.Machine.{Asks, given_of}
use Rattle.machine.specs.Held.{room_of}
use Rattle.machine.specs.Place.{End}
use Rattle.cfg.specs.Build as building
use Rattle.cfg.specs.Build.{Written}
use Rattle.std.specs.Prelude.{Result}
use Rattle.base.specs.declared.refusal.Refusal.{Refusal}
use Rattle.piet.specs.declared.run_picture.Pictured.{Pictured}
use Rattle.piet.specs.Follows.{Follows}
use Rattle.piet.specs.RunPicture.{Asked, Lends, asked, asked_picture, refusals, refusal, refusal_of, RanPicture, Outcome, refused, done}

-- two settings that give the same colours and the same refusals give the same outcomes
module _ (s t : ℕ) (pixels : List ℕ) (height width codel : ℕ) (asks : Asks) (l : Lends) (colours : colours_under pixels s ≡ colours_under pixels t)
    (rows : (room : ℕ) → classifying.refusals pixels height width s room ≡ classifying.refusals pixels height width t room) where
  same_picture : asked_picture (asked pixels height width s codel asks) ≡ asked_picture (asked pixels height width t codel asks)
  same_picture = ap (picture height width codel) colours

  same_refusal : refusal_of (asked pixels height width t codel asks) l ≡ refusal_of (asked pixels height width s codel asks) l
  unfolding refusal refusals
  same_refusal = rw (colours, rows (length l.colours))

  same_run : {l' : Lends} {e : End} → RanPicture (asked pixels height width s codel asks) l l' e → RanPicture (asked pixels height width t codel asks) l l' e
  same_run {l'} {e} R =
      record {
        colours = R.colours ∙ ap (λ (cs : List ℕ). lent cs l.colours) colours;
        regions = R.regions;
        table =
            subst
            (λ (p : Picture). Written (edition_of asks.edition) p l.map l.rows l.exits l.work l'.map l'.rows l'.exits l'.work R.regions)
            same_picture R.table;
        follows = subst (λ (p : Picture). Follows p (take (codels p) l'.map) (given_of asks) (room_of l.run) e) same_picture R.follows;
        inside = R.inside;
        run = R.run;
      }

  same_outcome : {r : Result Pictured Refusal} {l' : Lends} → Outcome (asked pixels height width s codel asks) l r l' → Outcome (asked pixels height width t codel asks) l r l'
  unfolding same_run
  same_outcome (refused r e) = refused r (e ∙ sym same_refusal)
  same_outcome (done e R) = done (same_refusal ∙ e) (same_run R)

-- what a call may do under 0 it may do under 2, and the other way round
pub default_run : (pixels : List ℕ) (height width codel : ℕ) (asks : Asks) (l : Lends) {r : Result Pictured Refusal} {l' : Lends}
    → (Outcome (asked pixels height width 0 codel asks) l r l' → Outcome (asked pixels height width 2 codel asks) l r l')
    × (Outcome (asked pixels height width 2 codel asks) l r l' → Outcome (asked pixels height width 0 codel asks) l r l')
default_run pixels height width codel asks l = (
  same_outcome 0 2 pixels height width codel asks l (default_colours pixels) (default_refusals pixels height width),
  same_outcome 2 0 pixels height width codel asks l (sym (default_colours pixels)) (λ room. sym (default_refusals pixels height width room)),
)

-- 5 is given for setting 1 alone
pub run_refused_under_1 : (a : Asked) (l : Lends) (v : List ℕ) → refusal_of a l ≡ numbers 5 v → a.setting ≡ 1
unfolding refusal refusals classifying.refusals classifying.unknown_pixel building.picture_refusals
run_refused_under_1 a l v e =
    let h = another _ 15 5 _ v _ _ (λ z. omega arith) e in
    let i = another _ 1 5 _ v _ _ (λ z. omega arith) h in
    let j = another _ 3 5 _ v _ _ (λ z. omega arith) i in
    let k = another _ 2 5 _ v _ _ (λ z. omega arith) j in
    let m = another _ 4 5 _ v _ _ (λ z. omega arith) k in
    by_setting_1 a.setting _ _ v _ _ later m
  where
    later : first (building.picture_refusals (asked_picture a) (length l.map) (length l.rows) (length l.exits) (length l.work)) (numbers 0 (0 ∷ 0 ∷ [])) ≡ numbers 5 v → ⊥
    later z =
        let b = another _ 1 5 _ v _ _ (λ y. omega arith) z in
        let c = another _ 6 5 _ v _ _ (λ y. omega arith) b in
        let d = another _ 7 5 _ v _ _ (λ y. omega arith) c in
        let f = another _ 2 5 _ v _ _ (λ y. omega arith) d in
        let g = another _ 8 5 _ v _ _ (λ y. omega arith) f in
        let n = another _ 9 5 _ v _ _ (λ y. omega arith) g in
        not_zero 4 v _ (sym (another _ 4 5 _ v _ _ (λ y. omega arith) n) ∙ no_row _)
