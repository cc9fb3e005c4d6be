-- What each end of reading answers and leaves. Assumes nothing.
use mathlib.Core.Path.{◌≡◌, ◌∙◌, sym, ap, refl}
use mathlib.Core.Bool.{true, false, ◌||◌}
use mathlib.Core.List.{List}
use Prim.Native.Nat.{ℕ, ◌-◌, ◌*◌, ◌<◌, ◌≤◌}
use native.Mathlib.Omega.{arith}
use borrow.Author.Tests.{lt-ltb, le-ltb, eq-eqb, ne_eqb}
use lib.ListN.{length, take, drop, length-drop}
use lib.Seq.{take_all}
use Rattle.base.specs.Numbers.{first}
use Rattle.base.specs.Lent.{Put}
use Rattle.base.specs.Limits.{wrong_side}
use Rattle.base.proofs.Sides.{side, area}
use Rattle.base.proofs.Over.{over_zero}
use Rattle.std.specs.Prelude.{Ok, Err}
use Rattle.base.specs.declared.refusal.Refusal.TheVariants.{Header, Size, Length, Room}
use Rattle.netpbm.specs.File.{IsHeader}
use Rattle.netpbm.specs.Scan.{HeaderAt}
use Rattle.netpbm.specs.Reads.{nothing, said, refusals, answer, Outcome}
use Rattle.netpbm.proofs.Caps.{capped_side, capped_right}

-- 13
pub refuse_header : {file before : List ℕ} → ((height width : ℕ) (pixels : List ℕ) → IsHeader file height width 255 pixels → ⊥)
    → Outcome file before (Err Header) before
unfolding answer refusals first
refuse_header none = record { content = nothing; says = none; answers = refl; leaves = refl }

module _ {file : List ℕ} {height width start : ℕ} (a : HeaderAt file height width start) where
  tall_side : wrong_side a.tall ≡ wrong_side height
  tall_side = sym (capped_side a.tall) ∙ ap wrong_side (sym a.height_is)

  broad_side : wrong_side a.broad ≡ wrong_side width
  broad_side = sym (capped_side a.broad) ∙ ap wrong_side (sym a.width_is)

  -- 1
  pub refuse_size : {before : List ℕ} → (wrong_side height || wrong_side width) ≡ true → Outcome file before (Err Size) before
  unfolding answer refusals first
  refuse_size e = record {
    content = said a.tall a.broad (drop start file);
    says = a.header;
    answers = rw (tall_side, broad_side, e);
    leaves = refl;
  }

  module _ (high : wrong_side height ≡ false) (wide : wrong_side width ≡ false) where
    pub area_small : height * width ≤ 1048576
    area_small = area (side height high).1 (side width wide).1

    -- the sides are below the cap, so that they are the file's own
    true_header : IsHeader file height width 255 (drop start file)
    true_header =
        let t : a.tall ≡ height = sym (capped_right a.tall (tall_side ∙ high)) ∙ sym a.height_is in
        let b : a.broad ≡ width = sym (capped_right a.broad (broad_side ∙ wide)) ∙ sym a.width_is in
        rw (t, b) at a.header

    -- 14
    pub refuse_length : {before : List ℕ} → (length file - start ≡ 3 * (height * width) → ⊥) → Outcome file before (Err Length) before
    unfolding answer refusals first
    refuse_length other = record {
      content = said height width (drop start file);
      says = true_header;
      answers = rw (high, wide, length-drop start file, ne_eqb (length file - start) (3 * (height * width)) other);
      leaves = refl;
    }

    module _ (all : length file - start ≡ 3 * (height * width)) where
      -- 4
      pub refuse_room : {before : List ℕ} → length before < 3 * (height * width) → Outcome file before (Err Room) before
      unfolding answer refusals first
      refuse_room {before} few = record {
        content = said height width (drop start file);
        says = true_header;
        answers = rw (high, wide, length-drop start file, eq-eqb (length file - start) (3 * (height * width)) all, lt-ltb (length before) (3 * (height * width)) few);
        leaves = refl;
      }

      pub done : {before after : List ℕ} {r : ℕ} → 3 * (height * width) ≤ length before
          → Put before 0 (take (length file - start) (drop start file)) r after → Outcome file before (Ok (record { height = height; width = width })) after
      unfolding answer refusals first
      done {before} room p =
          let l = length-drop start file in
          let t : take (length file - start) (drop start file) ≡ drop start file = take_all (length file - start) (drop start file) (omega arith) in
          record {
            content = said height width (drop start file);
            says = true_header;
            answers = rw (high, wide, length-drop start file, eq-eqb (length file - start) (3 * (height * width)) all, le-ltb (length before) (3 * (height * width)) room);
            leaves = p.list ∙ rw t (over_zero before (drop start file));
          }
