-- Laws of the shortest file and of the order in which it is written. Assumes nothing.
use mathlib.Core.Path.{◌≡◌, ◌∙◌, ap}
use mathlib.Core.List.{List, [], ◌∷◌, ◌++◌}
use Prim.Native.Nat.{ℕ, ◌+◌, ◌*◌, ◌/◌, ◌%◌, ◌<◌, ◌≤◌}
use native.Mathlib.Omega.{arith}
use borrow.Author.Tests.{ltb-false, eqb-true, not-false}
use lib.Dec.{eqb}
use lib.ListN.{length, length-append}
use Rattle.base.specs.Numbers.{numbers}
use Rattle.base.specs.Lent.{lent, Put, Room}
use Rattle.base.specs.Limits.{wrong_side}
use Rattle.base.specs.Text.{ascii, decimal}
use Rattle.base.proofs.Decimal.{decimal_small, decimal_more, decimal_length}
use Rattle.base.proofs.Over.{room_front, room_back, put_then, over_zero}
use Rattle.base.proofs.Refusals.{passed, no_row}
use Rattle.base.proofs.Sides.{side}
use Rattle.base.proofs.Tests.{neither}
use Rattle.netpbm.specs.File.{line, shortest}
use Rattle.netpbm.specs.Writes.{refusals, answer}

-- how many digits a number has
pub one_digit : (n : ℕ) → n < 10 → length (decimal n) ≡ 1
one_digit n h = ap length (decimal_small n h)

pub one_more : (n : ℕ) → 10 ≤ n → length (decimal n) ≡ length (decimal (n / 10)) + 1
one_more n h = ap length (decimal_more n h) ∙ length-append (decimal (n / 10)) ((48 + n % 10) ∷ [])

pub side_digits : (n : ℕ) → n ≤ 1024 → length (decimal n) ≤ 4
side_digits n h = decimal_length 3 n (omega arith)

pub shortest_length : (height width : ℕ) (pixels : List ℕ)
    → length (shortest height width pixels) ≡ 9 + length (decimal width) + length (decimal height) + length pixels
unfolding shortest line
shortest_length height width pixels = simp length-append (omega arith)

-- what a call that is not refused may rely on
pub record Accepted (pixels : List ℕ) (height width room : ℕ) : Type 0 where
  pub high : (0 < height) × (height ≤ 1024)
  pub wide : (0 < width) × (width ≤ 1024)
  pub bytes : length pixels ≡ 3 * (height * width)
  pub fits : length (shortest height width pixels) ≤ room

pub accepted : (p : List ℕ) (h w room : ℕ) (v : List ℕ) → numbers 0 v ≡ answer p h w room → Accepted p h w room
unfolding answer refusals
accepted p h w room v e =
    let a = passed _ 0 _ v _ _ e in
    let b = passed _ 1 _ v _ _ a.1 in
    let d = passed _ 3 _ v _ _ b.1 in
    let sides = neither (wrong_side h) (wrong_side w) a.0 in
    record {
      high = side h sides.0;
      wide = side w sides.1;
      bytes = eqb-true (length p) (3 * (h * w)) (not-false (eqb (length p) (3 * (h * w))) b.0);
      fits = ltb-false room (length (shortest h w p)) d.0;
    }

-- what it answers is the file's length
pub answered : (p : List ℕ) (h w room n : ℕ) → numbers 0 (n ∷ []) ≡ answer p h w room → n ≡ length (shortest h w p)
unfolding answer refusals
answered p h w room n e =
    let v : List ℕ = n ∷ [] in
    let a = passed _ 0 _ v _ _ e in
    let b = passed _ 1 _ v _ _ a.1 in
    let d = passed _ 3 _ v _ _ b.1 in
    let last : numbers 0 (n ∷ []) ≡ numbers 0 (length (shortest h w p) ∷ []) = d.1 ∙ no_row _ in cc

-- what stands before the height, the maximum and the pixels
abbrev upto_width : ℕ → List ℕ
upto_width width = line (ascii "P6") ++ line (decimal width)

abbrev upto_height : ℕ → ℕ → List ℕ
upto_height height width = upto_width width ++ line (decimal height)

abbrev upto_maximum : ℕ → ℕ → List ℕ
upto_maximum height width = upto_height height width ++ line (ascii "255")

-- the five words of a file, one after another
module _ {d : List ℕ} (height width : ℕ) (pixels : List ℕ) (room : Room d 0 (shortest height width pixels)) where
  room₄ : Room d 0 (upto_maximum height width)
  unfolding shortest
  room₄ = room_front (upto_maximum height width) pixels room

  room₃ : Room d 0 (upto_height height width)
  room₃ = room_front (upto_height height width) (line (ascii "255")) room₄

  room₂ : Room d 0 (upto_width width)
  room₂ = room_front (upto_width width) (line (decimal height)) room₃

  pub magic_room : Room d 0 (line (ascii "P6"))
  magic_room = room_front (line (ascii "P6")) (line (decimal width)) room₂

  module _ {d₁ : List ℕ} {r₁ : ℕ} (p₁ : Put d 0 (line (ascii "P6")) r₁ d₁) where
    pub width_room : Room d₁ r₁ (line (decimal width))
    width_room = room_back (line (ascii "P6")) (line (decimal width)) room₂ p₁

    module _ {d₂ : List ℕ} {r₂ : ℕ} (p₂ : Put d₁ r₁ (line (decimal width)) r₂ d₂) where
      put₂ : Put d 0 (upto_width width) r₂ d₂
      put₂ = put_then room₂ p₁ p₂

      pub height_room : Room d₂ r₂ (line (decimal height))
      height_room = room_back (upto_width width) (line (decimal height)) room₃ put₂

      module _ {d₃ : List ℕ} {r₃ : ℕ} (p₃ : Put d₂ r₂ (line (decimal height)) r₃ d₃) where
        put₃ : Put d 0 (upto_height height width) r₃ d₃
        put₃ = put_then room₃ put₂ p₃

        pub maximum_room : Room d₃ r₃ (line (ascii "255"))
        maximum_room = room_back (upto_height height width) (line (ascii "255")) room₄ put₃

        module _ {d₄ : List ℕ} {r₄ : ℕ} (p₄ : Put d₃ r₃ (line (ascii "255")) r₄ d₄) where
          put₄ : Put d 0 (upto_maximum height width) r₄ d₄
          put₄ = put_then room₄ put₃ p₄

          pub pixels_room : Room d₄ r₄ pixels
          unfolding shortest
          pixels_room = room_back (upto_maximum height width) pixels room put₄

          pub written : {d₅ : List ℕ} {r₅ : ℕ} → Put d₄ r₄ pixels r₅ d₅ → d₅ ≡ lent (shortest height width pixels) d
          unfolding shortest
          written p₅ = (put_then room put₄ p₅).list ∙ over_zero d (shortest height width pixels)
