-- A header has one reading, and it is the one that was found. Assumes nothing.
use mathlib.Core.Path.{◌≡◌, ◌∙◌, sym, ap, refl}
use mathlib.Core.Bool.{true}
use mathlib.Core.List.{List, [], ◌∷◌, ◌++◌}
use Prim.Native.Nat.{ℕ, ◌+◌, ◌<◌, ◌≤◌}
use native.Mathlib.Nat.{add-zero}
use native.Mathlib.Numerals.{add-one}
use native.Mathlib.Omega.{arith}
use lib.ListN.{length, get_or, drop, length-drop}
use lib.Seq.{drop-cons, get_or-drop}
use Rattle.base.specs.Text.{ascii}
use Rattle.netpbm.specs.File.{header_white, Field, IsHeader}
use Rattle.netpbm.specs.Scan.{capped, stops, FieldAt, HeaderAt}
use Rattle.netpbm.proofs.Bytes.{white_ends}
use Rattle.netpbm.proofs.Caps.{capped_255}
use Rattle.netpbm.proofs.Fields.{field_stops, field_only}

white_stops : (b : ℕ) (l : List ℕ) → header_white b ≡ true → stops (b ∷ l) ≡ true
unfolding stops
white_stops b l e = rw (white_ends b e)

module _ {file : List ℕ} {height width maximum : ℕ} {pixels : List ℕ} (a : IsHeader file height width maximum pixels) where
  pub magic_length : 2 ≤ length file
  magic_length = omega (arith, ap length a.magic)

  pub magic_first : get_or file 0 0 ≡ 80
  magic_first = ap (λ (l : List ℕ). get_or l 0 0) a.magic

  pub magic_second : get_or file 1 0 ≡ 54
  magic_second = ap (λ (l : List ℕ). get_or l 1 0) a.magic

  -- the first field, and with each field that was found the next one
  pub first_field : Field (drop 2 file) width a.after-width
  first_field = let e : drop 2 file ≡ a.after-magic = ap (drop 2) a.magic in rw e a.wide

  pub width_stops : stops a.after-width ≡ true
  width_stops = field_stops a.high

  pub height_stops : stops a.after-height ≡ true
  height_stops = field_stops a.most

  pub last_stops : stops (a.last ∷ pixels) ≡ true
  last_stops = white_stops a.last pixels a.white

  module _ {v n : ℕ} (f : FieldAt file 2 v n) where
    first_is : (f.number ≡ width) × (drop n file ≡ a.after-width)
    first_is = field_only f.field first_field f.ends width_stops

    pub second_field : Field (drop n file) height a.after-height
    second_field = rw first_is.1 a.high

    module _ {v₂ n₂ : ℕ} (g : FieldAt file n v₂ n₂) where
      second_is : (g.number ≡ height) × (drop n₂ file ≡ a.after-height)
      second_is = field_only g.field second_field g.ends height_stops

      pub third_field : Field (drop n₂ file) maximum (a.last ∷ pixels)
      third_field = rw second_is.1 a.most

      module _ {v₃ n₃ : ℕ} (k : FieldAt file n₂ v₃ n₃) where
        third_is : (k.number ≡ maximum) × (drop n₃ file ≡ a.last ∷ pixels)
        third_is = field_only k.field third_field k.ends last_stops

        pub maximum_is : v₃ ≡ capped maximum
        maximum_is = k.value_is ∙ ap capped third_is.0

        pub last_there : n₃ ≡ length file → ⊥
        last_there e = omega (arith, ap length third_is.1, length-drop n₃ file)

        pub last_white : header_white (get_or file n₃ 0) ≡ true
        last_white =
            let e : get_or file n₃ 0 ≡ a.last =
            ap (λ (i : ℕ). get_or file i 0) (sym (add-zero n₃))
            ∙ sym (get_or-drop n₃ file 0 0)
            ∙ ap (λ (l : List ℕ). get_or l 0 0) third_is.1 in
            rw e a.white

pub capped_maximum : capped 255 ≡ 255
unfolding capped
capped_maximum = refl

pub magic_is : (l : List ℕ) → 2 ≤ length l → get_or l 0 0 ≡ 80 → get_or l 1 0 ≡ 54 → l ≡ ascii "P6" ++ drop 2 l
magic_is [] h p q = absurd (omega arith)
magic_is (x ∷ []) h p q = absurd (omega arith)
magic_is (x ∷ y ∷ l) h p q = cc

-- what was found is a header
pub whole : {file : List ℕ} {v n v₂ n₂ n₃ : ℕ} → 2 ≤ length file → get_or file 0 0 ≡ 80 → get_or file 1 0 ≡ 54 → FieldAt file 2 v n → FieldAt file n v₂ n₂
    → FieldAt file n₂ 255 n₃ → n₃ < length file → header_white (get_or file n₃ 0) ≡ true → HeaderAt file v₂ v (n₃ + 1)
whole {file} {v} {n} {v₂} {n₂} {n₃} h p q f g k l w =
    let e : k.number ≡ 255 = capped_255 k.number (sym k.value_is) in
    let m : Field (drop n₂ file) 255 (drop n₃ file) = rw e at k.field in
    record {
      tall = g.number;
      broad = f.number;
      to = omega arith;
      header =
          record {
            after-magic = drop 2 file;
            after-width = drop n file;
            after-height = drop n₂ file;
            last = get_or file n₃ 0;
            magic = magic_is file h p q;
            wide = f.field;
            high = g.field;
            most = rw (add-one n₃, ← drop-cons file n₃ 0 l) m;
            white = w;
          };
      height_is = g.value_is;
      width_is = f.value_is;
    }

-- a file has one header
pub record Same (height height' width width' maximum maximum' : ℕ) (pixels pixels' : List ℕ) : Type 0 where
  pub heights : height ≡ height'
  pub widths : width ≡ width'
  pub maxima : maximum ≡ maximum'
  pub rests : pixels ≡ pixels'

pub header_only : {file : List ℕ} {h h' w w' m m' : ℕ} {p p' : List ℕ} → IsHeader file h w m p → IsHeader file h' w' m' p'
    → Same h h' w w' m m' p p'
header_only {h = h} {m = m} {p = p} a b =
    let x = field_only (first_field a) (first_field b) (width_stops a) (width_stops b) in
    let f : Field b.after-width h a.after-height = rw x.1 at a.high in
    let y = field_only f b.high (height_stops a) (height_stops b) in
    let g : Field b.after-height m (a.last ∷ p) = rw y.1 at a.most in
    let z = field_only g b.most (last_stops a) (last_stops b) in
    record { heights = y.0; widths = x.0; maxima = z.0; rests = ap (drop 1) z.1 }
