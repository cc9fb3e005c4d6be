-- Laws of decimal digits and of a label's length. Assumes nothing.
use mathlib.Core.Path.{◌≡◌, ◌∙◌, refl}
use mathlib.Core.List.{List, ◌++◌}
use Prim.Native.Nat.{ℕ, zero, suc, ◌+◌, ◌-◌, ◌/◌, ◌%◌, ◌≤◌}
use native.Mathlib.Omega.{arith}
use borrow.Author.Tests.{ltb-false}
use lib.Dec.{eqb, ltb}
use mathlib.Core.Bool.{Bool, true, false, cond, ◌||◌}
use lib.ListN.{length, length-append, replicate}
use Rattle.colour.specs.Label.{hue_name, lightness_name, name, place, is_entry, label_of, padded, refused}
use Rattle.base.specs.Lent.{lent, filled, Put}
use Rattle.base.specs.Text.{ascii}
use Rattle.base.proofs.Over.{over_zero, put_put}
use Rattle.base.proofs.Decimal.{decimal_length}
use Rattle.base.proofs.Tests.{neither}

pub hue_length : (k : ℕ) → length (hue_name k) ≤ 7
hue_length zero = omega arith
hue_length (suc zero) = omega arith
hue_length (suc (suc zero)) = omega arith
hue_length (suc (suc (suc zero))) = omega arith
hue_length (suc (suc (suc (suc zero)))) = omega arith
hue_length (suc (suc (suc (suc (suc k))))) = omega arith

pub lightness_length : (k : ℕ) → length (lightness_name k) ≤ 5
lightness_length zero = omega arith
lightness_length (suc zero) = omega arith
lightness_length (suc (suc k)) = omega arith

pub name_length : (c : ℕ) → length (name c) ≤ 12
unfolding name
name_length c = by_test (eqb c 18) (eqb c 19) (simp length-append (omega (arith, lightness_length (c / 6), hue_length (c % 6))))
  where
    by_test : (a b : Bool) → length (lightness_name (c / 6) ++ hue_name (c % 6)) ≤ 12
        → length (cond a (ascii "Black") (cond b (ascii "White") (lightness_name (c / 6) ++ hue_name (c % 6)))) ≤ 12
    by_test true b h = omega arith
    by_test false true h = omega arith
    by_test false false h = h

pub place_length : (n : ℕ) → n ≤ 1023 → length (place n) ≤ 5
unfolding place
place_length n h = omega (arith, decimal_length 3 n (omega arith))

pub label_length : (colour r c : ℕ) → r ≤ 1023 → c ≤ 1023 → length (label_of colour r c) ≤ 22
unfolding label_of
label_length colour r c h k =
    by_test (is_entry r c)
    (simp length-append (omega (arith, name_length colour, place_length r h, place_length c k)))
  where
    by_test : (b : Bool) → length (name colour ++ place r ++ place c) ≤ 22
        → length (cond b (ascii "Entry") (name colour ++ place r ++ place c)) ≤ 22
    by_test true l = omega arith
    by_test false l = l

pub finished : {d d' d'' label : List ℕ} {n : ℕ} → length label ≤ 22 → 22 ≤ length d → Put d 0 label n d'
    → d'' ≡ filled n 22 0 d' → d'' ≡ lent (padded label) d
unfolding padded filled
finished {d} {d'} {d''} {label} {n} h k p e =
    let m : n ≡ length label = omega (arith, p.next) in
    let z : List ℕ = replicate (22 - length label) 0 in
    let q : Put d' n z (n + length z) d'' = record { next = refl; list = e ∙ rw m } in
    let w : Put d 0 (label ++ z) (n + length z) d'' = put_put (omega arith) p q in
    w.list ∙ over_zero d (label ++ z)

pub record Allowed (colour r c room : ℕ) : Type 0 where
  pub rows : r ≤ 1023
  pub columns : c ≤ 1023
  pub roomy : 22 ≤ room

pub allowed : (colour r c room : ℕ) → refused colour r c room ≡ false → Allowed colour r c room
allowed colour r c room e =
    let a = neither (ltb 19 colour || ltb 1023 r || ltb 1023 c) (ltb room 22) e in
    let b = neither (ltb 19 colour || ltb 1023 r) (ltb 1023 c) a.0 in
    let d = neither (ltb 19 colour) (ltb 1023 r) b.0 in
    record {
      rows = ltb-false 1023 r d.1;
      columns = ltb-false 1023 c b.1;
      roomy = ltb-false room 22 a.1;
    }
