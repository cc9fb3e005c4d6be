-- What a file's header says, computed: every file says one thing. Assumes nothing.
use mathlib.Core.Path.{◌≡◌, ◌∙◌, sym, ap, refl}
use mathlib.Core.Bool.{Bool, true, false, cond, ◌&&◌}
use mathlib.Core.List.{List, [], ◌∷◌}
use Prim.Native.Nat.{ℕ}
use native.Mathlib.Omega.{arith}
use borrow.Author.Tests.{lt-ltb, ltb-true, le-leb, leb-true, eq-eqb, eqb-true}
use lib.Dec.{eqb, ltb, leb}
use lib.ListN.{length, get_or, drop}
use Rattle.base.proofs.Tests.{and_both}
use Rattle.netpbm.specs.File.{header_white, Field, IsHeader}
use Rattle.netpbm.specs.Scan.{past_gap, past_digits, value_of, stops}
use Rattle.base.specs.Numbers.{unless_refused}
use Rattle.base.specs.Lent.{lent}
use Rattle.std.specs.Prelude.{Result}
use Rattle.base.specs.declared.refusal.Refusal.{Refusal}
use Rattle.netpbm.specs.declared.reading.Sides.{Sides}
use Rattle.netpbm.specs.Reads.{Said, nothing, said, Says, pixels_of, numbered, answer, Outcome}
use Rattle.netpbm.proofs.Only.{said_only}
use Rattle.netpbm.proofs.Fields.{field_rest, field_value, field_gap, field_number, field_of}
use Rattle.netpbm.proofs.Headers.{magic_length, magic_first, magic_second, first_field, width_stops, height_stops, last_stops, magic_is}

-- a field, or none
pub data Part : Type 0 where
  missing : Part
  part : ℕ → List ℕ → Part

unfoldable pub part_of : List ℕ → Part
part_of l =
    cond (ltb (length (past_gap false l)) (length l) && ltb (length (past_digits (past_gap false l))) (length (past_gap false l)))
    (part (value_of 0 (past_gap false l)) (past_digits (past_gap false l)))
    missing

part_is : {l : List ℕ} {n : ℕ} {after : List ℕ} → Field l n after → stops after ≡ true → part_of l ≡ part n after
unfolding part_of
part_is {l} f s =
    rw (
      lt-ltb (length (past_gap false l)) (length l) (field_gap f),
      lt-ltb (length (past_digits (past_gap false l))) (length (past_gap false l)) (field_number f s),
      field_value f s,
      field_rest f s,
    )

is_part : (l : List ℕ) (n : ℕ) (after : List ℕ) → part_of l ≡ part n after → Field l n after
unfolding part_of
is_part l n after e =
    go (ltb (length (past_gap false l)) (length l) && ltb (length (past_digits (past_gap false l))) (length (past_gap false l))) refl e
  where
    go : (b : Bool) → (ltb (length (past_gap false l)) (length l) && ltb (length (past_digits (past_gap false l))) (length (past_gap false l))) ≡ b
        → cond b (part (value_of 0 (past_gap false l)) (past_digits (past_gap false l))) missing ≡ part n after → Field l n after
    go true k q =
        let both = and_both (ltb (length (past_gap false l)) (length l)) (ltb (length (past_digits (past_gap false l))) (length (past_gap false l))) k in
        let v : value_of 0 (past_gap false l) ≡ n = cc in
        let r : past_digits (past_gap false l) ≡ after = cc in
        rw (v, r) at (field_of l (ltb-true _ _ both.0) (ltb-true _ _ both.1))
    go false k q = absurd (let z : ◌≡◌ {A = ℕ} 0 1 = cc in omega arith)

-- the fields one after another
abbrev ending : ℕ → ℕ → ℕ → List ℕ → Said
ending height width maximum [] = nothing
ending height width maximum (b ∷ pixels) = cond (eqb maximum 255 && header_white b) (said height width pixels) nothing

abbrev maximum_in : ℕ → ℕ → Part → Said
maximum_in height width missing = nothing
maximum_in height width (part maximum l) = ending height width maximum l

abbrev height_in : ℕ → Part → Said
height_in width missing = nothing
height_in width (part height l) = maximum_in height width (part_of l)

abbrev width_in : Part → Said
width_in missing = nothing
width_in (part width l) = height_in width (part_of l)

abbrev magic_in : List ℕ → Bool
magic_in file = leb 2 (length file) && (eqb (get_or file 0 0) 80 && eqb (get_or file 1 0) 54)

unfoldable pub scanned : List ℕ → Said
scanned file = cond (magic_in file) (width_in (part_of (drop 2 file))) nothing

pub header_scanned : {file : List ℕ} {height width : ℕ} {pixels : List ℕ} → IsHeader file height width 255 pixels
    → scanned file ≡ said height width pixels
unfolding scanned
header_scanned {file} a =
    rw (
      le-leb 2 (length file) (magic_length a),
      eq-eqb (get_or file 0 0) 80 (magic_first a),
      eq-eqb (get_or file 1 0) 54 (magic_second a),
      part_is (first_field a) (width_stops a),
      part_is a.high (height_stops a),
      part_is a.most (last_stops a),
      a.white,
    )

-- and back: what is computed is there
contrary : {h w : ℕ} {p : List ℕ} → nothing ≡ said h w p → ⊥
contrary e = let z : ◌≡◌ {A = ℕ} 0 1 = cc in omega arith

record Maximum (x : Part) (h h' w w' : ℕ) (p : List ℕ) : Type 0 where
  last : ℕ
  is : x ≡ part 255 (last ∷ p)
  white : header_white last ≡ true
  high : h' ≡ h
  wide : w' ≡ w

record Height (x : Part) (h w w' : ℕ) (p : List ℕ) : Type 0 where
  after : List ℕ
  is : x ≡ part h after
  rest : Maximum (part_of after) h h w w p
  wide : w' ≡ w

record Width (x : Part) (h w : ℕ) (p : List ℕ) : Type 0 where
  after : List ℕ
  is : x ≡ part w after
  rest : Height (part_of after) h w w p

module _ {h w : ℕ} {p : List ℕ} where
  maximum_of : (x : Part) (h' w' : ℕ) → maximum_in h' w' x ≡ said h w p → Maximum x h h' w w' p
  maximum_of missing h' w' e = absurd (contrary e)
  maximum_of (part m []) h' w' e = absurd (contrary e)
  maximum_of (part m (b ∷ q)) h' w' e = go (eqb m 255 && header_white b) refl e
    where
      go : (t : Bool) → (eqb m 255 && header_white b) ≡ t → cond t (said h' w' q) nothing ≡ said h w p → Maximum (part m (b ∷ q)) h h' w w' p
      go false k f = absurd (contrary f)
      go true k f =
          let both = and_both (eqb m 255) (header_white b) k in
          let i : m ≡ 255 = eqb-true m 255 both.0 in
          let r : q ≡ p = cc in
          record { last = b; is = rw (i, r); white = both.1; high = cc; wide = cc }

  height_of : (x : Part) (w' : ℕ) → height_in w' x ≡ said h w p → Height x h w w' p
  height_of missing w' e = absurd (contrary e)
  height_of (part h' l) w' e =
      let m = maximum_of (part_of l) h' w' e in
      let i = m.high in
      record {
        after = l;
        is = rw i;
        rest = record { last = m.last; is = m.is; white = m.white; high = refl; wide = refl };
        wide = m.wide;
      }

  width_of : (x : Part) → width_in x ≡ said h w p → Width x h w p
  width_of missing e = absurd (contrary e)
  width_of (part w' l) e =
      let m = height_of (part_of l) w' e in
      let i = m.wide in
      record { after = l; is = rw i; rest = record { after = m.after; is = m.is; rest = m.rest; wide = refl } }

scanned_header : (file : List ℕ) (h w : ℕ) (p : List ℕ) → scanned file ≡ said h w p → IsHeader file h w 255 p
unfolding scanned
scanned_header file h w p e = go (magic_in file) refl e
  where
    go : (t : Bool) → magic_in file ≡ t → cond t (width_in (part_of (drop 2 file))) nothing ≡ said h w p → IsHeader file h w 255 p
    go false k f = absurd (contrary f)
    go true k f =
        let a = and_both (leb 2 (length file)) (eqb (get_or file 0 0) 80 && eqb (get_or file 1 0) 54) k in
        let b = and_both (eqb (get_or file 0 0) 80) (eqb (get_or file 1 0) 54) a.1 in
        let x = width_of (part_of (drop 2 file)) f in
        let y = x.rest in
        let z = y.rest in
        record {
          after-magic = drop 2 file;
          after-width = x.after;
          after-height = y.after;
          last = z.last;
          magic = magic_is file (leb-true 2 (length file) a.0) (eqb-true (get_or file 0 0) 80 b.0) (eqb-true (get_or file 1 0) 54 b.1);
          wide = is_part (drop 2 file) w x.after x.is;
          high = is_part x.after h y.after y.is;
          most = is_part y.after 255 (z.last ∷ p) z.is;
          white = z.white;
        }

-- every file says what is computed of it
pub says : (file : List ℕ) → Says file (scanned file)
says file = go (scanned file) refl
  where
    go : (t : Said) → scanned file ≡ t → Says file t
    go nothing e = λ h w p a. contrary (sym e ∙ header_scanned a)
    go (said h w p) e = scanned_header file h w p e

-- so that a call's outcome is computed too
pub outcome_scanned : {file before : List ℕ} {r : Result Sides Refusal} {after : List ℕ} → Outcome file before r after
    → (numbered r ≡ answer (scanned file) (length before)) × (after ≡ unless_refused (numbered r) (lent (pixels_of (scanned file)) before) before)
outcome_scanned {file} {before} {r} o =
    let t : o.content ≡ scanned file = said_only file o.content (scanned file) o.says (says file) in (
      o.answers ∙ ap (λ (x : Said). answer x (length before)) t,
      o.leaves ∙ ap (λ (x : Said). unless_refused (numbered r) (lent (pixels_of x) before) before) t,
    )
