-- A file has one reading, a call has one outcome, and reading is done exactly where the file is a picture. Assumes nothing.
use mathlib.Core.Path.{◌≡◌, ◌∙◌, sym, ap, refl, subst}
use mathlib.Core.Bool.{Bool, true, false, not, ◌||◌, true≢false}
use mathlib.Core.List.{List, [], ◌∷◌}
use Prim.Native.Nat.{ℕ, ◌*◌, ◌≤◌}
use native.Mathlib.Omega.{arith}
use borrow.Author.Tests.{ltb-false, eqb-true, not-false, le-ltb, eq-eqb}
use lib.Dec.{eqb, ltb}
use lib.ListN.{length, get_or}
use Rattle.base.specs.Numbers.{Numbers, numbers, number_of, row, first, unless_refused}
use Rattle.base.specs.Lent.{lent}
use Rattle.base.specs.Limits.{wrong_side}
use Rattle.base.proofs.Refusals.{passed, no_row}
use Rattle.base.proofs.Tests.{neither}
use Rattle.std.specs.Prelude.{Result, Ok}
use Rattle.base.specs.declared.refusal.Refusal.{Refusal}
use Rattle.base.proofs.RefusalLaws.{Placeless, answered_only, placed_only}
use Rattle.netpbm.specs.declared.reading.Sides.{Sides}
use Rattle.netpbm.specs.File.{IsP6, shortest}
use Rattle.netpbm.specs.Reads as reads
use Rattle.netpbm.specs.Reads.{Said, nothing, said, Says, pixels_of}
use Rattle.netpbm.specs.Writes as writes
use Rattle.netpbm.proofs.Headers.{header_only}

-- what a file is a picture of is settled by its bytes
pub p6_only : {file : List ℕ} {h h' w w' : ℕ} {p p' : List ℕ} → IsP6 file h w p → IsP6 file h' w' p' → (h ≡ h') × (w ≡ w') × (p ≡ p')
p6_only a b = let s = header_only a.header b.header in (s.heights, s.widths, s.rests)

pub said_only : (file : List ℕ) (t t' : Said) → Says file t → Says file t' → t ≡ t'
said_only file nothing nothing u v = refl
said_only file nothing (said h w p) u v = absurd (u h w p v)
said_only file (said h w p) nothing u v = absurd (v h w p u)
said_only file (said h w p) (said h' w' p') u v = let s = header_only u v in cc

-- an answer of writing names no place
write_placeless : (pixels : List ℕ) (height width room : ℕ) → Placeless (number_of (writes.answer pixels height width room))
unfolding writes.answer writes.refusals first
write_placeless pixels height width room =
    by_tests (wrong_side height || wrong_side width) (not (eqb (length pixels) (3 * (height * width)))) (ltb room (length (shortest height width pixels)))
  where
    by_tests : (a b d : Bool) → Placeless (number_of (first (row a (numbers 1 (0 ∷ [])) ∷ row b (numbers 2 (0 ∷ [])) ∷ row d (numbers 4 (0 ∷ [])) ∷ []) (numbers 0 (length (shortest height width pixels) ∷ []))))
    by_tests true b d = (λ e. omega arith, λ e. omega arith)
    by_tests false true d = (λ e. omega arith, λ e. omega arith)
    by_tests false false true = (λ e. omega arith, λ e. omega arith)
    by_tests false false false = (λ e. omega arith, λ e. omega arith)

same_sides : (s t : Sides) → (s.height ∷ s.width ∷ []) ≡ (t.height ∷ t.width ∷ []) → s ≡ t
same_sides s t e =
    let h = ap (λ (v : List ℕ). get_or v 0 0) e in
    let w = ap (λ (v : List ℕ). get_or v 1 0) e in
    λ i. record { height = h i; width = w i }

-- two outcomes that `read_p6` may have for one input are one
pub read_only : {file before : List ℕ} {r r' : Result Sides Refusal} {after after' : List ℕ}
    → reads.Outcome file before r after → reads.Outcome file before r' after' → (r ≡ r') × (after ≡ after')
read_only {file} {before} {r} {r'} o o' =
    let t : o.content ≡ o'.content = said_only file o.content o'.content o.says o'.says in
    let e : reads.numbered r ≡ reads.numbered r' =
    o.answers ∙ ap (λ (x : Said). reads.answer x (length before)) t ∙ sym o'.answers in (
      placed_only _ same_sides r r' e,
      o.leaves
          ∙ ap (λ (x : Said). unless_refused (reads.numbered r) (lent (pixels_of x) before) before) t
          ∙ ap (λ (n : Numbers). unless_refused n (lent (pixels_of o'.content) before) before) e
          ∙ sym o'.leaves,
    )

-- two outcomes that `write_p6` may have for one input are one
pub write_only : {pixels : List ℕ} {height width : ℕ} {before : List ℕ} {r r' : Result ℕ Refusal} {after after' : List ℕ}
    → writes.Outcome pixels height width before r after → writes.Outcome pixels height width before r' after' → (r ≡ r') × (after ≡ after')
write_only {pixels} {height} {width} {before} {r} {r'} o o' =
    let e : writes.numbered r ≡ writes.numbered r' = o.answers ∙ sym o'.answers in (
      answered_only _ (λ t u k. ap (λ (v : List ℕ). get_or v 0 0) k) _ r r' (subst (λ (n : Numbers). Placeless (number_of n)) (sym o.answers) (write_placeless pixels height width (length before))) e,
      o.leaves ∙ ap (λ (n : Numbers). unless_refused n (lent (shortest height width pixels) before) before) e ∙ sym o'.leaves,
    )

-- what a call that is done says: the file is a picture of this size, within the bounds, and its pixels were written
pub record Pictured (file before : List ℕ) (height width : ℕ) (after : List ℕ) : Type 0 where
  pub pixels : List ℕ
  pub is : IsP6 file height width pixels
  pub high : wrong_side height ≡ false
  pub wide : wrong_side width ≡ false
  pub room : length pixels ≤ length before
  pub leaves : after ≡ lent pixels before

done_says : {file before : List ℕ} {h w : ℕ} (t : Said) → Says file t → numbers 0 (h ∷ w ∷ []) ≡ reads.answer t (length before)
    → Pictured file before h w (lent (pixels_of t) before)
unfolding reads.answer reads.refusals
done_says {file} {before} {h} {w} nothing u e =
    absurd (true≢false (passed _ 12 _ (h ∷ w ∷ []) _ _ e).0)
done_says {file} {before} {h} {w} (said h' w' p) u e =
    let v : List ℕ = h ∷ w ∷ [] in
    let a = passed _ 0 _ v _ _ e in
    let b = passed _ 13 _ v _ _ a.1 in
    let d = passed _ 3 _ v _ _ b.1 in
    let sides = neither (wrong_side h') (wrong_side w') a.0 in
    let last : numbers 0 (h ∷ w ∷ []) ≡ numbers 0 (h' ∷ w' ∷ []) = d.1 ∙ no_row _ in
    let eh : h' ≡ h = cc in
    let ew : w' ≡ w = cc in
    let bytes : length p ≡ 3 * (h' * w') = eqb-true (length p) (3 * (h' * w')) (not-false (eqb (length p) (3 * (h' * w'))) b.0) in
    let fits = ltb-false (length before) (3 * (h' * w')) d.0 in
    record {
      pixels = p;
      is = record { header = rw (eh, ew) at u; bytes = rw (eh, ew) at bytes };
      high = rw eh at sides.0;
      wide = rw ew at sides.1;
      room = omega arith;
      leaves = refl;
    }

pub done_is : {file before : List ℕ} {h w : ℕ} {after : List ℕ} → reads.Outcome file before (Ok (record { height = h; width = w })) after → Pictured file before h w after
done_is {file} {before} {h} {w} o = let e = o.leaves in rw e (done_says o.content o.says o.answers)

-- and every such picture is read
pub is_done : {file before : List ℕ} {h w : ℕ} {after : List ℕ} {r : Result Sides Refusal} → Pictured file before h w after
    → {after' : List ℕ} → reads.Outcome file before r after' → (r ≡ Ok (record { height = h; width = w })) × (after' ≡ after)
unfolding reads.answer reads.refusals first
is_done {file} {before} {h} {w} {after} q o =
    let b = q.is.bytes in
    let m = q.room in
    let mine : reads.Outcome file before (Ok (record { height = h; width = w })) after =
    record {
      content = said h w q.pixels;
      says = q.is.header;
      answers = rw (q.high, q.wide, eq-eqb (length q.pixels) (3 * (h * w)) b, le-ltb (length before) (3 * (h * w)) (omega arith));
      leaves = q.leaves;
    } in
    read_only o mine
