-- The refusals of building: what each test says, and what a call that is not refused may rely on.
--     known               where nothing is refused the number names an edition
--     accepted            and the picture is sound and there is room
--     outcome_only        two outcomes for one input are one
-- Assumes nothing.
use mathlib.Core.Path.{◌≡◌, refl, sym, ap, ◌∙◌}
use mathlib.Core.Bool.{Bool, true, false, not, ◌||◌, true≢false}
use mathlib.Core.List.{List, [], ◌∷◌, ◌++◌}
use Prim.Native.Nat.{ℕ, zero, suc, ◌+◌, ◌*◌, ◌<◌, ◌≤◌}
use native.Mathlib.Nat.{zero-mul}
use native.Mathlib.Omega.{arith}
use borrow.Author.Tests.{lt-ltb, le-ltb, eqb-true, ltb-false, eq-eqb, ne_eqb}
use lib.Arith.{digits_lt}
use lib.Dec.{ltb}
use lib.ListN.{length, get_or, take, drop, take-append-drop, length-replicate}
use lib.Seq.{length-take-le, take_at, drop_at}
use Rattle.base.specs.Numbers.{Numbers, numbers, first}
use Rattle.base.specs.Limits.{wrong_side}
use Rattle.base.specs.Edition.{unknown_edition}
use Rattle.base.specs.declared.edition.Edition.{Edition}
use Rattle.base.proofs.Refusals.{passed, no_row}
use Rattle.base.proofs.Tests.{neither}
use Rattle.base.proofs.Sides.{side}
use Rattle.std.specs.Prelude.{Result, Ok, Err}
use Rattle.base.specs.Refusal.{place_cells}
use Rattle.base.specs.declared.refusal.Refusal.{Refusal}
use Rattle.base.proofs.RefusalLaws.{never_done, placed_only}
use Rattle.cfg.specs.Table.{Builds}
use Rattle.cfg.specs.Search.{Sized}
use Rattle.cfg.specs.Build.{numbered, legal_first, short, picture_refusals, picture_refusal, refusals, refusal, Enough, Written, Outcome, refused, done}
use Rattle.table.specs.Layout.{rows_room, exits_room}
use Rattle.picture.specs.Picture.{Picture, codels}
use Rattle.picture.proofs.Codels.{cols_pos}
use Rattle.cfg.proofs.TableLaws.{table_only}

-- what is known of the count of codels that the code worked out
pub few_of : {x y : ℕ} → x ≡ y → x ≤ 65536 → y ≤ 65536
few_of e h = omega arith

pub many_of : {x y : ℕ} → x ≡ y → 65536 < x → 65536 < y
many_of e h = omega arith

pub short_of : (m r e w : ℕ) {x y : ℕ} {b v : Bool} → x ≡ y → b ≡ short x m r e w → b ≡ v → short y m r e w ≡ v
short_of m r e w q h k = (rw q at (sym h)) ∙ k

pub area_pos : {a b : ℕ} → 0 < a → 0 < b → 0 < a * b
area_pos {a} {b} h k =
    let l : 0 * b + 0 < a * b = digits_lt h k in
    omega (arith, zero-mul b)

not_false : (b : Bool) → not b ≡ false → b ≡ true
not_false true e = refl
not_false false e = absurd (true≢false e)

-- where nothing is refused, the number names an edition, and nothing of the picture is refused
pub known : (n : ℕ) (p : Picture) (m r e w : ℕ) (v : List ℕ) → numbers 0 v ≡ refusal n p m r e w → unknown_edition n ≡ false
unfolding refusal refusals
known n p m r e w v h = (passed _ 14 _ v _ _ h).0

past_edition : (n : ℕ) (p : Picture) (m r e w : ℕ) (v : List ℕ) → numbers 0 v ≡ refusal n p m r e w → numbers 0 v ≡ picture_refusal p m r e w
unfolding refusal refusals picture_refusal
past_edition n p m r e w v h = (passed _ 14 _ v _ _ h).1

-- what a call that is not refused may rely on
pub picture_accepted : (p : Picture) (m r e w : ℕ) (v : List ℕ) → numbers 0 v ≡ picture_refusal p m r e w → Enough p m r e w
unfolding picture_refusal picture_refusals short
picture_accepted p m r e w v h =
    let a = passed _ 0 _ v _ _ h in
    let b = passed _ 5 _ v _ _ a.1 in
    let c = passed _ 6 _ v _ _ b.1 in
    let d = passed _ 1 _ v _ _ c.1 in
    let f = passed _ 7 _ v _ _ d.1 in
    let g = passed _ 8 _ v _ _ f.1 in
    let i = passed _ 3 _ v _ _ g.1 in
    let sides = neither (wrong_side p.height) (wrong_side p.width) a.0 in
    let high = side p.height sides.0 in
    let wide = side p.width sides.1 in
    let small = side p.codel b.0 in
    let one = neither (ltb m (codels p)) (ltb r (rows_room (codels p)) || (ltb e (exits_room (codels p)) || ltb w (codels p))) i.0 in
    let two = neither (ltb r (rows_room (codels p))) (ltb e (exits_room (codels p)) || ltb w (codels p)) one.1 in
    let three = neither (ltb e (exits_room (codels p))) (ltb w (codels p)) two.1 in
    record {
      sound = record {
        high = high.0;
        not_high = high.1;
        wide = wide.0;
        not_wide = wide.1;
        some = small.0;
        small = small.1;
        few = ltb-false _ _ c.0;
        pixels = eqb-true _ _ (not_false _ d.0);
      };
      map_in = ltb-false _ _ one.0;
      rows_in = ltb-false _ _ two.0;
      exits_in = ltb-false _ _ three.0;
      work_in = ltb-false _ _ three.1;
    }

pub accepted : (n : ℕ) (p : Picture) (m r e w : ℕ) (v : List ℕ) → numbers 0 v ≡ refusal n p m r e w → Enough p m r e w
accepted n p m r e w v h = picture_accepted p m r e w v (past_edition n p m r e w v h)

-- two lists that agree up to a place and past it are equal
joined : (n : ℕ) {a b : List ℕ} → take n a ≡ take n b → drop n a ≡ drop n b → a ≡ b
joined n {a} {b} t d = sym (take-append-drop n a) ∙ ap (λ (x : List ℕ). x ++ drop n a) t ∙ ap (λ (x : List ℕ). take n b ++ x) d ∙ take-append-drop n b

-- a refusal is not the answer 0
clash : {A : Type 0} (r : Refusal) {x : Numbers} → numbered (Err r) ≡ x → x ≡ numbers 0 (0 ∷ 0 ∷ []) → A
clash r e f = absurd (never_done r (place_cells r) (0 ∷ 0 ∷ []) (e ∙ f))

-- what a call answers and leaves is determined by its arguments
pub record Same (r r' : Result ℕ Refusal) (map map' rows rows' exits exits' work work' : List ℕ) : Type 0 where
  pub answer : r ≡ r'
  pub map_same : map ≡ map'
  pub rows_same : rows ≡ rows'
  pub exits_same : exits ≡ exits'
  pub work_same : work ≡ work'

pub outcome_only : {n : ℕ} {p : Picture} {map rows exits work : List ℕ} {r r' : Result ℕ Refusal} {m m' t t' e e' w w' : List ℕ}
    → Outcome n p map rows exits work r m t e w → Outcome n p map rows exits work r' m' t' e' w' → Same r r' m m' t t' e e' w w'
outcome_only (refused r e) (refused r' e') =
    record { answer = placed_only (λ n. n ∷ 0 ∷ []) (λ t u k. ap (λ (v : List ℕ). get_or v 0 0) k) (Err r) (Err r') (e ∙ sym e'); map_same = refl; rows_same = refl; exits_same = refl; work_same = refl }
outcome_only (refused r e) (done e' b') = clash r e e'
outcome_only (done e b) (refused r e') = clash r e' e
outcome_only {n} {p} {map} {rows} {exits} {work} (done e b) (done e' b') =
    let s = accepted n p (length map) (length rows) (length exits) (length work) (0 ∷ 0 ∷ []) (sym e) in
    let o = table_only (cols_pos s.sound) b.builds b'.builds in
    record {
      answer = ap Ok o.4;
      map_same = joined (codels p) o.0 (b.map_rest ∙ sym b'.map_rest);
      rows_same = joined (rows_room (codels p)) o.1 (b.rows_rest ∙ sym b'.rows_rest);
      exits_same = joined (exits_room (codels p)) o.2 (b.exits_rest ∙ sym b'.exits_rest);
      work_same = joined (codels p) o.3 (b.work_rest ∙ sym b'.work_rest);
    }

-- the edition's test: an unknown one is refused, and past it a picture's own refusals count
module _ (n : ℕ) (p : Picture) (m r e w : ℕ) where
  pub on_unknown : unknown_edition n ≡ true → numbers 15 (0 ∷ 0 ∷ []) ≡ refusal n p m r e w
  unfolding refusal refusals first
  on_unknown h = rw h

  pub on_known : unknown_edition n ≡ false → picture_refusal p m r e w ≡ refusal n p m r e w
  unfolding refusal refusals picture_refusal first
  on_known h = rw h

-- the answer of each other return of `check`: the tests that failed, and the one that held
module _ (p : Picture) (m r e w : ℕ) where
  pub on_height : wrong_side p.height ≡ true → numbers 1 (0 ∷ 0 ∷ []) ≡ picture_refusal p m r e w
  unfolding picture_refusal picture_refusals first
  on_height h = rw h

  module _ (h : wrong_side p.height ≡ false) where
    pub on_width : wrong_side p.width ≡ true → numbers 1 (0 ∷ 0 ∷ []) ≡ picture_refusal p m r e w
    unfolding picture_refusal picture_refusals first
    on_width b = rw (h, b)

    module _ (b : wrong_side p.width ≡ false) where
      pub on_codel : wrong_side p.codel ≡ true → numbers 6 (0 ∷ 0 ∷ []) ≡ picture_refusal p m r e w
      unfolding picture_refusal picture_refusals first
      on_codel k = rw (h, b, k)

      module _ (k : wrong_side p.codel ≡ false) where
        pub on_grid : 65536 < codels p → numbers 7 (0 ∷ 0 ∷ []) ≡ picture_refusal p m r e w
        unfolding picture_refusal picture_refusals first
        on_grid l = rw (h, b, k, lt-ltb 65536 (codels p) l)

        module _ (few : codels p ≤ 65536) where
          pub on_bytes : (length p.colours ≡ p.height * p.width → ⊥) → numbers 2 (0 ∷ 0 ∷ []) ≡ picture_refusal p m r e w
          unfolding picture_refusal picture_refusals first
          on_bytes l = rw (h, b, k, le-ltb 65536 (codels p) few, ne_eqb _ _ l)

          module _ (bytes : length p.colours ≡ p.height * p.width) where
            pub on_colour : legal_first p.colours < length p.colours → numbers 8 (0 ∷ legal_first p.colours ∷ []) ≡ picture_refusal p m r e w
            unfolding picture_refusal picture_refusals first
            on_colour l = rw (h, b, k, le-ltb 65536 (codels p) few, eq-eqb _ _ bytes, lt-ltb _ _ l)

            module _ (legal : length p.colours ≤ legal_first p.colours) where
              pub on_white : get_or p.colours 0 0 ≡ 19 → numbers 9 (0 ∷ 0 ∷ []) ≡ picture_refusal p m r e w
              unfolding picture_refusal picture_refusals first
              on_white l = rw (h, b, k, le-ltb 65536 (codels p) few, eq-eqb _ _ bytes, le-ltb _ _ legal, eq-eqb _ _ l)

              module _ (entry : get_or p.colours 0 0 ≡ 19 → ⊥) where
                pub on_room : short (codels p) m r e w ≡ true → numbers 4 (0 ∷ 0 ∷ []) ≡ picture_refusal p m r e w
                unfolding picture_refusal picture_refusals first
                on_room l = rw (h, b, k, le-ltb 65536 (codels p) few, eq-eqb _ _ bytes, le-ltb _ _ legal, ne_eqb _ _ entry, l)

                pub on_none : short (codels p) m r e w ≡ false → numbers 0 (0 ∷ 0 ∷ []) ≡ picture_refusal p m r e w
                unfolding picture_refusal picture_refusals first
                on_none l = rw (h, b, k, le-ltb 65536 (codels p) few, eq-eqb _ _ bytes, le-ltb _ _ legal, ne_eqb _ _ entry, l)

-- the answer 0 is the last one
pub picture_none_refused : (p : Picture) (m r e w : ℕ) (v : List ℕ) → numbers 0 v ≡ picture_refusal p m r e w → picture_refusal p m r e w ≡ numbers 0 (0 ∷ 0 ∷ [])
unfolding picture_refusal picture_refusals
picture_none_refused p m r e w v h =
    let a = passed _ 0 _ v _ _ h in
    let b = passed _ 5 _ v _ _ a.1 in
    let c = passed _ 6 _ v _ _ b.1 in
    let d = passed _ 1 _ v _ _ c.1 in
    let f = passed _ 7 _ v _ _ d.1 in
    let g = passed _ 8 _ v _ _ f.1 in
    let i = passed _ 3 _ v _ _ g.1 in
    sym h ∙ i.1 ∙ no_row _

pub none_refused : (n : ℕ) (p : Picture) (m r e w : ℕ) (v : List ℕ) → numbers 0 v ≡ refusal n p m r e w → refusal n p m r e w ≡ numbers 0 (0 ∷ 0 ∷ [])
none_refused n p m r e w v h = let k = past_edition n p m r e w v h in sym h ∙ k ∙ picture_none_refused p m r e w v k

-- the parts that are lent, and the slices that come back
pub sized_parts : {p : Picture} (map rows exits work : List ℕ) (k : ℕ) → k ≡ codels p → Enough p (length map) (length rows) (length exits) (length work)
    → Sized p (take k map) (take (rows_room k) rows) (take (exits_room k) exits) (take k work)
sized_parts {p} map rows exits work k e E = rw e (record {
  sound = E.sound;
  map_long = length-take-le (codels p) map E.map_in;
  rows_long = length-take-le (rows_room (codels p)) rows E.rows_in;
  exits_long = length-take-le (exits_room (codels p)) exits E.exits_in;
  work_long = length-take-le (codels p) work E.work_in;
})

pub written : {edition : Edition} {p : Picture} {map rows exits work m t e w : List ℕ} {n : ℕ} (k : ℕ) → k ≡ codels p → Builds edition p m t e w n
    → Written edition p map rows exits work (m ++ drop k map) (t ++ drop (rows_room k) rows) (e ++ drop (exits_room k) exits) (w ++ drop k work) n
written {edition} {p} {map} {rows} {exits} {work} {m} {t} {e} {w} k q B =
    let wl : length w ≡ codels p = ap length B.work_zero ∙ length-replicate (codels p) 0 in
    rw q (record {
      builds = rw (take_at m (drop (codels p) map) (codels p) B.map_long, take_at t (drop (rows_room (codels p)) rows) (rows_room (codels p)) B.rows_long, take_at e (drop (exits_room (codels p)) exits) (exits_room (codels p)) B.exits_long, take_at w (drop (codels p) work) (codels p) wl) B;
      map_rest = drop_at m (drop (codels p) map) (codels p) B.map_long;
      rows_rest = drop_at t (drop (rows_room (codels p)) rows) (rows_room (codels p)) B.rows_long;
      exits_rest = drop_at e (drop (exits_room (codels p)) exits) (exits_room (codels p)) B.exits_long;
      work_rest = drop_at w (drop (codels p) work) (codels p) wl;
    })
