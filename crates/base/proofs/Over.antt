-- Laws of a list with a word written over it. Assumes nothing.
use mathlib.Core.Path.{◌≡◌, ◌∙◌, sym, ap, ap₂}
use mathlib.Core.List.{List, [], ◌∷◌, ◌++◌, append_assoc, append-nil}
use Prim.Native.Nat.{ℕ, suc, ◌+◌, ◌-◌, ◌<◌, ◌≤◌}
use native.Mathlib.Nat.{zero-add, add_assoc, sub_self, add-zero}
use native.Mathlib.Numerals.{add-one}
use native.Mathlib.Omega.{arith}
use lib.ListN.{length, get_or, take, drop, set, get_or-append, length-append, length-take, length-drop, replicate, length-replicate, replicate-append-replicate, take-append-drop}
use lib.Seq.{take_at, drop-append-add, get_or-drop, get_or-append-add, drop-drop, set_split, append_snoc, paste, take-length}
use Rattle.base.specs.Lent.{over, lent, filled, Room, Put}

module _ {A : Type 0} where
  pub over_length : (d : List A) (at : ℕ) (w : List A) → at + length w ≤ length d → length (over d at w) ≡ length d
  unfolding over
  over_length d at w h = simp (length-append, length-take, length-drop) (omega arith)

  -- a word after a word
  pub over_over : (d : List A) (at : ℕ) (v w : List A) → at + length v ≤ length d → over (over d at v) (at + length v) w ≡ over d at (v ++ w)
  unfolding over
  over_over d at v w h =
      let p : List A = take at d ++ v in
      let l : length p ≡ at + length v = simp (length-append, length-take) (omega arith) in
      let t : take (at + length v) (p ++ drop (at + length v) d) ≡ p = take_at p (drop (at + length v) d) (at + length v) l in
      let e : drop (at + length v + length w) (p ++ drop (at + length v) d) ≡ drop (at + length (v ++ w)) d =
      ap (λ (k : ℕ). drop (k + length w) (p ++ drop (at + length v) d)) (sym l)
      ∙ drop-append-add p (drop (at + length v) d) (length w)
      ∙ drop-drop (length w) (at + length v) d
      ∙ ap (λ (k : ℕ). drop k d) (add_assoc at (length v) (length w) ∙ ap (λ (k : ℕ). at + k) (sym (length-append v w))) in
      rw (t, e, append_assoc (take at d) v w)

  pub over_one : (d : List A) (at : ℕ) (a : A) → at < length d → set d at a ≡ over d at (a ∷ [])
  unfolding over
  over_one d at a h = rw (set_split d at a h, add-one at) (sym (append_snoc (take at d) a (drop (suc at) d)))

  -- at the start: the word, and what stood past it
  pub over_zero : (d w : List A) → over d 0 w ≡ lent w d
  unfolding over lent
  over_zero d w = rw (zero-add (length w))

  pub over_none : (d : List A) (at : ℕ) → d ≡ over d at []
  unfolding over
  over_none d at = rw (add-zero at, append-nil) (sym (take-append-drop at d))

  pub paste_over : (d : List A) (at : ℕ) (w : List A) (i : ℕ) → i ≡ length w → paste d at w i ≡ over d at w
  unfolding over
  paste_over d at w i e = rw (e, take-length w)

  -- one value from an index on, cell after cell
  pub filled_none : (d : List A) (at : ℕ) (v : A) → d ≡ filled at at v d
  unfolding filled
  filled_none d at v = rw (sub_self at) (over_none d at)

  pub filled_turn : (d : List A) (at i : ℕ) (v : A) → at ≤ i → i < length d → set (filled at i v d) i v ≡ filled at (i + 1) v d
  unfolding filled
  filled_turn d at i v h k =
      let z : List A = replicate (i - at) v in
      let l : length z ≡ i - at = length-replicate (i - at) v in
      let e : at + length z ≡ i = omega arith in
      let s : i < length (over d at z) = rw (over_length d at z (omega arith)) k in
      let j : (i - at) + 1 ≡ i + 1 - at = omega arith in
      over_one (over d at z) i v s
      ∙ ap (λ (x : ℕ). over (over d at z) x (v ∷ [])) (sym e)
      ∙ over_over d at z (v ∷ []) (omega arith)
      ∙ rw (← j, ← replicate-append-replicate {A = A} (i - at) 1 v)

  -- from the start on
  pub filled_zero : (d : List A) (n : ℕ) (v : A) → filled 0 n v d ≡ replicate n v ++ drop n d
  unfolding filled lent
  filled_zero d n v =
      let e : n - 0 ≡ n = omega arith in
      ap (λ (k : ℕ). over d 0 (replicate k v)) e
      ∙ over_zero d (replicate n v)
      ∙ ap (λ (k : ℕ). replicate n v ++ drop k d) (length-replicate n v)

-- what stands at the start of a lent list
module _ {A : Type 0} (w d : List A) where
  pub lent_length : length w ≤ length d → length (lent w d) ≡ length d
  lent_length h = ap length (sym (over_zero d w)) ∙ over_length d 0 w (omega arith)

  pub lent_front : (z : A) (i : ℕ) → i < length w → get_or (lent w d) i z ≡ get_or w i z
  unfolding lent
  lent_front z i h = get_or-append w (drop (length w) d) z i h

  pub lent_past : (z : A) (i : ℕ) → length w ≤ i → get_or (lent w d) i z ≡ get_or d i z
  unfolding lent
  lent_past z i h =
      let e : length w + (i - length w) ≡ i = omega arith in
      ap (λ (k : ℕ). get_or (w ++ drop (length w) d) k z) (sym e)
      ∙ get_or-append-add w (drop (length w) d) (i - length w) z
      ∙ get_or-drop (length w) d (i - length w) z
      ∙ ap (λ (k : ℕ). get_or d k z) e

  -- and more is written after it
  pub lent_after : (v : List A) → length w ≤ length d → over (lent w d) (length w) v ≡ lent (w ++ v) d
  lent_after v h =
      ap₂ (λ x k. over x k v) (sym (over_zero d w)) (sym (zero-add (length w)))
      ∙ over_over d 0 w v (omega arith)
      ∙ over_zero d (w ++ v)

pub filled_lent : {A : Type 0} (d : List A) (n : ℕ) (v : A) → filled 0 n v d ≡ lent (replicate n v) d
unfolding lent
filled_lent d n v = filled_zero d n v ∙ ap (λ (k : ℕ). replicate n v ++ drop k d) (sym (length-replicate n v))

pub put_put : {d d' d'' v w : List ℕ} {at r s : ℕ} → at + length v ≤ length d → Put d at v r d' → Put d' r w s d'' → Put d at (v ++ w) s d''
put_put {d} {d'} {d''} {v} {w} {at} {r} {s} h p q =
    record {
      next = rw (length-append v w) (omega arith);
      list =
          q.list
          ∙ ap (λ (l : List ℕ). over l r w) p.list
          ∙ ap (λ (k : ℕ). over (over d at v) k w) p.next
          ∙ over_over d at v w h;
    }

pub put_length : {d d' w : List ℕ} {at r : ℕ} → at + length w ≤ length d → Put d at w r d' → length d' ≡ length d
put_length {d} {w = w} {at = at} h p = ap length p.list ∙ over_length d at w h

-- words that are written one after another: room for each, and what both write
pub room_front : {d : List ℕ} {at : ℕ} (v w : List ℕ) → Room d at (v ++ w) → Room d at v
room_front v w h = let e = h.enough in let l = length-append v w in record { enough = omega arith }

pub room_back : {d d' : List ℕ} {at r : ℕ} (v w : List ℕ) → Room d at (v ++ w) → Put d at v r d' → Room d' r w
room_back v w h p =
    let e = h.enough in
    let l = length-append v w in
    let n = p.next in
    let f = (room_front v w h).enough in
    record { enough = omega (arith, put_length f p) }

pub put_then : {d d' d'' v w : List ℕ} {at r s : ℕ} → Room d at (v ++ w) → Put d at v r d' → Put d' r w s d'' → Put d at (v ++ w) s d''
put_then {v = v} {w = w} h p q = put_put (room_front v w h).enough p q
