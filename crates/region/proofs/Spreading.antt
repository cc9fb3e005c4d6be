-- One codel's neighbours are numbered and queued, way by way.
--     spread_more    one way more, by a visit of the codel that way
-- Assumes nothing.
use mathlib.Core.Path.{◌≡◌, sym, ap, ◌∙◌, subst}
use mathlib.Core.Logic.{◌≢◌, ◌⊎◌, inl, inr, ⊎_elim, by_cases}
use mathlib.Core.List.{List}
use Prim.Native.Nat.{ℕ, ◌+◌, ◌≤◌, ◌<◌}
use native.Mathlib.Decide.{ℕ_discrete, dec_lt}
use native.Mathlib.Omega.{arith}
use lib.ListN.{length, get_or, set, length-set}
use lib.Seq.{get_or-set_same, get_or-set_other, drop-set-lt}
use Rattle.region.specs.Grid.{Grid, count, Toward, Neighbour}
use Rattle.region.specs.Steps.{unnumbered, Visit, pushed, kept, New, Spread}
use Rattle.region.proofs.Cells.{stored}
use Rattle.region.proofs.TallyLaws.{tally_set, tally_some}

module _ {g : Grid} {k i d : ℕ} {m w : List ℕ} {t : ℕ} {m' w' : List ℕ} {t' j : ℕ} (s : Spread g k i d m w t m' w' t') (n : Neighbour g.rows g.cols d i j) where
  -- nothing to number that way
  idle : (j < count g → get_or m' j 0 ≡ unnumbered → g.colour j ≡ g.colour i → ⊥) → Spread g k i (d + 1) m w t m' w' t'
  idle none = record {
    on = s.on;
    cells = s.cells;
    old = s.old;
    new = s.new;
    reach = λ e h l inside toward colour free.
        by_cases (dec_lt e d)
        (λ below. s.reach e below l inside toward colour free)
        (λ last.
        let same : e ≡ d = omega arith in
        let at : l ≡ j = n.only l inside (subst (λ (x : ℕ). Toward g.cols x i l) same toward) in
        none (subst (λ (x : ℕ). x < count g) at inside) (ap (λ (x : ℕ). get_or m' x 0) (sym at) ∙ free) (ap g.colour (sym at) ∙ sym colour));
    room = s.room;
    map_length = s.map_length;
    work_length = s.work_length;
    map_rest = s.map_rest;
    work_rest = s.work_rest;
  }

  -- codel j is numbered and queued
  module _ (fresh : k ≢ unnumbered) (from : i < count g) (long : count g ≤ length m) (wide : count g ≤ length w) (inside : j < count g) (free : get_or m' j 0 ≡ unnumbered) (colour : g.colour j ≡ g.colour i) where
    here : j < length m'
    here = omega (arith, s.map_length)

    -- the queue has room
    there : t' < count g
    there = omega (arith, s.room, tally_some unnumbered (count g) m' j inside here free)

    queue : t' < length w'
    queue = omega (arith, s.work_length, there)

    was : get_or m j 0 ≡ unnumbered
    was = ⊎_elim (λ e. sym e ∙ free) (λ n. n.was) (s.cells j inside)

    first : New g k i m t (set m' j k) (set w' t' j) (t' + 1) j
    first = record {
      was = was;
      is = get_or-set_same m' j k 0 here;
      next = record { from = from; to = inside; way = d; toward = n.is inside };
      colour = sym colour;
      at = t';
      from = s.on;
      until = omega arith;
      stands = get_or-set_same w' t' j 0 queue;
    }

    later : (l : ℕ) → l ≢ j → New g k i m t m' w' t' l → New g k i m t (set m' j k) (set w' t' j) (t' + 1) l
    later l other n = record {
      was = n.was;
      is = get_or-set_other m' j l k 0 other ∙ n.is;
      next = n.next;
      colour = n.colour;
      at = n.at;
      from = n.from;
      until = omega (arith, n.until);
      stands = get_or-set_other w' t' n.at j 0 (omega (arith, n.until)) ∙ n.stands;
    }

    cells : (l : ℕ) → l < count g → (get_or (set m' j k) l 0 ≡ get_or m l 0) ⊎ New g k i m t (set m' j k) (set w' t' j) (t' + 1) l
    cells l h =
        by_cases (ℕ_discrete l j)
        (λ e. inr (subst (λ (x : ℕ). New g k i m t (set m' j k) (set w' t' j) (t' + 1) x) (sym e) first))
        (λ o. ⊎_elim (λ e. inl (get_or-set_other m' j l k 0 o ∙ e)) (λ n. inr (later l o n)) (s.cells l h))

    -- a numbered codel stays numbered
    numbered : (l : ℕ) → get_or m' l 0 ≡ k → get_or (set m' j k) l 0 ≡ k
    numbered l e = ⊎_elim (λ a. a.1) (λ a. a.1 ∙ e) (stored m' j k l here)

    new : (q : ℕ) → t ≤ q → q < t' + 1 → (get_or (set w' t' j) q 0 < count g) × (get_or (set m' j k) (get_or (set w' t' j) q 0) 0 ≡ k)
    new q a b =
        ⊎_elim
        (λ e. rw e.1 (inside, get_or-set_same m' j k 0 here))
        (λ e. let o : q < t' = omega arith in rw e.1 ((s.new q a o).0, numbered (get_or w' q 0) (s.new q a o).1))
        (stored w' t' j q queue)

    reach : (e : ℕ) → e < d + 1 → (l : ℕ) → l < count g → Toward g.cols e i l → g.colour i ≡ g.colour l
        → get_or (set m' j k) l 0 ≢ unnumbered
    reach e h l within toward same =
        by_cases (ℕ_discrete l j)
        (λ at. rw at (rw (get_or-set_same m' j k 0 here) fresh))
        (λ other.
        by_cases (dec_lt e d)
        (λ below. rw (get_or-set_other m' j l k 0 other) (s.reach e below l within toward same))
        (λ last.
        let eq : e ≡ d = omega arith in
        absurd (other (n.only l within (subst (λ (x : ℕ). Toward g.cols x i l) eq toward)))))

    busy : Spread g k i (d + 1) m w t (set m' j k) (set w' t' j) (t' + 1)
    busy = record {
      on = omega (arith, s.on);
      cells = cells;
      old = λ q h. get_or-set_other w' t' q j 0 (omega (arith, s.on)) ∙ s.old q h;
      new = new;
      reach = reach;
      room = omega (arith, s.room, tally_set unnumbered (count g) m' j k inside here free fresh);
      map_length = length-set m' j k ∙ s.map_length;
      work_length = length-set w' t' j ∙ s.work_length;
      map_rest = drop-set-lt (count g) m' j k inside ∙ s.map_rest;
      work_rest = drop-set-lt (count g) w' t' j there ∙ s.work_rest;
    }

pub spread_more : {g : Grid} {k i d : ℕ} {m w : List ℕ} {t : ℕ} {m' w' : List ℕ} {t' j colour : ℕ} {m'' w'' : List ℕ} {t'' : ℕ}
    → Spread g k i d m w t m' w' t' → Neighbour g.rows g.cols d i j
    → k ≢ unnumbered → i < count g → count g ≤ length m → count g ≤ length w → colour ≡ g.colour i
    → Visit g colour k j m' w' t' m'' w'' t'' → Spread g k i (d + 1) m w t m'' w'' t''
spread_more s n fresh from long wide same (pushed inside free e) = busy s n fresh from long wide inside free (e ∙ same)
spread_more s n fresh from long wide same (kept none) = idle s n (λ inside free e. none inside free (e ∙ sym same))
