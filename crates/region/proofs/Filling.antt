-- A region is filled from its first codel, by a queue of the codels whose neighbours are still to be visited.
--     fill_start    the seed alone is numbered and queued
--     fill_turn     the codel at the queue's head is expanded
--     fill_end      the queue is empty: the region is numbered
-- Assumes nothing.
use mathlib.Core.Path.{◌≡◌, refl, sym, ap, ◌∙◌, subst}
use mathlib.Core.Logic.{◌≢◌, ◌⊎◌, inl, inr, ⊎_elim, by_cases}
use mathlib.Core.List.{List}
use Prim.Native.Nat.{ℕ, ◌+◌, ◌≤◌, ◌<◌}
use native.Mathlib.Nat.{le_refl}
use native.Mathlib.Decide.{ℕ_discrete, dec_lt}
use native.Mathlib.Omega.{arith}
use lib.ListN.{length, get_or, set, drop, length-set}
use lib.Seq.{get_or-set_same, drop-set-lt, set-set, set-get_or}
use Rattle.region.specs.Grid.{Grid, count, Toward, Adjacent}
use Rattle.region.specs.Region.{Joined, here, on, Earlier}
use Rattle.region.specs.Steps.{unnumbered, vacant, New, Spread, Part, Numbered}
use Rattle.region.proofs.Cells.{stored}
use Rattle.region.proofs.TallyLaws.{tally_set, tally_most}
use Rattle.region.proofs.Paths.{four, next_back, joined_trans, joined_sym}

-- codel j has got the number k, and is joined to the seed
pub record Got (g : Grid) (seed k : ℕ) (m₀ m : List ℕ) (j : ℕ) : Type 0 where
  pub was : get_or m₀ j 0 ≡ unnumbered
  pub is : get_or m j 0 ≡ k
  pub path : Joined g seed j

-- codel j stands in the queue
abbrev Waits : ℕ → List ℕ → ℕ → ℕ → Type 0
Waits h w t j = (q : ℕ) × (h ≤ q) × (q < t) × (get_or w q 0 ≡ j)

-- the neighbours of codel j that have its colour have a number
abbrev Done : Grid → List ℕ → ℕ → Type 0
Done g m j = (l : ℕ) → Adjacent g j l → g.colour j ≡ g.colour l → get_or m l 0 ≢ unnumbered

-- m₀ and w₀ are the slices before the seed; the queue is w from h to t
pub record Filling (g : Grid) (seed k : ℕ) (m₀ w₀ : List ℕ) (h : ℕ) (m w : List ℕ) (t : ℕ) : Type 0 where
  pub head : h ≤ t
  pub start : get_or m seed 0 ≡ k
  pub cells : (j : ℕ) → j < count g → (get_or m j 0 ≡ get_or m₀ j 0) ⊎ Got g seed k m₀ m j
  pub queue : (q : ℕ) → q < t → (get_or w q 0 < count g) × (get_or m (get_or w q 0) 0 ≡ k)
  pub done : (j : ℕ) → j < count g → get_or m j 0 ≡ k → Waits h w t j ⊎ Done g m j
  pub room : vacant (count g) m + t ≤ count g
  pub map_length : length m ≡ length m₀
  pub work_length : length w ≡ length w₀
  pub map_rest : drop (count g) m ≡ drop (count g) m₀
  pub work_rest : drop (count g) w ≡ drop (count g) w₀

-- no codel has the next number yet
new_number : (g : Grid) (i k : ℕ) (m : List ℕ) → Part g i k m → k < unnumbered → (j : ℕ) → j < count g → get_or m j 0 ≢ k
new_number g i k m p small j h e = omega (arith, p.below j h (omega arith))

module _ (g : Grid) (seed k : ℕ) (m₀ w₀ : List ℕ) (p : Part g seed k m₀) (small : k < unnumbered) (inside : seed < count g) (free : get_or m₀ seed 0 ≡ unnumbered) where
  module _ (long : count g ≤ length m₀) (wide : count g ≤ length w₀) where
    here₀ : seed < length m₀
    here₀ = omega arith

    there₀ : 0 < length w₀
    there₀ = omega arith

    fill_start : Filling g seed k m₀ (set w₀ 0 seed) 0 (set m₀ seed k) (set w₀ 0 seed) 1
    fill_start = record {
      head = omega arith;
      start = get_or-set_same m₀ seed k 0 here₀;
      cells = λ j h.
          ⊎_elim
          (λ e. inr (record { was = ap (λ (x : ℕ). get_or m₀ x 0) e.0 ∙ free; is = e.1; path = subst (λ (x : ℕ). Joined g seed x) (sym e.0) here }))
          (λ e. inl e.1)
          (stored m₀ seed k j here₀);
      queue = λ q h.
          let z : q ≡ 0 = omega arith in
          rw z (rw (get_or-set_same w₀ 0 seed 0 there₀) (inside, get_or-set_same m₀ seed k 0 here₀));
      done = λ j h e.
          ⊎_elim
          (λ a. inl (0, le_refl 0, omega arith, get_or-set_same w₀ 0 seed 0 there₀ ∙ sym a.0))
          (λ a. absurd (new_number g seed k m₀ p small j h (sym a.1 ∙ e)))
          (stored m₀ seed k j here₀);
      room = omega (arith, tally_most unnumbered (count g) m₀, tally_set unnumbered (count g) m₀ seed k inside here₀ free (omega arith));
      map_length = length-set m₀ seed k;
      work_length = refl;
      map_rest = drop-set-lt (count g) m₀ seed k inside;
      work_rest = refl;
    }

  module _ (h : ℕ) (m w : List ℕ) (t : ℕ) (f : Filling g seed k m₀ w₀ h m w t) where
    -- a codel with the number k is joined to the seed
    path : (j : ℕ) → j < count g → get_or m j 0 ≡ k → Joined g seed j
    path j l e = ⊎_elim (λ a. absurd (new_number g seed k m₀ p small j l (sym a ∙ e))) (λ a. a.path) (f.cells j l)

    -- a codel without a number had none
    had_none : (j : ℕ) → j < count g → get_or m j 0 ≡ unnumbered → get_or m₀ j 0 ≡ unnumbered
    had_none j l e = ⊎_elim (λ a. sym a ∙ e) (λ a. a.was) (f.cells j l)

    module _ (m' w' : List ℕ) (t' : ℕ) (more : h < t) (s : Spread g k (get_or w h 0) 4 m w t m' w' t') where
      -- a number stays
      kept : (j : ℕ) → j < count g → get_or m j 0 ≡ k → get_or m' j 0 ≡ k
      kept j l e = ⊎_elim (λ a. a ∙ e) (λ a. a.is) (s.cells j l)

      some : (j : ℕ) → j < count g → get_or m j 0 ≢ unnumbered → get_or m' j 0 ≢ unnumbered
      some j l d e = ⊎_elim (λ a. d (sym a ∙ e)) (λ a. d a.was) (s.cells j l)

      got : (j : ℕ) → j < count g → New g k (get_or w h 0) m t m' w' t' j → Got g seed k m₀ m' j
      got j l a = record {
        was = had_none j l a.was;
        is = a.is;
        path = on (path (get_or w h 0) (f.queue h more).0 (f.queue h more).1) a.next a.colour;
      }

      cells : (j : ℕ) → j < count g → (get_or m' j 0 ≡ get_or m₀ j 0) ⊎ Got g seed k m₀ m' j
      cells j l =
          ⊎_elim
          (λ e. ⊎_elim (λ a. inl (e ∙ a)) (λ a. inr (record { was = a.was; is = e ∙ a.is; path = a.path })) (f.cells j l))
          (λ a. inr (got j l a))
          (s.cells j l)

      queue : (q : ℕ) → q < t' → (get_or w' q 0 < count g) × (get_or m' (get_or w' q 0) 0 ≡ k)
      queue q l =
          by_cases (dec_lt q t)
          (λ b. let a = f.queue q b in rw (s.old q b) (a.0, kept (get_or w q 0) a.0 a.1))
          (λ b. s.new q (omega arith) l)

      -- the codel at the head is done, and the others wait or are done as before
      done : (j : ℕ) → j < count g → get_or m' j 0 ≡ k → Waits (h + 1) w' t' j ⊎ Done g m' j
      done j l e =
          ⊎_elim
          (λ a.
          ⊎_elim
          (λ q.
          by_cases (ℕ_discrete q.0 h)
          (λ here.
          let at : get_or w h 0 ≡ j = sym (ap (λ (x : ℕ). get_or w x 0) here) ∙ q.3 in
          inr (λ i n colour.
          s.reach n.way (four g.cols n.way j i n.toward) i n.to
          (subst (λ (x : ℕ). Toward g.cols n.way x i) (sym at) n.toward)
          (ap g.colour at ∙ colour)))
          (λ other. inl (q.0, omega (arith, q.1), omega (arith, q.2, s.on), s.old q.0 q.2 ∙ q.3)))
          (λ d. inr (λ i n colour. some i n.to (d i n colour)))
          (f.done j l (sym a ∙ e)))
          (λ a. inl (a.at, omega (arith, a.from), a.until, a.stands))
          (s.cells j l)

      fill_turn : Filling g seed k m₀ w₀ (h + 1) m' w' t'
      fill_turn = record {
        head = omega (arith, s.on);
        start = kept seed inside f.start;
        cells = cells;
        queue = queue;
        done = done;
        room = s.room;
        map_length = s.map_length ∙ f.map_length;
        work_length = s.work_length ∙ f.work_length;
        map_rest = s.map_rest ∙ f.map_rest;
        work_rest = s.work_rest ∙ f.work_rest;
      }

    -- the queue is empty
    module _ (empty : t ≤ h) where
      -- the neighbours of a new codel that have its colour are new
      spread : (j l : ℕ) → Adjacent g j l → g.colour j ≡ g.colour l → Got g seed k m₀ m j → get_or m j 0 ≡ get_or m l 0
      spread j l n colour a =
          let some : get_or m l 0 ≢ unnumbered = ⊎_elim (λ q. absurd (omega (arith, q.1, q.2))) (λ d. d l n colour) (f.done j n.from a.is) in
          ⊎_elim
          (λ e. absurd (some (e ∙ sym (p.even j l n colour) ∙ a.was)))
          (λ b. a.is ∙ sym b.is)
          (f.cells l n.to)

      even : (j l : ℕ) → Adjacent g j l → g.colour j ≡ g.colour l → get_or m j 0 ≡ get_or m l 0
      even j l n colour =
          ⊎_elim
          (λ a.
          ⊎_elim
          (λ b. a ∙ p.even j l n colour ∙ sym b)
          (λ b. sym (spread l j (next_back n) (sym colour) b))
          (f.cells l n.to))
          (λ a. spread j l n colour a)
          (f.cells j n.from)

      one : (j l : ℕ) → j < count g → l < count g → get_or m j 0 ≢ unnumbered → get_or m j 0 ≡ get_or m l 0 → Joined g j l
      one j l hj hl d e =
          ⊎_elim
          (λ a.
          ⊎_elim
          (λ b. p.one j l hj hl (λ z. d (a ∙ z)) (sym a ∙ e ∙ b))
          (λ b. absurd (new_number g seed k m₀ p small j hj (sym a ∙ e ∙ b.is)))
          (f.cells l hl))
          (λ a. joined_trans (joined_sym a.path) (path l hl (sym e ∙ a.is)))
          (f.cells j hj)

      -- a number that was there is there
      stays : (j : ℕ) → j < count g → get_or m₀ j 0 ≢ unnumbered → get_or m j 0 ≡ get_or m₀ j 0
      stays j h d = ⊎_elim (λ a. a) (λ a. absurd (d a.was)) (f.cells j h)

      earlier : (i r : ℕ) → i ≤ count g → r < k → Earlier m₀ i r → Earlier m i r
      earlier i r h less (j, l, e) = (j, l, stays j (omega arith) (omega arith) ∙ e)

      used : (r : ℕ) → r < k + 1 → Earlier m (seed + 1) r
      used r h =
          by_cases (dec_lt r k)
          (λ less. let (j, l, e) = earlier seed r (omega arith) less (p.used r less) in (j, omega arith, e))
          (λ last. (seed, omega arith, f.start ∙ omega arith))

      order : (j : ℕ) → j < count g → get_or m j 0 ≢ unnumbered → (r : ℕ) → r < get_or m j 0 → Earlier m j r
      order j h d r less =
          ⊎_elim
          (λ a.
          let d₀ : get_or m₀ j 0 ≢ unnumbered = λ z. d (a ∙ z) in
          earlier j r (omega arith) (omega (arith, p.below j h d₀)) (p.order j h d₀ r (omega arith)))
          (λ a.
          let (i, l, e) = earlier seed r (omega arith) (omega (arith, a.is)) (p.used r (omega (arith, a.is))) in
          by_cases (dec_lt j seed) (λ b. absurd (p.passed j b a.was)) (λ b. (i, omega arith, e)))
          (f.cells j h)

      fill_end : Part g (seed + 1) (k + 1) m
      fill_end = record {
        few = omega (arith, p.few);
        passed = λ j h.
            by_cases (dec_lt j seed)
            (λ b z. p.passed j b (had_none j (omega arith) z))
            (λ b z. let at : j ≡ seed = omega arith in omega (arith, f.start, ap (λ (x : ℕ). get_or m x 0) at));
        below = λ j h d.
            ⊎_elim
            (λ a. omega (arith, p.below j h (λ z. d (a ∙ z))))
            (λ a. omega (arith, a.is))
            (f.cells j h);
        even = even;
        one = one;
        used = used;
        order = order;
      }

-- the seed's cell before the seed was numbered
unset : (m : List ℕ) (seed k : ℕ) → get_or m seed 0 ≡ unnumbered → set (set m seed k) seed unnumbered ≡ m
unset m seed k free = set-set m seed k unnumbered ∙ ap (set m seed) (sym free) ∙ set-get_or m seed 0

-- what is known where a region's first codel is found: m₀ and w₀ are the slices there
pub record Seeded (g : Grid) (seed k : ℕ) (m₀ w₀ : List ℕ) : Type 0 where
  pub part : Part g seed k m₀
  pub small : k < unnumbered
  pub inside : seed < count g
  pub free : get_or m₀ seed 0 ≡ unnumbered
  pub long : count g ≤ length m₀
  pub wide : count g ≤ length w₀

-- the loop's invariant: m₁ and w₁ are the slices where the loop begins, with the seed numbered and queued
abbrev pub Flooding : Grid → ℕ → ℕ → List ℕ → List ℕ → ℕ → List ℕ → List ℕ → ℕ → Type 0
Flooding g seed k m₁ w₁ h m w t = Filling g seed k (set m₁ seed unnumbered) w₁ h m w t

pub flood_start : {g : Grid} {seed k : ℕ} {m₀ w₀ : List ℕ} → Seeded g seed k m₀ w₀
    → Flooding g seed k (set m₀ seed k) (set w₀ 0 seed) 0 (set m₀ seed k) (set w₀ 0 seed) 1
flood_start {g} {seed} {k} {m₀} {w₀} s =
    rw (unset m₀ seed k s.free) (fill_start g seed k m₀ w₀ s.part s.small s.inside s.free s.long s.wide)

module _ {g : Grid} {seed k : ℕ} {m₀ w₀ : List ℕ} (s : Seeded g seed k m₀ w₀) {h : ℕ} {m w : List ℕ} {t : ℕ} (f : Flooding g seed k (set m₀ seed k) (set w₀ 0 seed) h m w t) where
  filling : Filling g seed k m₀ (set w₀ 0 seed) h m w t
  filling = rw (unset m₀ seed k s.free) at f

  pub flood_turn : {m' w' : List ℕ} {t' : ℕ} → h < t → Spread g k (get_or w h 0) 4 m w t m' w' t'
      → Flooding g seed k (set m₀ seed k) (set w₀ 0 seed) (h + 1) m' w' t'
  flood_turn {m'} {w'} {t'} more x =
      rw (unset m₀ seed k s.free)
      (fill_turn g seed k m₀ (set w₀ 0 seed) s.part s.small s.inside s.free h m w t filling m' w' t' more x)

  pub flood_end : t ≤ h → Numbered g (seed + 1) (k + 1) m₀ w₀ m w
  flood_end empty = record {
    part = fill_end g seed k m₀ (set w₀ 0 seed) s.part s.small s.inside s.free h m w t filling empty;
    map_rest = filling.map_rest;
    work_rest = filling.work_rest ∙ drop-set-lt (count g) w₀ 0 seed (omega (arith, s.inside));
  }
