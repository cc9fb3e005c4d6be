-- From a table built from a picture to the picture: what an exit says is what walking codels says. Assumes nothing.
use mathlib.Core.Path.{◌≡◌, refl, ap, subst, ◌∙◌}
use mathlib.Core.Bool.{Bool, true, false}
use mathlib.Core.List.{List}
use mathlib.Core.Logic.{◌⊎◌, inl, inr, ⊎_elim}
use Prim.Native.Nat.{ℕ, zero, suc, ◌+◌, ◌<◌}
use native.Mathlib.Omega.{arith}
use borrow.Author.Tests.{eqb-true, eqb-false, eq-eqb, ne_eqb}
use lib.Dec.{eqb}
use lib.ListN.{length}
use Rattle.base.specs.declared.edition.Edition.{Edition}
use Rattle.flow.specs.declared.PointerState.{PointerState}
use Rattle.flow.specs.Pointer.{Valid, state_number, of_number, attempt_of}
use Rattle.flow.proofs.Order.{of_number_lem, number_small, valid_attempt}
use Rattle.piet.specs.Moves.{ShutBefore, FirstOpen, NoMove, all_shut, lost_first}
use Rattle.picture.specs.Picture.{Picture, codels, Sound}
use Rattle.table.specs.Layout.{size_field, field_at, exit_at}
use Rattle.table.specs.ExitNumber.{exit_number, target_of, instruction_of, lost_slide}
use Rattle.table.proofs.Exits.{target_back, state_back, instruction_back}
use Rattle.exit.specs.Opens.{Opens, Stuck, Shut}
use Rattle.cfg.specs.Nodes.{Found, Node}
use Rattle.cfg.specs.Table.{Exit, no_node, shut, stuck, leads}
use Rattle.region.specs.Region.{IsMap}
use Rattle.region.specs.Tally.{tally}
use Rattle.cfg.proofs.Leads.{opens_leads, open_fits}
use Rattle.region.specs.Grid.{grid_of}
use Rattle.region.proofs.MapLaws.{map_few}
use Rattle.interpreter.specs.Table.{tried, open_from, exit_of, ends, pointers_of}

-- what a run reads of a picture's table
pub record Tabled (e : Edition) (p : Picture) (map rows exits : List ℕ) (n : ℕ) : Type 0 where
  pub map_long : length map ≡ codels p
  pub regions : IsMap (grid_of p) map n
  pub size : (r : ℕ) → r < n → field_at rows r size_field ≡ tally r (codels p) map
  pub exit : (r s : ℕ) → r < n → s < 8 → Exit e p map r (of_number s) (exit_at exits r s)

module _ {e : Edition} {p : Picture} {map rows exits : List ℕ} {n : ℕ} (S : Sound p) (B : Tabled e p map rows exits n) where
  -- what an exit to go through says
  pub record OpenExit (r : ℕ) (q : PointerState) (x : ℕ) : Type 0 where
    pub opens : Opens e p map r q (target_of x) (pointers_of x) (instruction_of x)
    pub node : Node e p map (target_of x)
    pub low : target_of x < n
    pub valid : Valid (pointers_of x)
    pub some : x ≡ 0 → ⊥
    pub goes : ends x ≡ false

  -- an open exit says where it leads
  opened : {r target i : ℕ} {q u : PointerState} → Found e p map r → Valid q → Opens e p map r q target u i → OpenExit r q (exit_number target (state_number u) i)
  opened {target = target} {i = i} {u = u} f v o =
      let l = opens_leads S B.regions B.map_long f v o in
      let top = (open_fits S B.regions B.map_long f v o).0 in
      let h : target < 65536 = omega (arith, l.low, map_few (grid_of p) map n B.regions, S.few) in
      let k = number_small u l.valid in
      let t = target_back target (state_number u) i h k in
      let s : pointers_of (exit_number target (state_number u) i) ≡ u = ap of_number (state_back target (state_number u) i h k) ∙ of_number_lem u l.valid in
      record {
        opens = rw (t, s, instruction_back target (state_number u) i h k) o;
        node = rw t l.node;
        low = rw t l.low;
        valid = rw s l.valid;
        some = λ z. omega arith;
        goes = rw (ne_eqb (exit_number target (state_number u) i) 0 (λ z. omega arith), ne_eqb (exit_number target (state_number u) i) lost_slide (λ z. omega arith));
      }

  -- what an exit of a node says
  pub data Says (r : ℕ) (q : PointerState) (x : ℕ) : Type 0 where
    passed_over : x ≡ 0 → Shut e p map r q → Says r q x
    lost-slide : x ≡ lost_slide → Stuck p map r q e → Says r q x
    open_exit : OpenExit r q x → Says r q x

  says : {r x : ℕ} {q : PointerState} → Valid q → Node e p map r → Exit e p map r q x → Says r q x
  says v N (no_node a) = absurd (a N)
  says v N (shut a s) = passed_over refl s
  says v N (stuck a s) = lost-slide refl s
  says v N (leads a o) = open_exit (opened N.found v o)

  pub exit_says : (r : ℕ) (q : PointerState) → r < n → Valid q → Node e p map r → Says r q (exit_at exits r (state_number q))
  exit_says r q h v N =
      says v N (subst (λ (u : PointerState). Exit e p map r u (exit_at exits r (state_number q))) (of_number_lem q v) (B.exit r (state_number q) h (number_small q v)))

  -- the exit taken is that of the first open attempt, where no lost slide of edition 2 comes before it
  pub data Taken (r : ℕ) (q : PointerState) (x : ℕ) : Type 0 where
    none : ends x ≡ true → NoMove e p map r q → Taken r q x
    some : ends x ≡ false → FirstOpen e p map r q (target_of x) (pointers_of x) (instruction_of x) → Node e p map (target_of x) → target_of x < n
        → Valid (pointers_of x) → Taken r q x

  module _ (r : ℕ) (q : PointerState) (h : r < n) (v : Valid q) (N : Node e p map r) where
    last_or : (j k : ℕ) → j < suc k → (j < k) ⊎ (j ≡ k)
    last_or j k l = go (eqb j k) refl
      where
        go : (b : Bool) → eqb j k ≡ b → (j < k) ⊎ (j ≡ k)
        go true e = inr (eqb-true j k e)
        go false e = let d = eqb-false j k e in inl (omega arith)

    -- what is taken of the attempts from the k-th on, by what the k-th says
    taken_at : (left k : ℕ) → k < 8 → ShutBefore e p map r q k → (ShutBefore e p map r q (suc k) → Taken r q (open_from exits r q left (suc k)))
        → Says r (attempt_of q k) (tried exits r q k) → Taken r q (open_from exits r q (suc left) k)
    unfolding open_from
    taken_at left k few before on (passed_over z s) =
        rw (eq-eqb (tried exits r q k) 0 z) (on (λ j l. ⊎_elim (λ (m : j < k). before j m) (λ (m : j ≡ k). rw m s) (last_or j k l)))
    taken_at left k few before on (lost-slide z s) =
        rw (ne_eqb (tried exits r q k) 0 (λ y. omega arith)) (none (rw z refl) (lost_first k few s before))
    taken_at left k few before on (open_exit z) =
        rw (ne_eqb (tried exits r q k) 0 z.some)
        (some z.goes (record { attempt = k; few = few; opens = z.opens; before = before }) z.node z.low z.valid)

    taken_from : (left k : ℕ) → left + k ≡ 8 → ShutBefore e p map r q k → Taken r q (open_from exits r q left k)
    unfolding open_from
    taken_from zero k l before = none refl (all_shut (λ j m. before j (omega arith)))
    taken_from (suc left) k l before =
        taken_at left k (omega arith) before (taken_from left (suc k) (omega arith)) (exit_says r (attempt_of q k) h (valid_attempt q k v) N)

    pub taken : Taken r q (exit_of exits r q)
    taken = taken_from 8 0 refl (λ j l. absurd (nothing j l))
      where
        nothing : (j : ℕ) → j < 0 → ⊥
        nothing j l = omega arith
