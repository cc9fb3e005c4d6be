-- What a run of a job's picture leaves can be printed, each region's label too, and what is printed is its end. Assumes nothing.
use mathlib.Core.Path.{◌≡◌, refl, sym, ap, ◌∙◌}
use mathlib.Core.List.{List, [], ◌∷◌}
use Prim.Native.Nat.{ℕ, zero, suc, ◌*◌, ◌/◌, ◌%◌, ◌<◌, ◌≤◌}
use native.Mathlib.Nat.{not-suc-le-zero, le_of_suc-le-suc}
use native.Mathlib.Omega.{arith}
use borrow.Author.Tests.{lt-ltb, le-ltb}
use lib.IntN.{pos}
use lib.ListN.{length, get_or, take, replicate}
use lib.Seq.{get_or-take}
use Rattle.base.specs.Edition.{rust_number}
use Rattle.base.specs.Numbers.{numbers}
use Rattle.base.proofs.Tests.{by_size}
use Rattle.picture.specs.Picture.{Picture, cols_of, codels, codel_colour}
use Rattle.picture.proofs.Codels.{inside_of, row_in, col_in}
use Rattle.region.specs.Grid.{grid_of}
use Rattle.region.specs.Rows.{Row}
use Rattle.region.proofs.MapLaws.{map_few}
use Rattle.table.specs.Layout.{row_cell, rows_room, colour_field, row_field, column_field, field_at, row_at}
use Rattle.table.proofs.Cells as cells
use Rattle.cfg.specs.Build.{legal_first, Enough}
use Rattle.cfg.proofs.Refusing as building
use Rattle.machine.specs.Held.{Slices, room_of}
use Rattle.machine.specs.Place.{End}
use Rattle.interpreter.specs.Outcome.{slices_of, ended_of}
use Rattle.piet.specs.RunPicture.{Lends, lends, asked_picture, RanPicture}
use Rattle.piet.specs.RunPicture as running
use Rattle.piet.proofs.Refusing as picture
use Rattle.piet.proofs.Seeing.{legal_under}
use Rattle.job.specs.Encoding.{Content}
use Rattle.answer.specs.Program.{asked_of, refusal_of, run_room, Ran, Labels}
use Rattle.answer.specs.Answer.{end_text}
use Rattle.answer.specs.Printing.{HasLabel, label_in, lines_of, Printable}
use Rattle.answer.proofs.Slices.{stack_back, stack_few, outs_back, outs_few}

-- the room that the run program lends
pub record Sized (l : Lends) : Type 0 where
  pub colours : length l.colours ≡ 512
  pub map : length l.map ≡ 512
  pub rows : length l.rows ≡ 2560
  pub exits : length l.exits ≡ 4096
  pub work : length l.work ≡ 512
  pub stack : length l.run.stack ≡ 256
  pub kinds : length l.run.kinds ≡ 256
  pub values : length l.run.values ≡ 256

-- what it lends, before a run
abbrev pub fresh : Lends
fresh =
    lends (replicate 512 0) (replicate 512 0) (replicate 2560 0) (replicate 4096 0) (replicate 512 0) (replicate 256 (pos 0)) (replicate 256 0)
    (replicate 256 (pos 0))

pub fresh_sized : Sized fresh
fresh_sized = record { colours = refl; map = refl; rows = refl; exits = refl; work = refl; stack = refl; kinds = refl; values = refl }

pub same_refusal : (c : Content) {l : Lends} → Sized l → running.refusal_of (asked_of c) l ≡ refusal_of c
same_refusal c s = rw (s.colours, s.map, s.rows, s.exits, s.work)

pub same_room : {l : Lends} → Sized l → room_of l.run ≡ run_room
same_room s = rw (s.stack, s.kinds, s.values)

-- no colour is above 19 where the scan finds none
legal_at : (cs : List ℕ) → length cs ≤ legal_first cs → (i : ℕ) → get_or cs i 0 ≤ 19
unfolding legal_first
legal_at [] h i = omega arith
legal_at (x ∷ cs) h zero = by_size 19 x (λ l. absurd (not-suc-le-zero (rw (lt-ltb 19 x l) at h))) (λ l. l)
legal_at (x ∷ cs) h (suc i) =
    by_size 19 x (λ l. absurd (not-suc-le-zero (rw (lt-ltb 19 x l) at h))) (λ l. legal_at cs (le_of_suc-le-suc (rw (le-ltb 19 x l) at h)) i)

-- a picture that is not refused is sound, and there is room for its table
pub enough : (c : Content) → refusal_of c ≡ numbers 0 (0 ∷ 0 ∷ []) → Enough (asked_picture (asked_of c)) 512 2560 4096 512
enough c h =
    building.accepted rust_number (asked_picture (asked_of c)) 512 2560 4096 512 (0 ∷ 0 ∷ [])
    (sym (picture.accepted (asked_of c) fresh (0 ∷ 0 ∷ []) (sym (same_refusal c fresh_sized ∙ h))).builds)

module _ (c : Content) {l l' : Lends} {e : End} (s : Sized l) (s' : Sized l') (h : refusal_of c ≡ numbers 0 (0 ∷ 0 ∷ []))
    (R : RanPicture (asked_of c) l l' e) where
  abbrev p : Picture
  p = asked_picture (asked_of c)

  abbrev m : List ℕ
  m = take (codels p) l'.map

  -- a region's row, and its label
  module _ (r : ℕ) (inside : r < R.regions) where
    row : Row (grid_of p) p.codel (codels p) m r (row_at (take (rows_room (codels p)) l'.rows) r)
    row = R.table.builds.row r inside

    region_in : r < codels p
    region_in = omega (arith, inside, map_few (grid_of p) m R.regions R.table.builds.regions)

    cell : (k : ℕ) → k < 5 → field_at (take (rows_room (codels p)) l'.rows) r k ≡ field_at l'.rows r k
    cell k q = get_or-take (rows_room (codels p)) l'.rows (row_cell r k) 0 (cells.row_in (codels p) r k q region_in)

    colour_is : field_at l'.rows r colour_field ≡ codel_colour p row.first
    colour_is = sym (cell colour_field (omega arith)) ∙ row.colour

    row_is : field_at l'.rows r row_field ≡ row.first / cols_of p * p.codel
    row_is = sym (cell row_field (omega arith)) ∙ row.row

    column_is : field_at l'.rows r column_field ≡ row.first % cols_of p * p.codel
    column_is = sym (cell column_field (omega arith)) ∙ row.column

    pub has_label : HasLabel l'.rows r
    has_label =
        let E = enough c h in
        let S = E.sound in
        let i = inside_of S row.first row.is_first.inside in
        let a = row_in S _ _ i in
        let b = col_in S _ _ i in
        let high = S.not_high in
        let wide = S.not_wide in
        let few = S.few in
        let room = E.rows_in in
        record {
          few = omega (arith, region_in);
          there = omega (arith, region_in, s'.rows);
          legal = record {
            colour_in = rw colour_is (legal_at p.colours (legal_under c.pixels (asked_of c).setting) _);
            row_in = rw row_is (omega arith);
            column_in = rw column_is (omega arith);
          };
        }

    pub labelled : Labels p m r (label_in l'.rows r)
    labelled = record { first = row.first; is_first = row.is_first; is = rw (colour_is, row_is, column_is) }

  stack_is : l'.run.stack ≡ (slices_of l.run e.at.store).stack
  stack_is = ap (λ (x : Slices). x.stack) R.run

  kinds_are : l'.run.kinds ≡ (slices_of l.run e.at.store).kinds
  kinds_are = ap (λ (x : Slices). x.kinds) R.run

  values_are : l'.run.values ≡ (slices_of l.run e.at.store).values
  values_are = ap (λ (x : Slices). x.values) R.run

  shallow : length e.at.store.stack ≤ length l.run.stack
  shallow = stack_few (length l.run.stack) e.at.store.stack (sym (ap length stack_is) ∙ s'.stack ∙ sym s.stack)

  few : length e.at.store.outs ≤ length l.run.kinds
  few = outs_few (length l.run.kinds) e.at.store.outs (sym (ap length kinds_are) ∙ s'.kinds ∙ sym s.kinds)

  pub printable : (room : ℕ) → 16384 ≤ room → Printable room (ended_of e) l'.rows l'.run.stack l'.run.kinds l'.run.values
  printable room h = record {
    labelled = has_label e.at.region R.inside;
    fits = record {
      roomy = h;
      brief = omega arith;
      shallow = omega (arith, shallow, s.stack);
      held = omega (arith, shallow, s.stack, s'.stack);
      few = omega (arith, few, s.kinds);
      told = omega (arith, few, s.kinds, s'.kinds);
      given = omega (arith, few, s.kinds, s'.values);
    };
  }

  pub lines_are : lines_of (ended_of e) l'.rows l'.run.stack l'.run.kinds l'.run.values ≡ end_text e (label_in l'.rows e.at.region)
  lines_are =
      rw (
        stack_is,
        kinds_are,
        values_are,
        stack_back (length l.run.stack) e.at.store.stack,
        outs_back (length l.run.kinds) (length l.run.values) e.at.store.outs,
      )

  pub ran_so : Ran c m e
  ran_so = record {
    regions = R.regions;
    long = R.table.builds.map_long;
    numbered = R.table.builds.regions;
    follows = rw (same_room s) at R.follows;
  }
