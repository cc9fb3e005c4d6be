-- From the contract of `run_visits` to what is printed, where the table is that of a job's picture: its counts are those of the
-- picture's walk, and it refuses no more than the limit. Assumes nothing.
use mathlib.Core.Path.{◌≡◌, refl, sym, ap, ◌∙◌}
use mathlib.Core.Bool.{true, false, true≢false}
use mathlib.Core.List.{List, [], ◌∷◌}
use Prim.Native.Nat.{ℕ, ◌<◌, ◌≤◌}
use native.Mathlib.Omega.{arith}
use borrow.Author.Tests.{eq-eqb, eqb-true, le-ltb}
use lib.IntN.{pos}
use lib.ListN.{length, get_or, take, replicate, length-take}
use lib.Seq.{get_or-take}
use Rattle.base.specs.Counting.{count}
use Rattle.base.specs.Edition.{rust_number, edition_of}
use Rattle.base.specs.Lent.{Put}
use Rattle.base.proofs.Clash.{clash}
use Rattle.picture.specs.Picture.{Picture, cols_of, codels}
use Rattle.picture.proofs.Codels.{cols_pos}
use Rattle.table.specs.Layout.{rows_room, exits_room}
use Rattle.region.specs.Grid.{grid_of}
use Rattle.region.proofs.MapLaws.{map_few}
use Rattle.cfg.specs.Build as building
use Rattle.cfg.specs.Build.{Enough}
use Rattle.machine.specs.Machine.{Asks}
use Rattle.interpreter.specs.Table.{valid_of}
use Rattle.std.specs.Prelude.{Ok, Err, Option, None}
use Rattle.base.specs.Refusal.{number_of_refusal}
use Rattle.base.specs.declared.refusal.Refusal.{Refusal}
use Rattle.base.specs.declared.refusal.Refusal.TheVariants.{Limit}
use Rattle.visits.specs.declared.Visited.{Visited}
use Rattle.visits.specs.Outcome as visiting
use Rattle.visits.specs.Outcome.{uncountable}
use Rattle.visits.proofs.Answering.{Tested, unknown, wrong, endless, short, right, test_call, refused, finished}
use Rattle.visits.proofs.Only.{not_refused}
use Rattle.visits.proofs.Starting.{counts_held}
use Rattle.piet.specs.declared.run_picture.Pictured.{Pictured}
use Rattle.piet.specs.Follows.{entered_by}
use Rattle.piet.specs.RunPicture as running
use Rattle.piet.specs.RunPicture.{Lends, asked_picture}
use Rattle.piet.proofs.BuiltTables.{valid, picture_visits}
use Rattle.piet.proofs.Refusing as picture
use Rattle.job.specs.declared.Parts.{Parts}
use Rattle.job.specs.Encoding.{Content, IsJob}
use Rattle.job.specs.Outcome.{LaidOut}
use Rattle.report.specs.Text.{refusal_text}
use Rattle.answer.specs.Program as program
use Rattle.answer.specs.Program.{asked_of, refusal_of, Prints}
use Rattle.answer.proofs.Ending.{Sized, same_refusal, enough}
use Rattle.answer.proofs.Answering.{refusal_is, prints}
use Rattle.shade.specs.Shade.{Shaded, uncounted, shaded}
use Rattle.shade.specs.Counted.{cells_text, PrintablePicture, still, still_said, JobTable, PutShaded}
use Rattle.shade.proofs.Texts.{same_text}

-- the refusals of a job go by no limit
still_refusal : (c : Content) → refusal_of (still_said c) ≡ refusal_of c
unfolding running.refusal running.refusals
still_refusal c = refl

pub laid_still : {job : List ℕ} {p : Parts} → LaidOut job p → LaidOut job (still p)
laid_still h = record { pixels = h.pixels; least = h.least; input = h.input; most = h.most; last = h.last }

-- a refusal is printed
pub prints_still : {job before after : List ℕ} {n : Refusal} {r : ℕ} (c : Content) → IsJob job c → {l l' : Lends} → Sized l
    → running.Outcome (asked_of (still_said c)) l (Err n) l' → Put before 0 (refusal_text (number_of_refusal n)) r after → Prints Shaded job before r after
prints_still c j s o p =
    let (k, v, e, h) = refusal_is o in
    prints (rw e (program.refused c j k v (sym (still_refusal c) ∙ sym (same_refusal (still_said c) s) ∙ h))) p

-- a run of a job's picture that finished left its table, of no step too
pub tabled : (c : Content) {l l' : Lends} {x : Pictured} → Sized l → running.Outcome (asked_of (still_said c)) l (Ok x) l'
    → JobTable c x.regions l'.map l'.rows l'.exits
tabled c {l} {l'} s (running.done none R) =
    record {
      none = sym (still_refusal c) ∙ sym (same_refusal (still_said c) s) ∙ none;
      lent = l;
      work = l'.work;
      accepted = (picture.accepted (asked_of (still_said c)) l (0 ∷ 0 ∷ []) (sym none)).builds;
      written = R.table;
    }

-- what is lent to the run that is counted
abbrev pub fresh : visiting.Lends
fresh = visiting.lends (replicate 256 (pos 0)) (replicate 256 0) (replicate 256 (pos 0)) (replicate 512 0) (replicate 512 0)

module _ {c : Content} {n : ℕ} {map rows exits : List ℕ} (T : JobTable c n map rows exits) where
  abbrev p : Picture
  p = asked_picture (asked_of c)

  abbrev a : Asks
  a = (asked_of c).asks

  room : Enough p 512 2560 4096 512
  room = enough c T.none

  few : n ≤ codels p
  few = map_few (grid_of p) (take (codels p) map) n T.written.builds.regions

  -- a codel's region, which the map's front has too, is one of the table's
  front : (i : ℕ) → i < codels p → get_or (take (codels p) map) i 0 ≡ get_or map i 0
  front i h = get_or-take (codels p) map i 0 h

  region_in : (i : ℕ) → i < codels p → get_or map i 0 < n
  region_in i h = omega (arith, front i h, T.written.builds.regions.below i h)

  -- the counts can be written
  pub printable : (size : ℕ) → 16384 ≤ size → PrintablePicture size map 512 c.height c.width c.codel
  printable size h =
      let S = room.sound in
      let all = room.map_in in record {
        not_high = S.not_high;
        not_wide = S.not_wide;
        sized = S.some;
        small = S.small;
        counts = record {
          some = cols_pos S;
          mapped = omega (arith, length-take (codels p) map, T.written.builds.map_long);
          counted = λ i k. omega (arith, region_in i k, few);
          roomy = omega arith;
        };
      }

  table_valid : valid_of (edition_of rust_number) n rows exits ≡ true
  table_valid = valid room.sound (long (rows_room (codels p)) rows T.written.builds.rows_long) (long (exits_room (codels p)) exits T.written.builds.exits_long) T.written
    where
      long : (k : ℕ) (x : List ℕ) → length (take k x) ≡ k → k ≤ length x
      long k x h = omega (arith, length-take k x)

  roomy : visiting.too_short n fresh ≡ false
  roomy = rw (le-ltb 512 n (omega (arith, few, room.map_in))) refl

  -- refused: the limit is too large, and 16 says so
  refused_limit : {k : Refusal} {l' : visiting.Lends} → visiting.Outcome n rows exits a fresh (Err k) l' → (c.limit ≡ uncountable) × (k ≡ Limit)
  refused_limit {k} o = let t = test_call n rows exits a fresh in go t.1
    where
      go : {i : Option Refusal} → Tested n rows exits a fresh i → (c.limit ≡ uncountable) × (k ≡ Limit)
      go (unknown u) = absurd (true≢false (sym u))
      go (wrong u v) = absurd (true≢false (sym table_valid ∙ v))
      go (endless u v m) = (eqb-true _ _ m, (let z = (refused n rows exits a fresh o (endless u v m)).0 in cc))
      go (short u v m s) = absurd (true≢false (sym s ∙ roomy))
      go (right u v m s) = let z = (finished n rows exits a fresh o (right u v m s)).0 in clash cc

  pub shows_refusal : {k : Refusal} {r : ℕ} {l' : visiting.Lends} {before after : List ℕ} → visiting.Outcome n rows exits a fresh (Err k) l'
      → Put before 0 (refusal_text (number_of_refusal k)) r after → PutShaded c before r after
  shows_refusal o put = let l = refused_limit o in record { text = _; shaded = uncounted l.0 (ap (λ (i : Refusal). refusal_text (number_of_refusal i)) l.1); put = put }

  -- finished: the cells have the counts of the picture's walk
  pub shows_counts : {v : Visited} {r : ℕ} {l' : visiting.Lends} {before after : List ℕ} → visiting.Outcome n rows exits a fresh (Ok v) l'
      → Put before 0 (cells_text map l'.visits (cols_of p) (codels p)) r after → PutShaded c before r after
  shows_counts {l' = l'} o put =
      let (x, _, F, left, _) = picture_visits a (building.done T.accepted T.written) fresh o in
      let entered = entered_by F.history in
      let held = ap (λ (l : visiting.Lends). l.visits) left in
      record {
        text = _;
        shaded = shaded (countable (not_refused n rows exits a fresh o)) (take (codels p) map) x
            (record { regions = n; long = T.written.builds.map_long; numbered = T.written.builds.regions; follows = F })
            (same_text p map (take (codels p) map) entered l'.visits (codels p)
            (λ i h. counts_held n entered fresh.visits held (get_or map i 0) (region_in i h) ∙ ap (λ (r : ℕ). count r entered) (sym (front i h))));
        put = put;
      }
    where
      countable : Tested n rows exits a fresh None → c.limit ≡ uncountable → ⊥
      countable (right u v m s) h = true≢false (sym (eq-eqb _ _ h) ∙ m)
