-- Demand 3: the run of a table built from a picture follows the picture.
--     step_moves, step_walks    a step is a move of the picture, and walks on
--     history_walks    the exits that a run takes are, read as moves, a walk of the picture
--     follows_from     what is left of a run, from where it stands after a history, follows the picture
--     follows          and so does the run from the start
--     follows_few      no more number lines are skipped than moves are made
--     onto_length, onto_entered    exits, read as moves, are as many, and enter the regions that the exits lead to
--     onto_first       the first of them are all but the latest moves
-- Assumes nothing.
use mathlib.Core.Path.{◌≡◌, refl, sym, ap, subst, ◌∙◌}
use mathlib.Core.Bool.{true, false, true≢false}
use mathlib.Core.List.{List, [], ◌∷◌, ◌++◌, map, append-nil, append_assoc, reverse-cons}
use mathlib.Core.Logic.{◌↔◌, ◌⊎◌, inl, inr}
use Prim.Native.Nat.{ℕ, zero, suc, ◌+◌, ◌-◌, ◌<◌, ◌≤◌}
use native.Mathlib.Numerals.{add-one}
use native.Mathlib.Omega.{arith}
use native.Mathlib.Nat.{zero-div, zero-mod, zero-mul, zero-add}
use lib.ListN.{length, get_or, take, drop}
use lib.Seq.{take-nil, drop-drop}
use Rattle.base.specs.declared.edition.Edition.{Edition}
use Rattle.flow.specs.declared.PointerState.{PointerState}
use Rattle.flow.specs.Pointer.{Valid}
use Rattle.text.specs.declared.number.Reason.{Reason}
use Rattle.text.specs.declared.number.Reason.TheVariants.{Ended, Blank, NotNumber, OutOfRange}
use Rattle.machine.specs.declared.Stop.{Stop}
use Rattle.machine.specs.declared.Stop.TheVariants.{Completed, MaxSteps, NeedsInput}
use Rattle.machine.specs.Machine.{Given, RunRoom, Store, keeps, stops, op_numbered, exec, with_pointers}
use Rattle.machine.specs.Counts.{index_of, count_of, total, no_skips, times}
use Rattle.machine.specs.Skipped.{skipped}
use Rattle.machine.specs.Place.{Machine, End, start}
use Rattle.machine.proofs.Fitting.{fit_kept, fit_stops, not_completed, not_limit, not_wait}
use Rattle.machine.proofs.Facing.{exec_facing}
use Rattle.machine.proofs.Skipping.{exec_counts, exec_total, times_append, skipped_same}
use Rattle.piet.specs.Moves.{FirstOpen, NoMove}
use Rattle.piet.specs.Follows.{Move, entered_by, doing, Walk, starts, moves, reasons_on, Barred, Follows}
use Rattle.piet.specs.Decoded.{move_by, onto}
use Rattle.colour.specs.Palette.{white}
use Rattle.picture.specs.Picture.{Picture, cols_of, codels, codel_colour, Sound}
use Rattle.picture.proofs.Codels.{first_in}
use Rattle.table.specs.ExitNumber.{target_of, instruction_of}
use Rattle.region.specs.Tally.{tally}
use Rattle.cfg.specs.Nodes.{Node, entry}
use Rattle.cfg.proofs.NodeLaws.{joined_colour}
use Rattle.region.specs.Grid.{grid_of}
use Rattle.region.proofs.MapLaws.{map_low}
use Rattle.interpreter.specs.Table.{pointers_of}
use Rattle.interpreter.specs.Run.{Job, halts, exit_from, step_of, run_of, ran}
use Rattle.interpreter.specs.History.{Passes, stays, passes, History}
use Rattle.interpreter.proofs.Histories.{Kept, Halts, awaits, over, barred, step_kept, step_halts, run_history}
use Rattle.base.proofs.Clash.{clash}
use Rattle.piet.proofs.Bridge.{Tabled, Taken, none, some, taken}
use Rattle.piet.proofs.MoveLaws.{not_both}

-- a move that is kept keeps the pointers a state
pub keeps_valid : (p : Picture) (map : List ℕ) (g : Given) (room : RunRoom) (r : ℕ) (u : PointerState) (i : ℕ) (m : Store) {m' : Store}
    → doing p map g room r u i m ≡ keeps m' → Valid u → Valid m'.pointers
keeps_valid p map g room r u i m h v = exec_facing g (tally r (codels p) map) (op_numbered i) (with_pointers u m) v (fit_kept room _ h)

-- ---- what a walk counts

none_of : (why : Reason) → count_of why no_skips ≡ 0
unfolding index_of
none_of Ended = refl
none_of Blank = refl
none_of NotNumber = refl
none_of OutOfRange = refl

module _ (p : Picture) (map : List ℕ) (g : Given) (room : RunRoom) where
  walk_skips : {history : List Move} {r : ℕ} {m : Store} (w : Walk p map g room history r m) (why : Reason)
      → count_of why m.reading.skips ≡ times why (reasons_on p map g room w)
  unfolding reasons_on times
  walk_skips starts why = none_of why
  walk_skips (moves {r = r} {i = i} {m = m} {u = u} w f F k) why =
      let e = fit_kept room (exec g (tally r (codels p) map) (op_numbered i) (with_pointers u m)) k in
      let s = exec_counts g (tally r (codels p) map) (op_numbered i) (with_pointers u m) e why in
      omega (
        arith,
        s ∙ ap (λ (ws : List Reason). count_of why m.reading.skips + times why ws) (skipped_same g (op_numbered i) u m),
        walk_skips w why,
        times_append why (skipped g (op_numbered i) m) (reasons_on p map g room w),
      )

  walk_few : {history : List Move} {r : ℕ} {m : Store} → Walk p map g room history r m → total m.reading.skips ≤ length history
  walk_few starts = omega arith
  walk_few (moves {r = r} {i = i} {m = m} {u = u} w f F k) =
      let e = fit_kept room (exec g (tally r (codels p) map) (op_numbered i) (with_pointers u m)) k in
      omega (arith, walk_few w, exec_total g (tally r (codels p) map) (op_numbered i) (with_pointers u m) e)

  pub follows_few : {e : End} → Follows p map g room e → total e.at.store.reading.skips ≤ e.at.steps
  follows_few F = omega (arith, walk_few F.walk, F.counted)

-- ---- a run over the table walks the picture

-- as many moves as exits
pub onto_length : (r : ℕ) (exits : List ℕ) (history : List Move) → length (onto r exits history) ≡ length exits + length history
unfolding onto
onto_length r [] history = omega arith
onto_length r (x ∷ exits) history = omega (arith, onto_length (target_of x) exits (move_by r x ∷ history))

-- they enter the exits' targets
pub onto_entered : (r : ℕ) (exits : List ℕ) (history : List Move) → entered_by (onto r exits history) ≡ entered_by history ++ map target_of exits
unfolding onto
onto_entered r [] history = sym (append-nil (entered_by history))
onto_entered r (x ∷ exits) history =
    onto_entered (target_of x) exits (move_by r x ∷ history)
    ∙ ap (λ (l : List ℕ). 0 ∷ l ++ map target_of exits) (reverse-cons (target_of x) (map (λ (v : Move). v.to) history))
    ∙ append_assoc (entered_by history) (target_of x ∷ []) (map target_of exits)

-- what stood there before them stands there still
onto_onto : (r : ℕ) (exits : List ℕ) (history : List Move) → drop (length exits) (onto r exits history) ≡ history
unfolding onto
onto_onto r [] history = refl
onto_onto r (x ∷ exits) history =
    let all = onto (target_of x) exits (move_by r x ∷ history) in
    ap (λ (k : ℕ). drop k all) (sym (add-one (length exits)))
    ∙ sym (drop-drop 1 (length exits) all)
    ∙ ap (drop 1) (onto_onto (target_of x) exits (move_by r x ∷ history))

-- the first k exits are all but the latest moves
pub onto_first : (r : ℕ) (exits : List ℕ) (k : ℕ) (history : List Move) → onto r (take k exits) history ≡ drop (length exits - k) (onto r exits history)
unfolding onto
onto_first r [] k history = ap (λ (x : List ℕ). onto r x history) (take-nil k) ∙ ap (λ (i : ℕ). drop i history) (none k)
  where
    none : (k : ℕ) → 0 ≡ 0 - k
    none k = omega arith
onto_first r (x ∷ exits) zero history =
    sym (onto_onto r (x ∷ exits) history) ∙ ap (λ (i : ℕ). drop i (onto r (x ∷ exits) history)) (whole (length (x ∷ exits)))
  where
    whole : (n : ℕ) → n ≡ n - 0
    whole n = omega arith
onto_first r (x ∷ exits) (suc k) history =
    onto_first (target_of x) exits k (move_by r x ∷ history)
    ∙ ap (λ (i : ℕ). drop i (onto (target_of x) exits (move_by r x ∷ history))) (less (length exits))
  where
    less : (n : ℕ) → n - k ≡ suc n - suc k
    less n = omega arith

module _ {p : Picture} {map rows exits : List ℕ} {n : ℕ} (S : Sound p) (g : Given) (B : Tabled g.terms.edition p map rows exits n) (room : RunRoom) where
  abbrev edition : Edition
  edition = g.terms.edition

  abbrev job : Job
  job = record { rows = rows; exits = exits; given = g; room = room }

  -- where a run stands after a history: the picture is walked to there; it is a node, and numbered; the pointers are a state
  pub record Stands (history : List Move) (m : Machine) : Type 0 where
    pub walk : Walk p map g room history m.region m.store
    pub node : Node edition p map m.region
    pub inside : m.region < n
    pub valid : Valid m.store.pointers

  -- the exit that the run comes to there, as a move of the picture
  abbrev exit_taken : {history : List Move} {m : Machine} → Stands history m → Taken S B m.region m.store.pointers (exit_from job m)
  exit_taken {m = m} s = taken S B m.region m.store.pointers s.inside s.valid s.node

  -- the move that a step makes: it is the first open one, its instruction is kept, and it comes to such a place
  pub record Moves (m m' : Machine) : Type 0 where
    pub first : FirstOpen edition p map m.region m.store.pointers (target_of (exit_from job m)) (pointers_of (exit_from job m)) (instruction_of (exit_from job m))
    pub kept : doing p map g room m.region (pointers_of (exit_from job m)) (instruction_of (exit_from job m)) m.store ≡ keeps m'.store
    pub node : Node edition p map (target_of (exit_from job m))
    pub inside : target_of (exit_from job m) < n
    pub valid : Valid m'.store.pointers

  pub step_moves : {history : List Move} {m m' : Machine} → Stands history m → Kept job m m' → Moves m m'
  step_moves {m = m} {m'} s k = go (exit_taken s)
    where
      go : Taken S B m.region m.store.pointers (exit_from job m) → Moves m m'
      go (none z N) = absurd (true≢false (sym z ∙ k.some))
      go (some d F M t u) =
          let x = exit_from job m in
          let z : doing p map g room m.region (pointers_of x) (instruction_of x) m.store ≡ keeps m'.store = rw (B.size m.region s.inside) at k.store in
          record { first = F; kept = z; node = M; inside = t; valid = keeps_valid p map g room m.region (pointers_of x) (instruction_of x) m.store z u }

  -- one step more
  pub step_walks : {history : List Move} {m m' : Machine} → Stands history m → Kept job m m' → Stands (move_by m.region (exit_from job m) ∷ history) m'
  step_walks s k =
      let v = step_moves s k in
      record {
        walk = rw k.region (moves s.walk k.unawaited v.first v.kept);
        node = rw k.region v.node;
        inside = rw k.region v.inside;
        valid = v.valid;
      }

  -- the exits that a run takes are, read as moves, a walk of the picture
  pub history_walks : {history : List Move} {m m' : Machine} {taken : List ℕ} → Stands history m → Passes job m taken m'
      → Stands (onto m.region taken history) m'
  unfolding onto
  history_walks s stays = s
  history_walks {history} {m} {m'} s (passes {m' = next} {exits = rest} e q) =
      let k = step_kept job m next e in
      subst (λ (r : ℕ). Stands (onto r rest (move_by m.region (exit_from job m) ∷ history)) m') k.region (history_walks {history = move_by m.region (exit_from job m) ∷ history} (step_walks s k) q)

  -- a run follows the picture and ends at a region that is numbered
  abbrev Ends : End → Type 0
  Ends e = Follows p map g room e × (e.at.region < n)

  abbrev limit : ℕ
  limit = g.terms.limit

  -- it ends at the limit
  at_the_limit : (m : Machine) (history : List Move) → Stands history m → m.steps ≡ length history → m.steps ≡ limit
      → Ends (record { stop = MaxSteps; at = m })
  at_the_limit m history s c e = (
    record {
      history = history;
      walk = s.walk;
      counted = c;
      skips = walk_skips p map g room s.walk;
      within = omega arith;
      limited = (λ h. e, λ h. refl);
      awaited = (λ h. clash (cc), λ h. absurd (late h.0));
      completed = (λ h. clash (cc), λ h. absurd (late h.0));
      barred = λ h. absurd (h refl);
    },
    s.inside,
  )
    where
      late : m.steps < limit → ⊥
      late h = omega arith

  -- or below it, where the next step is not taken
  below_the_limit : (stop : Stop) (m : Machine) (history : List Move) → Stands history m → m.steps ≡ length history → m.steps < limit
      → Halts job m stop → Ends (record { stop = stop; at = m })
  below_the_limit stop m history s c below H = go H (exit_taken s)
    where
      short : m.steps ≡ limit → ⊥
      short h = omega arith

      here : (t : Stop) → (t ≡ MaxSteps → ⊥) → ((t ≡ NeedsInput) ↔ (m.store.reading.awaiting ≡ true))
          → ((t ≡ Completed) ↔ ((m.store.reading.awaiting ≡ false) × NoMove edition p map m.region m.store.pointers))
          → ((t ≡ NeedsInput → ⊥) → (t ≡ Completed → ⊥) → Barred p map g room m.region m.store t)
          → Ends (record { stop = t; at = m })
      here t x i j k = (
        record {
          history = history;
          walk = s.walk;
          counted = c;
          skips = walk_skips p map g room s.walk;
          within = omega arith;
          limited = (λ h. absurd (x h), λ h. absurd (short h));
          awaited = (λ h. (below, i.0 h), λ h. i.1 h.1);
          completed = (λ h. (below, (j.0 h).0, (j.0 h).1), λ h. j.1 (h.1, h.2));
          barred = λ y. k;
        },
        s.inside,
      )

      go : {t : Stop} → Halts job m t → Taken S B m.region m.store.pointers (exit_from job m) → Ends (record { stop = t; at = m })
      go (awaits f) T =
          here NeedsInput (λ h. clash (cc)) (λ h. f, λ h. refl) (λ h. clash (cc), λ h. absurd (true≢false (sym f ∙ h.0)))
          (λ y y'. absurd (y refl))
      go (over f q) (none z N) =
          here Completed (λ h. clash (cc)) (λ h. clash (cc), λ h. absurd (true≢false (sym h ∙ f))) (λ h. (f, N), λ h. refl)
          (λ y y'. absurd (y' refl))
      go (over f q) (some d F M t u) = absurd (true≢false (sym q ∙ d))
      go (barred f q h) (none z N) = absurd (true≢false (sym z ∙ q))
      go (barred {s = t} f q h) (some d F M low u) =
          let x = exit_from job m in
          let k = fit_stops room _ h in
          let z : doing p map g room m.region (pointers_of x) (instruction_of x) m.store ≡ stops t = rw (B.size m.region s.inside) at h in
          here t (not_limit k)
          (λ y. absurd (not_wait k y), λ y. absurd (true≢false (sym y ∙ f)))
          (λ y. absurd (not_completed k y), λ y. absurd (not_both S B.map_long s.valid y.1 F))
          (λ y y'. record { target = target_of x; pointers = pointers_of x; instruction = instruction_of x; next = F; unkept = z })

  -- the rest of a run, from where it stands after a history, follows the picture
  pub follows_from : (left : ℕ) (m : Machine) (history : List Move) → Stands history m → m.steps ≡ length history
      → m.steps + left ≡ limit → Ends (run_of job left m)
  follows_from left m history s c e = go H.why
    where
      H : History job left m (run_of job left m)
      H = run_history job left m

      end : End
      end = run_of job left m

      at : Stands (onto m.region H.exits history) end.at
      at = history_walks s H.passes

      counted : end.at.steps ≡ length (onto m.region H.exits history)
      counted = omega (arith, H.counted, onto_length m.region H.exits history)

      go : ((end.stop ≡ MaxSteps) × (length H.exits ≡ left)) ⊎ ((step_of job end.at ≡ halts end.stop) × (length H.exits < left))
          → Ends end
      go (inl (q, l)) =
          subst (λ (t : Stop). Ends (record { stop = t; at = end.at })) (sym q)
          (at_the_limit end.at (onto m.region H.exits history) at counted (omega (arith, H.counted)))
      go (inr (q, l)) =
          below_the_limit end.stop end.at (onto m.region H.exits history) at counted (omega (arith, H.counted)) (step_halts job end.at q)

  -- region 0 is a node where the picture does not begin white
  entry_node : (get_or p.colours 0 0 ≡ white → ⊥) → Node edition p map 0
  entry_node W = record {
    found = entry;
    coloured = λ w. W (first_colour ∙ joined_colour (B.regions.apart 0 w.codel (first_in S) w.inside (first_zero ∙ sym w.own)) ∙ w.colour);
  }
    where
      first_zero : get_or map 0 0 ≡ 0
      first_zero = omega (arith, map_low (grid_of p) map n B.regions 0 (first_in S))

      first_colour : get_or p.colours 0 0 ≡ codel_colour p 0
      first_colour = rw (zero-div (cols_of p), zero-mod (cols_of p), zero-mul p.codel, zero-mul p.width)

  -- the start, where the picture does not begin white
  pub stands_first : (get_or p.colours 0 0 ≡ white → ⊥) → Stands [] start
  stands_first W = record {
    walk = starts;
    node = entry_node W;
    inside = some_region (first_in S);
    valid = record { dp = omega arith; cc = omega arith };
  }
    where
      some_region : 0 < codels p → 0 < n
      some_region h = omega (arith, B.regions.below 0 h)

  -- the run from the start follows the picture
  pub follows : (get_or p.colours 0 0 ≡ white → ⊥) → Ends (ran job)
  follows W = follows_from limit start [] (stands_first W) refl (zero-add limit)
