-- Two calls from C, one after the other, from what the two promise; nothing of how either is met is used. Demand 3: a run of
-- what was built from a picture is not refused, and it follows the picture; rule 18.1: the exits that are kept of it are its moves; rule 17.2: what is
-- counted of it are the regions that its moves enter. Rule 15.6: a P6 file that was written is read back the same. Assumes nothing.
use mathlib.Core.Path.{◌≡◌, sym, ap, ap₂, subst, ◌∙◌}
use mathlib.Core.List.{List, [], ◌∷◌, ◌++◌}
use Prim.Native.Nat.{ℕ, ◌-◌, ◌<◌, ◌≤◌}
use native.Mathlib.Omega.{arith}
use lib.ListN.{length, get_or, take, drop}
use Rattle.base.specs.Counting.{count}
use Rattle.base.specs.Lent.{lent}
use Rattle.base.specs.Numbers.{Numbers, number_of, values_of}
use Rattle.picture.specs.Picture.{Picture, codels}
use Rattle.std.specs.Prelude.{Result, Ok, Err}
use Rattle.base.specs.declared.refusal.Refusal.{Refusal}
use Rattle.base.proofs.RefusalLaws.{number_some}
use Rattle.cfg.specs.Build as building
use Rattle.machine.specs.Machine.{Asks, given_of}
use Rattle.machine.specs.Place.{End}
use Rattle.machine.specs.Held.{Slices, room_of}
use Rattle.interpreter.specs.declared.Ended.{Ended}
use Rattle.interpreter.specs.Outcome as running
use Rattle.interpreter.specs.Outcome.{ended_of, result_cells, result_of, slices_of}
use Rattle.visits.specs.declared.Visited.{Visited}
use Rattle.visits.specs.Visits.{unvisited_of}
use Rattle.visits.specs.Outcome as visiting
use Rattle.visits.proofs.Only.{visits_finished}
use Rattle.piet.specs.Follows.{entered_by, Follows}
use Rattle.piet.specs.Decoded.{onto}
use Rattle.piet.proofs.BuiltTables.{picture_follows, picture_moves, picture_visits}
use Rattle.netpbm.specs.Reads as reading
use Rattle.netpbm.specs.Writes as writing
use Rattle.netpbm.proofs.RoundTrip.{round_trip}
use Rattle.piet_c.specs.Exported.{Exported, short, made}
use Rattle.piet_c.specs.Calls.{BuildCall, TableRoom, RunCall, Recording, HistoryCall, VisitsCall, ReadP6Call, WriteP6Call}

-- where 0 was returned the call was made, and its answer's number is 0
done_made : {need : ℕ} {S A : Type 0} {numbered : A → Numbers} {Leaves : A → S → Type 0} {before after : S} {a a' : List ℕ}
    → Exported need (λ (n : Numbers) (s : S). (r : A) × (numbered r ≡ n) × Leaves r s) before a 0 after a'
    → (r : A) × (0 ≡ number_of (numbered r)) × (a' ≡ lent (values_of (numbered r)) a) × Leaves r after
done_made (short h e f g) = absurd (omega arith)
done_made {a = a} (made n h (r, e, o) z w) =
    (r, z ∙ sym (ap number_of e), w ∙ sym (ap (λ (x : Numbers). lent (values_of x) a) e), o)

-- where 0 was returned the answer's first cell is the count of regions
counted : (r : Result ℕ Refusal) (a : List ℕ) {a' : List ℕ} → 0 ≡ number_of (building.numbered r) → a' ≡ lent (values_of (building.numbered r)) a
    → r ≡ Ok (get_or a' 0 0)
unfolding lent
counted (Ok n) a e w = ap Ok (sym (ap (λ (x : List ℕ). get_or x 0 0) w))
counted (Err r) a e w = absurd (number_some r (sym e))

-- so the table stands in the slices
table : {edition : ℕ} {p : Picture} {s s' : TableRoom} {a a' : List ℕ} → Exported 2 (BuildCall edition p s) s a 0 s' a'
    → building.Outcome edition p s.map s.rows s.exits s.work (Ok (get_or a' 0 0)) s'.map s'.rows s'.exits s'.work
table {a = a} x = let m = done_made x in rw (sym (counted m.0 a m.1 m.2)) m.3

-- `piet_build` returned 0, and `piet_run` was called with the first cell of its answer as n, on the rows and exits that it
-- wrote, in the same edition, with an answer that has room for a run's
pub c_picture_follows : (q : Asks) {p : Picture} {s s' : TableRoom} {a a' : List ℕ} → Exported 2 (BuildCall q.edition p s) s a 0 s' a'
    → (l : Slices) {b b' : List ℕ} {r : ℕ} {l' : Slices} → result_cells ≤ length b
    → Exported result_cells (RunCall (get_or a' 0 0) s'.rows s'.exits q l) l b r l' b'
    → (e : End) × (r ≡ 0) × (b' ≡ lent (result_of (ended_of e)) b) × Follows p (take (codels p) s'.map) (given_of q) (room_of l) e
    × (e.at.region < get_or a' 0 0) × (l' ≡ slices_of l e.at.store)
unfolding running.numbered
c_picture_follows q o l h (short i e f w) = absurd (omega arith)
c_picture_follows q o l {b} h (made k i (x, e, c) z w) =
    let t = picture_follows q (table o) l c in
    let f = sym e ∙ ap running.numbered t.1 in
    (t.0, z ∙ ap number_of f, w ∙ ap (λ (x : Numbers). lent (values_of x) b) f, t.2, t.3, t.4)

-- the same of `piet_history`: the exits in the cells, read as moves, are the moves, but for the latest where there are fewer cells
pub c_picture_moves : (q : Asks) {p : Picture} {s s' : TableRoom} {a a' : List ℕ} → Exported 2 (BuildCall q.edition p s) s a 0 s' a'
    → (l : Recording) {b b' : List ℕ} {r : ℕ} {l' : Recording} → result_cells ≤ length b
    → Exported result_cells (HistoryCall (get_or a' 0 0) s'.rows s'.exits q l) l b r l' b'
    → (e : End) × (r ≡ 0) × (b' ≡ lent (result_of (ended_of e)) b) × (F : Follows p (take (codels p) s'.map) (given_of q) (room_of l.run) e)
    × (onto 0 (take e.at.steps l'.taken) [] ≡ drop (e.at.steps - length l.taken) F.history)
unfolding running.numbered
c_picture_moves q o l h (short i e f w) = absurd (omega arith)
c_picture_moves q o l {b} h (made k i (x, e, c) z w) =
    let t = picture_moves q (table o) l.run l.taken c in
    let f = sym e ∙ ap running.numbered t.1 in
    (t.0, z ∙ ap number_of f, w ∙ ap (λ (x : Numbers). lent (values_of x) b) f, t.2, t.3)

-- the same of `piet_visits`, where it returned 0: what it counted is how often the moves enter each region
pub c_picture_visits : (q : Asks) {p : Picture} {s s' : TableRoom} {a a' : List ℕ} → Exported 2 (BuildCall q.edition p s) s a 0 s' a'
    → (l : visiting.Lends) {b b' : List ℕ} {l' : visiting.Lends}
    → Exported visiting.visit_cells (VisitsCall (get_or a' 0 0) s'.rows s'.exits q l) l b 0 l' b'
    → (e : End) × (F : Follows p (take (codels p) s'.map) (given_of q) (room_of l.run) e)
    × (l' ≡ visiting.done_with (get_or a' 0 0) s'.rows s'.exits q l (entered_by F.history))
    × (b' ≡ lent (result_of (ended_of e) ++ (length (unvisited_of (get_or a' 0 0) s'.rows (λ r. count r (entered_by F.history))) ∷ [])) b)
unfolding visiting.numbered
c_picture_visits q {s' = s'} {a' = a'} o l {b} {l' = l'} v =
    let n = get_or a' 0 0 in
    let m = done_made v in
    let f = visits_finished n s'.rows s'.exits q l m.3 m.1 in
    let t = picture_visits q (table o) l (subst (λ (r : Result Visited Refusal). visiting.Outcome n s'.rows s'.exits q l r l') f.1 m.3) in (
      t.0,
      t.2,
      t.3,
      m.2
          ∙ ap (λ (r : Result Visited Refusal). lent (values_of (visiting.numbered r)) b) f.1
          ∙ ap₂ (λ (e : Ended) (u : ℕ). lent (result_of e ++ (u ∷ [])) b) t.1 t.4,
    )

-- where 0 was returned the answer's first cell is the length of the file
measured : (r : Result ℕ Refusal) (a : List ℕ) {a' : List ℕ} → 0 ≡ number_of (writing.numbered r) → a' ≡ lent (values_of (writing.numbered r)) a
    → r ≡ Ok (get_or a' 0 0)
unfolding lent
measured (Ok n) a e w = ap Ok (sym (ap (λ (x : List ℕ). get_or x 0 0) w))
measured (Err r) a e w = absurd (number_some r (sym e))

-- so the file stands at the start of what was lent
file_written : {pixels : List ℕ} {height width : ℕ} {before after a a' : List ℕ} → Exported 1 (WriteP6Call pixels height width before) before a 0 after a'
    → writing.Outcome pixels height width before (Ok (get_or a' 0 0)) after
file_written {a = a} x = let m = done_made x in rw (sym (measured m.0 a m.1 m.2)) m.3

-- `piet_write_p6` returned 0, and `piet_read_p6` was given as many of the bytes that it wrote as the first cell of its answer
-- says, room for the pixels, and an answer of two cells or more: 0 again, the same pixels, the same height and width
pub c_p6_comes_back : {pixels : List ℕ} {height width : ℕ} {before after a a' : List ℕ}
    → Exported 1 (WriteP6Call pixels height width before) before a 0 after a'
    → {lends leaves b b' : List ℕ} {r : ℕ} → length pixels ≤ length lends → 2 ≤ length b
    → Exported 2 (ReadP6Call (take (get_or a' 0 0) after) lends) lends b r leaves b'
    → (r ≡ 0) × (leaves ≡ lent pixels lends) × (b' ≡ lent (height ∷ width ∷ []) b)
c_p6_comes_back o room h (short i e f w) = absurd (omega arith)
c_p6_comes_back o {b = b} room h (made k i (x, e, q) z w) =
    let t = round_trip (file_written o) room q in
    let f = sym e ∙ ap reading.numbered t.0 in
    (z ∙ ap number_of f, t.1, w ∙ ap (λ (x : Numbers). lent (values_of x) b) f)
