-- Demand 3 settles a run: walks of one length make the same moves, and what a picture, what is given and a limit allow is one end.
-- Assumes nothing.
use mathlib.Core.Path.{◌≡◌, refl, sym, ap, subst, ◌∙◌}
use mathlib.Core.Bool.{false, true≢false}
use mathlib.Core.List.{List, ◌∷◌}
use mathlib.Core.Logic.{by_cases}
use Prim.Native.Nat.{ℕ, ◌<◌}
use native.Mathlib.Omega.{arith}
use native.Mathlib.Decide.{dec_lt}
use lib.ListN.{length}
use lib.Seq.{ext_get_or}
use Rattle.base.specs.declared.edition.Edition.{Edition}
use Rattle.flow.specs.declared.PointerState.{PointerState}
use Rattle.flow.specs.Pointer.{Valid, attempt_of}
use Rattle.flow.proofs.Order.{valid_attempt}
use Rattle.machine.specs.declared.Stop.{Stop}
use Rattle.machine.specs.declared.Stop.TheVariants.{Completed, MaxSteps, NeedsInput, StackFull, OutputFull, BadInput}
use Rattle.machine.specs.Machine.{Given, RunRoom, Store, keeps, stops}
use Rattle.machine.specs.Place.{Machine, End}
use Rattle.picture.specs.Picture.{Picture, codels, Sound}
use Rattle.picture.proofs.Codels.{cols_pos}
use Rattle.region.specs.Grid.{grid_of}
use Rattle.region.specs.Region.{IsMap}
use Rattle.region.proofs.MapLaws.{unique}
use Rattle.exit.specs.Opens.{Opens}
use Rattle.exit.proofs.Opening.{opens_only, reached}
use Rattle.piet.specs.Moves.{FirstOpen, NoMove}
use Rattle.piet.specs.Follows.{Move, doing, Walk, starts, moves, Follows}
use Rattle.base.proofs.Clash.{clash}
use Rattle.piet.proofs.MoveLaws.{not_both}
use Rattle.piet.proofs.Following.{keeps_valid}

-- the reasons to stop: three that the picture and the limit tell, and those of a move that is not kept
data Reason (s : Stop) : Type 0 where
  by_limit : s ≡ MaxSteps → Reason s
  by_waiting : s ≡ NeedsInput → Reason s
  by_end : s ≡ Completed → Reason s
  by_bar : (s ≡ MaxSteps → ⊥) → (s ≡ NeedsInput → ⊥) → (s ≡ Completed → ⊥) → Reason s

reason : (s : Stop) → Reason s
reason MaxSteps = by_limit refl
reason NeedsInput = by_waiting refl
reason Completed = by_end refl
reason StackFull = by_bar (λ h. clash (cc)) (λ h. clash (cc)) (λ h. clash (cc))
reason OutputFull = by_bar (λ h. clash (cc)) (λ h. clash (cc)) (λ h. clash (cc))
reason BadInput = by_bar (λ h. clash (cc)) (λ h. clash (cc)) (λ h. clash (cc))

module _ (p : Picture) (map : List ℕ) (g : Given) (room : RunRoom) where
  -- ---- a longer walk goes on from the end of a shorter one

  record Goes (length_before : ℕ) : Type 0 where
    history : List Move
    region : ℕ
    store : Store
    walk : Walk p map g room history region store
    counted : length history ≡ length_before
    unawaited : store.reading.awaiting ≡ false
    target : ℕ
    pointers : PointerState
    instruction : ℕ
    next : FirstOpen g.terms.edition p map region store.pointers target pointers instruction
    then : Store
    kept : doing p map g room region pointers instruction store ≡ keeps then

  passes : {h : List Move} {r : ℕ} {m : Store} (a : ℕ) → Walk p map g room h r m → a < length h → Goes a
  passes a starts l = absurd (omega arith)
  passes a (moves {history = h} {r = r} {target = t} {i = i} {m = m} {m' = n} {u = u} w f F k) l =
      by_cases (dec_lt a (length h)) (λ s. passes a w s) (λ s. record {
        history = h;
        region = r;
        store = m;
        walk = w;
        counted = omega arith;
        unawaited = f;
        target = t;
        pointers = u;
        instruction = i;
        next = F;
        then = n;
        kept = k;
      })

module _ {e : Edition} {p : Picture} {map : List ℕ} (S : Sound p) (L : length map ≡ codels p) where
  -- ---- an attempt leads to one region, with one state of the pointers and one instruction; so does the first open one

  not_before : {r t i t' i' : ℕ} {q u u' : PointerState} (F : FirstOpen e p map r q t u i) (G : FirstOpen e p map r q t' u' i')
      → F.attempt < G.attempt → ⊥
  not_before F G h = (G.before F.attempt h).never _ _ _ F.opens

  first_only : {r t i t' i' : ℕ} {q u u' : PointerState} → Valid q → FirstOpen e p map r q t u i → FirstOpen e p map r q t' u' i'
      → (t ≡ t') × (u ≡ u') × (i ≡ i')
  first_only {r} {t} {i} {t'} {i'} {q} {u} {u'} v F G =
      let k : G.attempt ≡ F.attempt = omega (arith, not_before F G, not_before G F) in
      opens_only (cols_pos S) L (valid_attempt q F.attempt v) F.opens
      (subst (λ (j : ℕ). Opens e p map r (attempt_of q j) t' u' i') k G.opens)

module _ {p : Picture} {map : List ℕ} (S : Sound p) (L : length map ≡ codels p) where
  module _ (g : Given) (room : RunRoom) where
    -- ---- walks of one length make the same moves and end alike

    walk_valid : {h : List Move} {r : ℕ} {m : Store} → Walk p map g room h r m → Valid m.pointers
    walk_valid starts = record { dp = omega arith; cc = omega arith }
    walk_valid (moves {r = r} {i = i} {m = m} {u = u} w f F k) =
        keeps_valid p map g room r u i m k (reached S L (valid_attempt m.pointers F.attempt (walk_valid w)) F.opens).lands.valid

    -- from one place the next move is one, and comes to one thing
    move_only : {r t i r' t' i' : ℕ} {m m' : Store} {u u' : PointerState} → Valid m.pointers → r ≡ r' → m ≡ m'
        → FirstOpen g.terms.edition p map r m.pointers t u i → FirstOpen g.terms.edition p map r' m'.pointers t' u' i'
        → (t ≡ t') × (u ≡ u') × (i ≡ i') × (doing p map g room r u i m ≡ doing p map g room r' u' i' m')
    move_only {r} {t} {i} {r'} {t'} {i'} {m} {m'} {u} {u'} v er em F F' =
        let o = first_only S L v F (subst (λ (x : ℕ). FirstOpen g.terms.edition p map x m.pointers t' u' i') (sym er)
        (subst (λ (y : Store). FirstOpen g.terms.edition p map r' y.pointers t' u' i') (sym em) F')) in
        (o.0, o.1, o.2, λ j. doing p map g room (er j) (o.1 j) (o.2 j) (em j))

    -- no move is left, and one is
    none_first : {r r' t i : ℕ} {m m' : Store} {u : PointerState} → Valid m'.pointers → r ≡ r' → m ≡ m' → NoMove g.terms.edition p map r m.pointers
        → FirstOpen g.terms.edition p map r' m'.pointers t u i → ⊥
    none_first {r} {r'} {m = m} {m' = m'} v er em N F =
        not_both S L v
        (subst (λ (y : Store). NoMove g.terms.edition p map r' y.pointers) em (subst (λ (x : ℕ). NoMove g.terms.edition p map x m.pointers) er N)) F

    pub walk_only : {h h' : List Move} {r r' : ℕ} {m m' : Store} → Walk p map g room h r m → Walk p map g room h' r' m' → length h ≡ length h'
        → (h ≡ h') × (r ≡ r') × (m ≡ m')
    walk_only starts starts e = (refl, refl, refl)
    walk_only starts (moves w f F k) e = absurd (omega arith)
    walk_only (moves w f F k) starts e = absurd (omega arith)
    walk_only (moves {m' = n} w f F k) (moves {m' = n'} w' f' F' k') e =
        let a = walk_only w w' (omega arith) in
        let o = move_only (walk_valid w) a.1 a.2 F F' in
        let z : keeps n ≡ keeps n' = sym k ∙ o.3 ∙ k' in
        (λ j. record { from = a.1 j; to = o.0 j; pointers = o.1 j; instruction = o.2 j } ∷ a.0 j, o.0, cc)

    -- ---- and so neither of two ends comes before the other

    not_earlier : {e e' : End} → Follows p map g room e → Follows p map g room e' → e.at.steps < e'.at.steps → ⊥
    not_earlier {e} {e'} A B h =
        let G = passes p map g room e.at.steps B.walk (omega (arith, B.counted)) in
        let o = walk_only A.walk G.walk (omega (arith, A.counted, G.counted)) in
        goes G o.1 o.2 (reason e.stop)
      where
        goes : (G : Goes p map g room e.at.steps) → e.at.region ≡ G.region → e.at.store ≡ G.store → Reason e.stop → ⊥
        goes G er em (by_limit s) = omega (arith, A.limited.0 s, B.within)
        goes G er em (by_waiting s) = true≢false (sym (A.awaited.0 s).1 ∙ ap (λ (m : Store). m.reading.awaiting) em ∙ G.unawaited)
        goes G er em (by_end s) = none_first (walk_valid G.walk) er em (A.completed.0 s).2 G.next
        goes G er em (by_bar x y z) =
            let R = A.barred x y z in
            let o = move_only (walk_valid A.walk) er em R.next G.next in
            let k : stops e.stop ≡ keeps G.then = sym R.unkept ∙ o.3 ∙ G.kept in
            clash (cc)

    -- ---- nor stops for another reason

    stop_only : {s s' : Stop} {at : Machine} → Follows p map g room (record { stop = s; at = at })
        → Follows p map g room (record { stop = s'; at = at }) → s ≡ s'
    stop_only {s} {s'} A B = go (reason s) (reason s')
      where
        go : Reason s → Reason s' → s ≡ s'
        go (by_limit a) b = a ∙ sym (B.limited.1 (A.limited.0 a))
        go (by_waiting a) b = a ∙ sym (B.awaited.1 (A.awaited.0 a))
        go (by_end a) b = a ∙ sym (B.completed.1 (A.completed.0 a))
        go (by_bar x y z) (by_limit b) = absurd (x (A.limited.1 (B.limited.0 b)))
        go (by_bar x y z) (by_waiting b) = absurd (y (A.awaited.1 (B.awaited.0 b)))
        go (by_bar x y z) (by_end b) = absurd (z (A.completed.1 (B.completed.0 b)))
        go (by_bar x y z) (by_bar x' y' z') =
            let R = A.barred x y z in
            let R' = B.barred x' y' z' in
            let o = move_only (walk_valid A.walk) refl refl R.next R'.next in
            let k : stops s ≡ stops s' = sym R.unkept ∙ o.3 ∙ R'.unkept in
            cc

    -- one numbering of the regions allows one end
    pub follows_only : {e e' : End} → Follows p map g room e → Follows p map g room e' → e ≡ e'
    follows_only {e} {e'} A B =
        let n : e.at.steps ≡ e'.at.steps = omega (arith, not_earlier A B, not_earlier B A) in
        let o = walk_only A.walk B.walk (omega (arith, A.counted, B.counted)) in
        let m : e.at ≡ e'.at = λ j. record { region = o.1 j; steps = n j; store = o.2 j } in
        let s = stop_only A (subst (λ (x : Machine). Follows p map g room (record { stop = e'.stop; at = x })) (sym m) B) in
        λ j. record { stop = s j; at = m j }

-- the end of a run of a picture is settled: the numbering of the regions is the picture's own
pub picture_only : {p : Picture} {map map' : List ℕ} {n n' : ℕ} → Sound p → length map ≡ codels p → length map' ≡ codels p → IsMap (grid_of p) map n
    → IsMap (grid_of p) map' n' → (g : Given) (room : RunRoom) {e e' : End} → Follows p map g room e → Follows p map' g room e' → e ≡ e'
picture_only {p} {map} {map'} {n} {n'} S l l' M M' g room {e} {e'} A B =
    let same : map ≡ map' = ext_get_or 0 map map' (l ∙ sym l') (λ k h. (unique (grid_of p) map map' n n' M M').0 k (omega (arith, l))) in
    follows_only S l g room A (subst (λ (x : List ℕ). Follows p x g room e') (sym same) B)
