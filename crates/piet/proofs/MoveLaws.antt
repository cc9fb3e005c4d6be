-- The first open attempt, and that no move is left: never both. Assumes nothing.
use mathlib.Core.Path.{◌≡◌, subst}
use mathlib.Core.Logic.{by_cases}
use mathlib.Core.List.{List}
use Prim.Native.Nat.{ℕ}
use native.Mathlib.Omega.{arith}
use native.Mathlib.Decide.{dec_lt}
use lib.ListN.{length}
use Rattle.base.specs.declared.edition.Edition.{Edition}
use Rattle.flow.specs.declared.PointerState.{PointerState}
use Rattle.flow.specs.Pointer.{Valid, attempt_of}
use Rattle.flow.proofs.Order.{valid_attempt}
use Rattle.picture.specs.Picture.{Picture, codels, Sound}
use Rattle.picture.proofs.Codels.{cols_pos}
use Rattle.exit.specs.Opens.{Stuck}
use Rattle.exit.proofs.Opening.{open_unstuck}
use Rattle.piet.specs.Moves.{ShutBefore, FirstOpen, NoMove, all_shut, lost_first}

module _ {e : Edition} {p : Picture} {map : List ℕ} (S : Sound p) (L : length map ≡ codels p) where
  -- a lost slide comes before it, after it, or is it
  lost_or : {r t i k : ℕ} {q u : PointerState} → Valid q → Stuck p map r (attempt_of q k) e → ShutBefore e p map r q k
      → FirstOpen e p map r q t u i → ⊥
  lost_or {r} {k = k} {q = q} v s before F =
      by_cases (dec_lt k F.attempt) (λ h. (F.before k h).unstuck s)
      (λ h. by_cases (dec_lt F.attempt k) (λ l. (before F.attempt l).never _ _ _ F.opens)
      (λ l.
      let z : k ≡ F.attempt = omega arith in
      open_unstuck (cols_pos S) L (valid_attempt q F.attempt v) F.opens (subst (λ (j : ℕ). Stuck p map r (attempt_of q j) e) z s)))

  pub not_both : {r t i : ℕ} {q u : PointerState} → Valid q → NoMove e p map r q → FirstOpen e p map r q t u i → ⊥
  not_both v (all_shut all) F = (all F.attempt F.few).never _ _ _ F.opens
  not_both v (lost_first k few s before) F = lost_or v s before F
