-- One attempt to leave: the step from the codel to leave by (rule 4.3), and the slide where that leads onto white (rule 5.1),
-- which is lost by the rule of the edition. Assumes nothing.
use Rattle.std.specs.Prelude.{◌≡◌, ℕ, Some, None}
use Rattle.base.specs.declared.edition.Edition.{Edition}
use Rattle.flow.specs.declared.PointerState.{PointerState}
use Rattle.picture.specs.Picture.{Picture}
use Rattle.exit.specs.declared.slide.Sight.TheVariants.{Shut, White, Coloured}
use Rattle.exit.specs.declared.attempt.Way.{Way}
use Rattle.exit.specs.declared.attempt.Way.TheVariants.{Closed, Step, Astray, Glide}
use Rattle.exit.specs.Trail.{lost_by}
use Rattle.exit.specs.Slide.{landed, look_of, Ends}

-- from codel (r, c) in state s; what is ahead decides
pub data Attempt (e : Edition) (p : Picture) (r c : ℕ) (s : PointerState) : Way → Type 0 where
  -- it is shut (rule 4.3)
  shut : look_of p r c s.dp ≡ Shut → Attempt e p r c s Closed
  -- it is a coloured codel (rule 4.4)
  step : {r' c' : ℕ} → look_of p r c s.dp ≡ Coloured r' c' → Attempt e p r c s (Step r' c')
  -- it is a white one, and the slide from there lands (rule 5.3)
  glide : {r' c' a b : ℕ} {t : PointerState} → look_of p r c s.dp ≡ White r' c' → Ends p (lost_by e) r' c' s (Some (landed a b t))
      → Attempt e p r c s (Glide r' c' a b t)
  -- or is lost (rules 5.4, 16.8)
  lost : {r' c' : ℕ} → look_of p r c s.dp ≡ White r' c' → Ends p (lost_by e) r' c' s None → Attempt e p r c s (Astray r' c')
