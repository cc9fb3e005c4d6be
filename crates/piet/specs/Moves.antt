-- A move of a picture, judged by walking codels: which of a region's eight attempts is taken (rules 5.5, 8.3, 16.6). Assumes
-- nothing.
use Rattle.std.specs.Prelude.{List, ℕ, ◌<◌}
use Rattle.base.specs.declared.edition.Edition.{Edition}
use Rattle.flow.specs.declared.PointerState.{PointerState}
use Rattle.flow.specs.Pointer.{attempt_of}
use Rattle.picture.specs.Picture.{Picture}
use Rattle.exit.specs.Opens.{Opens, Stuck, Shut}

module _ (e : Edition) (p : Picture) (map : List ℕ) (r : ℕ) (q : PointerState) where
  -- the attempts before the k-th are passed over
  abbrev pub ShutBefore : ℕ → Type 0
  ShutBefore k = (j : ℕ) → j < k → Shut e p map r (attempt_of q j)

  -- the first open one of the eight attempts in their order, from the pointers q
  pub record FirstOpen (target : ℕ) (u : PointerState) (i : ℕ) : Type 0 where
    pub attempt : ℕ
    pub few : attempt < 8
    pub opens : Opens e p map r (attempt_of q attempt) target u i
    pub before : ShutBefore attempt

  -- no move is left: all eight are passed over (rule 11.1), or the first that is not is a lost slide (rule 16.6)
  pub data NoMove : Type 0 where
    all_shut : ShutBefore 8 → NoMove
    lost_first : (k : ℕ) → k < 8 → Stuck p map r (attempt_of q k) e → ShutBefore k → NoMove
