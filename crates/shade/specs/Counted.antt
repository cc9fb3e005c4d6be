-- Inner: what the helpers of `shade` promise: the same text from the map and the counts that the code holds. Assumes nothing.
use Rattle.std.specs.Prelude.{◌≡◌, List, [], ◌∷◌, ◌++◌, ℕ, zero, suc, ◌*◌, ◌%◌, ◌<◌, ◌≤◌, eqb, length, get_or}
use Rattle.base.specs.Edition.{rust_number, edition_of}
use Rattle.base.specs.Lent.{Put}
use Rattle.base.specs.Numbers.{numbers}
use Rattle.picture.specs.Picture.{ceil}
use Rattle.cfg.specs.Build as building
use Rattle.cfg.specs.Build.{Written}
use Rattle.piet.specs.RunPicture.{Lends, asked_picture}
use Rattle.job.specs.declared.Parts.{Parts}
use Rattle.job.specs.Encoding.{Content}
use Rattle.answer.specs.Program.{asked_of, refusal_of}
use Rattle.shade.specs.Shade.{entry_text, Shaded}

-- the counts of the first codels, each by its region's cell
module _ (map visits : List ℕ) (cols : ℕ) where
  unfoldable pub cells_text : ℕ → List ℕ
  cells_text zero = []
  cells_text (suc n) = cells_text n ++ entry_text (get_or visits (get_or map n 0) 0) (eqb (suc n % cols) 0)

-- they can be written: there are columns, the codels are mapped, each region has a cell, and there is room for 21 bytes a codel
pub record Printable (room : ℕ) (map : List ℕ) (cells codels cols : ℕ) : Type 0 where
  pub some : 0 < cols
  pub mapped : codels ≤ length map
  pub counted : (i : ℕ) → i < codels → get_or map i 0 < cells
  pub roomy : 21 * codels ≤ room

-- so can those of a picture with these sides and this codel's width
pub record PrintablePicture (room : ℕ) (map : List ℕ) (cells height width codel : ℕ) : Type 0 where
  pub not_high : height ≤ 1024
  pub not_wide : width ≤ 1024
  pub sized : 0 < codel
  pub small : codel ≤ 1024
  pub counts : Printable room map cells (ceil height codel * ceil width codel) (ceil width codel)

-- the parts of a job, or what they say, with no step to make
abbrev pub still : Parts → Parts
still p = record {
  height = p.height;
  width = p.width;
  codel = p.codel;
  limit = 0;
  abstracted = p.abstracted;
  pixels = p.pixels;
  settings = p.settings;
  input = p.input;
  end = p.end;
}

abbrev pub still_said : Content → Content
still_said c = record { height = c.height; width = c.width; codel = c.codel; pixels = c.pixels; limit = 0; abstracted = c.abstracted; input = c.input }

-- the job is not refused, and its picture's table of n regions was built in these lists
pub record JobTable (c : Content) (n : ℕ) (map rows exits : List ℕ) : Type 0 where
  pub none : refusal_of c ≡ numbers 0 (0 ∷ 0 ∷ [])
  pub lent : Lends
  pub work : List ℕ
  pub accepted : building.refusal rust_number (asked_picture (asked_of c)) (length lent.map) (length lent.rows) (length lent.exits) (length lent.work) ≡ numbers 0 (0 ∷ 0 ∷ [])
  pub written : Written (edition_of rust_number) (asked_picture (asked_of c)) lent.map lent.rows lent.exits lent.work map rows exits work n

-- a text for what a job says was written at the start
pub record PutShaded (c : Content) (before : List ℕ) (r : ℕ) (after : List ℕ) : Type 0 where
  pub text : List ℕ
  pub shaded : Shaded c text
  pub put : Put before 0 text r after
