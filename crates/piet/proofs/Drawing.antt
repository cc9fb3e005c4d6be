-- From the tests that are passed to the run's end: what classifying, building and running leave is what the call promises.
-- Assumes nothing.
use mathlib.Core.Path.{◌≡◌, sym, ap, subst, ◌∙◌}
use mathlib.Core.List.{List, [], ◌∷◌}
use Prim.Native.Nat.{ℕ, ◌*◌}
use lib.ListN.{length, take, drop}
use lib.Seq.{take_at}
use Rattle.base.specs.Edition.{edition_of}
use Rattle.base.specs.Numbers.{Numbers, numbers, unless_refused}
use Rattle.base.specs.Lent.{lent}
use Rattle.picture.specs.Picture.{Picture}
use Rattle.std.specs.Prelude.{Result, Ok, Err}
use Rattle.base.specs.declared.refusal.Refusal.{Refusal}
use Rattle.base.proofs.RefusalLaws.{never_done}
use Rattle.colour.specs.Classify as classifying
use Rattle.colour.specs.Classify.{colours_under}
use Rattle.cfg.specs.Build as building
use Rattle.cfg.specs.Build.{Written}
use Rattle.piet.specs.declared.run_picture.Pictured.{Pictured}
use Rattle.piet.specs.RunPicture.{Asked, Lends, refusal_of, RanPicture, Outcome, done}
use Rattle.piet.specs.Drawn.{pictured_of, Draws}
use Rattle.piet.proofs.BuiltTables.{picture_follows}
use Rattle.piet.proofs.Seeing.{length_under}
use Rattle.piet.proofs.Refusing.{Accepted}

-- what classifying leaves where nothing is refused: the colours of the pixels, and past them what was there
module _ (a : Asked) (l : Lends) (A : Accepted a l) (after : List ℕ) {r : Result (Unit {0}) Refusal}
    (o : classifying.Outcome a.pixels a.height a.width a.setting l.colours r after) where
  abbrev colours : List ℕ
  colours = colours_under a.pixels a.setting

  pub painted : after ≡ lent colours l.colours
  painted = o.leaves ∙ ap (λ (n : Numbers). unless_refused n (lent colours l.colours) l.colours) (o.answers ∙ A.classifies)

  pub painted_part : take (a.height * a.width) after ≡ colours
  unfolding lent
  painted_part =
      let n = a.height * a.width in
      ap (take n) painted ∙ take_at colours (drop (length colours) l.colours) n (length_under a.pixels a.setting n A.passing.bytes)

-- colours that building does not refuse are built
pub built : {number : ℕ} {p : Picture} {map rows exits work map' rows' exits' work' : List ℕ} {r : Refusal}
    → building.refusal number p (length map) (length rows) (length exits) (length work) ≡ numbers 0 (0 ∷ 0 ∷ [])
    → building.Outcome number p map rows exits work (Err r) map' rows' exits' work' → ⊥
built z (building.refused r e) = never_done r _ _ (e ∙ z)

-- an answer by another name
pub named : {number : ℕ} {p : Picture} {map rows exits work map' rows' exits' work' : List ℕ} {r r' : Result ℕ Refusal} → r ≡ r'
    → building.Outcome number p map rows exits work r map' rows' exits' work' → building.Outcome number p map rows exits work r' map' rows' exits' work'
named {number} {p} {map} {rows} {exits} {work} {map'} {rows'} {exits'} {work'} e o =
    subst (λ (x : Result ℕ Refusal). building.Outcome number p map rows exits work x map' rows' exits' work') e o

written : {number : ℕ} {p : Picture} {map rows exits work map' rows' exits' work' : List ℕ} {n : ℕ}
    → building.Outcome number p map rows exits work (Ok n) map' rows' exits' work' → Written (edition_of number) p map rows exits work map' rows' exits' work' n
written (building.done e W) = W

-- what is lent, with the colours of the pixels for the lent ones
abbrev coloured : Asked → Lends → Lends
coloured a l = record { colours = colours_under a.pixels a.setting; map = l.map; rows = l.rows; exits = l.exits; work = l.work; run = l.run }

pub drawn : (a : Asked) (l l' : Lends) {r : Result Pictured Refusal} → refusal_of a l ≡ numbers 0 (0 ∷ 0 ∷ [])
    → l'.colours ≡ lent (colours_under a.pixels a.setting) l.colours
    → Draws a.height a.width a.codel a.asks (coloured a l) r (coloured a l') → Outcome a l r l'
drawn a l l' {r} none colours D =
    let F = picture_follows a.asks D.built l.run D.ran in
    let R : RanPicture a l l' F.0 = record { colours = colours; regions = D.regions; table = written D.built; follows = F.2; inside = F.3; run = F.4 } in
    subst (λ (x : Result Pictured Refusal). Outcome a l x l') (sym (D.is ∙ ap (pictured_of D.regions) F.1)) (done none R)
