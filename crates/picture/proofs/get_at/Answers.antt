-- `picture::get_at` meets its contract. Assumes nothing.
use mathlib.Core.Path.{◌≡◌, ◌∙◌, sym, refl}
use mathlib.Core.List.{List}
use Prim.Native.Nat.{ℕ}
use borrow.Author.Tests.{lt-ltb, le-ltb, ltb-true, ltb-false}
use denote.Ref.{Bor}
use lib.Dec.{ltb}
use lib.ListN.{length, get_or}
use Rattle.std.specs.Prelude.{Option, Some, None, is_some, IfSome, option_copied, slice_get}
use Rattle.std.proofs.lemmas.Option.{slice_get_past, slice_get_read}
use Rattle.picture.specs.Source.{get_at}
use Rattle.picture.proofs.get_at.Goals as goal

-- what a slice's `get` reads, copied
copied : (xs : List ℕ) (i : ℕ) (o : Option (Bor ℕ)) → is_some o ≡ ltb i (length xs) → IfSome o (λ x. x.now ≡ get_or xs i x.now)
    → option_copied o ≡ slice_get xs i
copied xs i None e h = sym (slice_get_past xs i (ltb-false _ _ (sym e)))
copied xs i (Some x) e h = sym (slice_get_read xs (length xs) i x.now refl (ltb-true _ _ (sym e)) h)

pub returns-then-height-row : goal.returns-then-height-row
unfolding get_at
returns-then-height-row c = rw (le-ltb _ _ c.if-height-row.true)

pub returns-then-width-column : goal.returns-then-width-column
unfolding get_at
returns-then-width-column c = rw (lt-ltb _ _ c.if-height-row.false, le-ltb _ _ c.if-width-column.true)

pub returns : goal.returns
unfolding get_at
returns c =
    let read = c.get.ensures.lookup in
    rw (lt-ltb _ _ c.if-height-row.false, lt-ltb _ _ c.if-width-column.false) (c.copied.ensures ∙ copied _ _ _ read.0 read.1)
