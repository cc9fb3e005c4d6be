-- `visits::listing::list_unvisited` meets its contract. The loop's invariant: the nodes passed that were never entered are listed. Assumes nothing.
use lib.ListN.{get_or}
use Rattle.visits.specs.Visits.{never_entered}
use Rattle.visits.proofs.ListingLaws.{Listing}
use Rattle.visits.proofs.listing.list_unvisited.Given as goal

abbrev pub invariant-loop-i : goal.invariant-loop-i
invariant-loop-i l = Listing (never_entered l.rows (λ k. get_or l.visits k 0)) l.initial.unvisited l.i l.unvisited l.listed
