-- `colour::decode::pair_table` meets its contract: all four hundred entries of the source are the rule's. Assumes nothing.
use Rattle.colour.specs.Decode.{decode_of}
use Rattle.colour.proofs.DecodeLaws.{all_right}
use Rattle.colour.proofs.decode.pair_table.Goals as goal

pub invariant_of-result : goal.invariant_of-result
unfolding decode_of
invariant_of-result c = record { decodes = all_right _ tt }
