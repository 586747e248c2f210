use Rattle.law_maps.proofs.Sorted.{keys-rise}
use Rattle.law_maps.proofs.the_keys_of_a_sorted_map_rise.Goals as goal

pub returns : goal.returns
returns c = λ start order entries total. keys-rise total entries
