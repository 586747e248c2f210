-- Values that contracts see as they are: what a reader of fields says of them, without the map.
use Rattle.std.proofs.Common.{◌≡◌, ◌∙◌, List, map, Option, sym}
use Rattle.std.specs.Prelude.{option_map}
use Rattle.std.proofs.lemmas.Iterator.Adapters.{option_map_id}
use Rattle.std.proofs.lemmas.List.{map-id}

pub list_seen : {A : Type 0} (values seen : List A) → map (λ value. value) values ≡ seen → values ≡ seen
list_seen values seen is = sym (map-id values) ∙ is

pub option_seen : {A : Type 0} (value seen : Option A) → option_map (λ value. value) value ≡ seen → value ≡ seen
option_seen value seen is = sym (option_map_id value) ∙ is
