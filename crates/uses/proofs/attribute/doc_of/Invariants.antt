use Rattle.std.proofs.Common.{◌≡◌, flat_map, take}
use Rattle.uses.specs.Attributes.{doc_in}
use Rattle.uses.proofs.attribute.doc_of.Given as goal

abbrev pub invariant-loop-attribute : goal.invariant-loop-attribute
invariant-loop-attribute l = l.text ≡ flat_map doc_in (take l.attribute-index l.attributes)
