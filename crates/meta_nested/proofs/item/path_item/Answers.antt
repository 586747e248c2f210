use Rattle.std.proofs.Common.{rules}
use Rattle.meta_nested.proofs.Onward.{path-moved}
use Rattle.meta_nested.proofs.item.path_item.Goals as goal

pub name_value-requires-clause-tells : goal.name_value-requires-clause-tells
name_value-requires-clause-tells c = path-moved c.args.closings.now c.args.tokens.now c.meta_path.new.tokens c.in_ok-path.path (search rules) c.requires
