use Rattle.std.specs.Option.{option_copied}
use Rattle.options_members.proofs.EachLemmas.{each_next}
use Rattle.options_members.proofs.input_variant.read_fields.Goals as goal
use Rattle.options_members.specs.Body.{field_meaning}

pub loop-field-preserved : goal.loop-field-preserved
loop-field-preserved c =
    each_next (field_meaning c.args.table.now (option_copied c.args.parent)) c.args.fields.now c.loop-field.field-index c.field-item.result
    c.loop-field.read c.push.new.self c.in_ok-field.field c.loop-field-test.true c.field-item.is c.in_ok-field.ensures c.in_ok-push.ensures.ok c.loop-field.invariant
