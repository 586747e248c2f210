use Rattle.std.proofs.Common.{◌++◌, ◌∙◌, take, ap}
use Rattle.std.proofs.lemmas.List.Elements.{filter_map-append}
use Rattle.node_core.specs.declared.data.Field.{Field}
use Rattle.machine_forms.specs.Names.{field_names, has_name, repeated_field}
use Rattle.machine_forms.proofs.Known.{known-field, known-more}
use Rattle.machine_forms.proofs.Steps.{places-more}
use Rattle.machine_forms.proofs.names.push_fields.Goals as goal

pub loop-number-preserved : goal.loop-number-preserved
loop-number-preserved c =
    let fields = c.args.fields.now in
    let number = c.loop-number.number in
    let field = c.index-fields-number.result in
    record {
      known = known-more field_names (filter_map-append (λ (field : Field). field.ident)) fields number field c.loop-number-test.true c.index-fields-number.is c.push_field.new.known
          (c.in_ok-push_field.ensures.known.each _ c.loop-number.invariant.known);
      pushed = places-more (λ number field. repeated_field (has_name (field_names (take number fields))) field.ident) fields number field c.loop-number-test.true c.index-fields-number.is _ _ _
          c.loop-number.invariant.pushed
          (c.in_ok-push_field.ensures.places ∙ ap (λ it. c.loop-number.places ++ it) (known-field c.loop-number.known (field_names (take number fields)) field.ident c.loop-number.invariant.known));
    }
