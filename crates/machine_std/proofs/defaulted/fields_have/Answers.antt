use Rattle.std.proofs.Common.{◌∙◌, ◌≤◌, ap, arith, is_some, length, sym}
use Rattle.std.specs.List.{list_all}
use Rattle.std.proofs.lemmas.List.{drop_all}
use Rattle.node_core.specs.declared.data.Field.{Field}
use Rattle.machine_std.specs.Defaults.{type_default}
use Rattle.machine_std.proofs.FlagLemmas.{all-more, all-stop}
use Rattle.machine_std.proofs.defaulted.fields_have.Goals as goal

pub loop-field-preserved : goal.loop-field-preserved
loop-field-preserved c = λ declared are.
    let test = λ (field : Field). is_some (type_default c.args.decls.now declared field.ty) in
    all-more test c.args.fields.now c.loop-field.field-index c.field-item.result c.loop-field-test.true c.field-item.is (sym (c.type_has.ensures declared are) ∙ c.if-not-type_has.false)
    ∙ c.loop-field.invariant declared are

pub returns-then-not-type_has : goal.returns-then-not-type_has
returns-then-not-type_has c = λ declared are.
    let test = λ (field : Field). is_some (type_default c.args.decls.now declared field.ty) in
    sym (all-stop test c.args.fields.now c.loop-field.field-index c.field-item.result c.loop-field-test.true c.field-item.is (sym (c.type_has.ensures declared are) ∙ c.if-not-type_has.true))
    ∙ c.loop-field.invariant declared are

pub returns : goal.returns
returns c = λ declared are.
    let test = λ (field : Field). is_some (type_default c.args.decls.now declared field.ty) in
    let past : length c.args.fields.now ≤ c.loop-field.field-index = omega (arith, c.loop-field-test.false) in
    sym (ap (list_all test) (drop_all c.loop-field.field-index c.args.fields.now past)) ∙ c.loop-field.invariant declared are
