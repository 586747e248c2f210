use Rattle.std.proofs.Common.{◌≡◌, ◌∙◌, ◌+◌, ◌-◌, ◌<◌, ◌&&◌, false, is_some, ap, sym, arith}
use Rattle.node_core.specs.declared.data.Field.{Field}
use Rattle.machine_rows.specs.Rows.{row_of}
use Rattle.machine_std.specs.Defaults.{decl_default, default_below, struct_default, type_default}
use Rattle.std.specs.Prelude.{option_and_then}
use Rattle.machine_std.specs.Marks.{left}
use Rattle.machine_std.proofs.Belows.{among-is, below-among, below-none}
use Rattle.machine_std.proofs.Members.{struct-some}
use Rattle.machine_std.proofs.Rests.{fields-step, fields-stop, left-first, left-mark}
use Rattle.machine_std.proofs.has_default.+has_default.Goals as goal

pub decl_rests-returns-in-Some : goal.decl_rests-returns-in-Some
decl_rests-returns-in-Some t c =
    let here = type_default c.args.decls.now (default_below c.args.decls.now c.args.below) in
    let ident = c.args.decl.now.ident in
    c.fields_rest.ensures
    ∙ ap (λ b. b && left c.args.decls.now c.args.base c.args.words.now (c.args.below - c.args.base)) (sym (struct-some here ident c.in-Some.fields.now))
    ∙ ap (λ found. is_some (option_and_then (struct_default here ident) found) && left c.args.decls.now c.args.base c.args.words.now (c.args.below - c.args.base)) c.in-Some.ensures

pub declaration_rests-returns-in-Some : goal.declaration_rests-returns-in-Some
declaration_rests-returns-in-Some t c =
    let here = type_default c.args.decls.now (default_below c.args.decls.now c.args.number) in
    c.decl_rests.ensures
    ∙ ap (λ it. is_some it && left c.args.decls.now c.args.base c.args.words.now (c.args.number - c.args.base)) (ap (decl_default here) c.in-Some.ensures ∙ sym (among-is c.args.decls.now c.args.number))

pub declaration_rests-returns-in-None : goal.declaration_rests-returns-in-None
declaration_rests-returns-in-None t c =
    let here = type_default c.args.decls.now (default_below c.args.decls.now c.args.number) in
    ap (λ it. is_some it && left c.args.decls.now c.args.base c.args.words.now (c.args.number - c.args.base)) (ap (decl_default here) c.in-None.ensures ∙ sym (among-is c.args.decls.now c.args.number))

pub fields_rest-returns-then-not-type_rests : goal.fields_rest-returns-then-not-type_rests
fields_rest-returns-then-not-type_rests t c =
    let test = λ (field : Field). is_some (type_default c.args.decls.now (default_below c.args.decls.now c.args.below) field.ty) in
    let old = left c.args.decls.now c.args.base c.loop-field.words (c.args.below - c.args.base) in
    let new = left c.args.decls.now c.args.base c.type_rests.new.words (c.args.below - c.args.base) in
    let fails : false ≡ (test c.field-item.result && old) = sym (ap (λ b. b && new) c.if-not-type_rests.true) ∙ c.type_rests.ensures in
    sym (sym c.loop-field.invariant ∙ fields-stop test c.args.fields.now c.loop-field.field-index c.field-item.result c.loop-field-test.true c.field-item.is old fails)

pub fields_rest-loop-field-preserved : goal.fields_rest-loop-field-preserved
fields_rest-loop-field-preserved t c =
    let test = λ (field : Field). is_some (type_default c.args.decls.now (default_below c.args.decls.now c.args.below) field.ty) in
    let old = left c.args.decls.now c.args.base c.loop-field.words (c.args.below - c.args.base) in
    let new = left c.args.decls.now c.args.base c.type_rests.new.words (c.args.below - c.args.base) in
    let holds : new ≡ (test c.field-item.result && old) = sym (ap (λ b. b && new) c.if-not-type_rests.false) ∙ c.type_rests.ensures in
    sym (fields-step test c.args.fields.now c.loop-field.field-index c.field-item.result c.loop-field-test.true c.field-item.is old new holds) ∙ c.loop-field.invariant

pub number_rests-returns-then-number-below : goal.number_rests-returns-then-number-below
number_rests-returns-then-number-below t c =
    ap (λ it. is_some it && left c.args.decls.now c.args.base c.args.words.now (c.args.below - c.args.base)) (sym (below-none c.args.decls.now c.args.below c.args.number c.if-number-below.true))

pub number_rests-returns-then-number-base : goal.number_rests-returns-then-number-base
number_rests-returns-then-number-base t c =
    ap (λ b. b && left c.args.decls.now c.args.base c.args.words.now (c.args.below - c.args.base))
    (c.has_default.ensures ∙ ap is_some (sym (below-among c.args.decls.now c.args.below c.args.number c.if-number-below.false)))

pub number_rests-returns : goal.number_rests-returns
number_rests-returns t c =
    left-mark c.args.decls.now c.args.base c.args.words.now c.mark.new.words c.args.number c.args.below c.if-number-base.false c.if-number-below.false c.mark.ensures
    ∙ ap (λ it. is_some it && left c.args.decls.now c.args.base c.args.words.now (c.args.below - c.args.base)) (sym (below-among c.args.decls.now c.args.below c.args.number c.if-number-below.false))

pub sweep-down-init : goal.sweep-down-init
sweep-down-init t c = record {
  from = c.requires.within;
  to = omega arith;
  still = left-first c.args.decls.now c.args.base c.args.words.now c.mark.new.words c.args.number c.requires.within c.requires.unmarked c.mark.ensures;
}

pub sweep-down-preserved : goal.sweep-down-preserved
sweep-down-preserved t c =
    let above : c.args.base < c.down.at = omega (arith, c.down.invariant.from, c.if-at-base.false) in
    let one : c.down.at - 1 - c.args.base + 1 ≡ c.down.at - c.args.base = omega (arith, above) in
    record {
      from = omega (arith, above);
      to = omega (arith, c.down.invariant.to);
      still = ap (left c.args.decls.now c.args.base c.look_at.new.words) one ∙ c.if-not-look_at.ensures ∙ c.down.invariant.still;
    }

pub type_rests-returns-in-Has : goal.type_rests-returns-in-Has
unfolding row_of
type_rests-returns-in-Has t c =
    ap (λ b. b && left c.args.decls.now c.args.base c.args.words.now (c.args.below - c.args.base)) (sym (c.in-Has.ensures (default_below c.args.decls.now c.args.below)))

pub type_rests-returns-in-Lacks : goal.type_rests-returns-in-Lacks
unfolding row_of
type_rests-returns-in-Lacks t c =
    ap (λ b. b && left c.args.decls.now c.args.base c.args.words.now (c.args.below - c.args.base)) (sym (c.in-Lacks.ensures (default_below c.args.decls.now c.args.below)))

pub type_rests-returns-in-On : goal.type_rests-returns-in-On
unfolding row_of
type_rests-returns-in-On t c =
    c.number_rests.ensures
    ∙ ap (λ b. b && left c.args.decls.now c.args.base c.args.words.now (c.args.below - c.args.base)) (sym (c.in-On.ensures (default_below c.args.decls.now c.args.below)))
