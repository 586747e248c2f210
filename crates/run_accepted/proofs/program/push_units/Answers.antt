use Rattle.std.proofs.Common.{arith, ◌≡◌, ◌∙◌, List, [], ◌∷◌, ◌++◌, ◌+◌, drop, map, get_or, ap, subst}
use Rattle.std.proofs.lemmas.List.{drop_all}
use Rattle.std.proofs.lemmas.Result.{err_from_is_err_and}
use Rattle.tok_types.specs.declared.span.Span.TheVariants.{CallSite}
use Rattle.codegen_program.specs.declared.program.Derive.TheVariants.{FromMeta}
use Rattle.run_accepted.specs.declared.derives.Derived.{Derived}
use Rattle.run_accepted.specs.Derives.{derives_of}
use Rattle.run_accepted.specs.Pairs.{Pair, pair}
use Rattle.run_accepted.specs.Steps.{AreUnits, Rejects}
use Rattle.run_accepted.proofs.PairLemmas.{ends, map_next, stops}
use Rattle.run_accepted.proofs.program.push_units.Goals as goal

pub returns-in_err-push_unit : goal.returns-in_err-push_unit
returns-in_err-push_unit c before are =
    let table = c.args.table.now in
    let decl = c.args.decl.now in
    let items = c.as_slice-it-items.result.now in
    let i = c.loop-it.it-index in
    let other : Derived = record { derive = FromMeta; span = CallSite } in
    let with : Derived → Pair = λ it. pair c.args.number decl it.derive in
    let e : items ≡ derives_of decl.attrs = c.as_slice-it-items.ensures ∙ c.in_ok-derives.ensures ∙ ap derives_of c.as_slice.ensures in
    let fail = c.in_err-push_unit.field-0.0 in
    let P : List Derived → Type 0 = λ derives. Rejects table (before ++ map with derives) fail in
    let p = err_from_is_err_and c.from_residual-in_err-push_unit.result c.from_residual-in_err-push_unit.ensures.1 in
    rw (p.1, p.2)
    (subst P e
    (stops table (before ++ map with items) (map with (drop i items)) (with (get_or items i other) ∷ []) (map with (drop (i + 1) items))
    c.loop-it.units fail (map_next with items i other c.loop-it-test.true) c.in_err-push_unit.ensures (c.loop-it.invariant before are)))

pub returns : goal.returns
returns c before are =
    let decl = c.args.decl.now in
    let items = c.as_slice-it-items.result.now in
    let with : Derived → Pair = λ it. pair c.args.number decl it.derive in
    let e : items ≡ derives_of decl.attrs = c.as_slice-it-items.ensures ∙ c.in_ok-derives.ensures ∙ ap derives_of c.as_slice.ensures in
    subst (λ derives. AreUnits c.args.table.now (before ++ map with derives) c.loop-it.units) e
    (ends c.args.table.now (before ++ map with items) (map with (drop c.loop-it.it-index items)) c.loop-it.units (ap (map with) (drop_all c.loop-it.it-index items (omega arith))) (c.loop-it.invariant before are))
