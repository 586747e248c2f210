use Rattle.std.proofs.Common.{◌≡◌, ◌+◌, ◌≤◌, ◌++◌, ◌∷◌, ◌∙◌, [], suc, Bool, List, Some, refl, ap, add-one, arith, is_some, length, subst, sym}
use Rattle.std.specs.Prelude.{slice_get}
use Rattle.std.proofs.lemmas.List.{length-append}
use Rattle.std.proofs.lemmas.Option.{slice_get_read}
use Rattle.node_core.specs.declared.derive.DeriveInput.{DeriveInput}
use Rattle.machine_std.specs.Defaulted.{AreFlags, is_flagged}
use Rattle.machine_std.specs.Defaults.{default_below}
use Rattle.machine_std.proofs.Belows.{below-none}
use Rattle.machine_std.proofs.FlagLemmas.{all-below, flags-more}
use Rattle.machine_std.proofs.defaulted.flags_of.Goals as goal

pub loop-decl-init : goal.loop-decl-init
loop-decl-init c = record {
  count = ap length c.new-flags.ensures;
  are = λ number. ap (λ flags. is_flagged flags number) c.new-flags.ensures ∙ ap is_some (sym (below-none c.args.decls.now 0 number (omega arith)));
}

pub loop-decl-preserved : goal.loop-decl-preserved
loop-decl-preserved c =
    let decls = c.args.decls.now in
    let at = c.loop-decl.decl-index in
    let flags = c.loop-decl.flags in
    let flag = c.has_by-flag.result in
    let told : AreFlags c.as_slice.result.now (default_below decls at) = subst (λ (flags : List Bool). AreFlags flags (default_below decls at)) (sym c.as_slice.ensures) c.loop-decl.invariant.are in
    let stands : slice_get decls at ≡ Some c.decl-item.result =
    subst (λ (decls : List DeriveInput). slice_get decls at ≡ Some c.decl-item.result) c.as_slice-decl-items.ensures
    (slice_get_read c.as_slice-decl-items.result.now (length c.as_slice-decl-items.result.now) at c.decl-item.result refl c.loop-decl-test.true c.decl-item.is) in
    let are : AreFlags (flags ++ (flag ∷ [])) (default_below decls (suc at)) =
    flags-more decls flags flag at c.decl-item.result c.loop-decl.invariant.count c.loop-decl.invariant.are stands (c.has_by-flag.ensures (default_below decls at) told) in
    record {
      count = ap length c.in_ok-push.ensures.ok ∙ length-append flags (flag ∷ []) ∙ ap (λ n. n + 1) c.loop-decl.invariant.count;
      are = subst (λ (flags : List Bool). AreFlags flags (default_below decls (at + 1))) (sym c.in_ok-push.ensures.ok)
          (subst (λ n. AreFlags (flags ++ (flag ∷ [])) (default_below decls n)) (sym (add-one at)) are);
    }

pub returns : goal.returns
returns c = λ number.
    let le : length c.args.decls.now ≤ c.loop-decl.decl-index = omega (arith, c.loop-decl-test.false, ap length c.as_slice-decl-items.ensures) in
    c.loop-decl.invariant.are number ∙ ap is_some (all-below c.args.decls.now c.loop-decl.decl-index number le)
