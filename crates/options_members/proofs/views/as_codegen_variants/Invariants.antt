use Rattle.std.proofs.Common.{take}
use Rattle.std.specs.List.{AllZip}
use Rattle.options_members.proofs.views.as_codegen_variants.Given as goal
use Rattle.options_members.specs.Views.{IsVariant}

abbrev pub invariant-loop-variant : goal.invariant-loop-variant
invariant-loop-variant l = AllZip (IsVariant l.ty_ident) l.shown.items (take l.variant-index l.variants)
