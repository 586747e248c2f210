use Rattle.std.proofs.Common.{◌≡◌, ◌++◌, drop, take}
use Rattle.error_core.specs.ErrorView.{held}
use Rattle.options_rows.specs.Members.{after_members, members_faults, variant_or}
use Rattle.options_rows.proofs.parse_data.parse_variants.Given as goal

abbrev pub invariant-loop-variant : goal.invariant-loop-variant
invariant-loop-variant g l =
    let takes = variant_or g.T.ParseData.of_variant l.table in
    let rest = drop l.variant-index l.variants in
    record {
      left : l.target ≡ after_members takes l.initial.target (take l.variant-index l.variants);
      faults : held l.errors ++ members_faults takes l.target rest ≡ held l.initial.errors ++ members_faults takes l.initial.target l.variants;
    }
