-- A declaration whose options have no fault: no stage has one.
use Rattle.std.proofs.Common.{◌≡◌, List, [], ◌++◌, flat_map}
use Rattle.node_core.specs.Bodies.{is_union}
use Rattle.node_core.specs.declared.derive.DeriveInput.{DeriveInput}
use Rattle.error_fault.specs.declared.fault.Fault.{Fault}
use Rattle.run_accepted.specs.Body.{union_faults}
use Rattle.run_accepted.specs.Entries.{option_entries}
use Rattle.run_accepted.specs.Members.{body_fields, variants_of}
use Rattle.run_accepted.specs.Rows.{else_faults}
use Rattle.run_accepted.specs.Stages.{Reader, body_faults, container_options, option_faults, options_of}
use Rattle.run_accepted.specs.Walk.{all_faults}
use Rattle.law_options.proofs.Shapes.{none-first, none-later, none-left}

module _ {S : Type 0} (reader : Reader S) (decl : DeriveInput) (none : option_faults reader decl ≡ []) where
  abbrev union : List Fault
  union = union_faults (is_union decl.body)

  abbrev walked : List Fault
  walked = all_faults reader.options reader.item_faults reader.start [] (option_entries decl.attrs)

  abbrev inside : List Fault
  inside = body_faults reader decl

  abbrev last : List Fault
  last = reader.last (options_of reader decl)

  pub no_union_faults : union_faults (is_union decl.body) ≡ []
  no_union_faults = none-first union (else_faults walked (else_faults inside last)) none

  pub no_body_faults : body_faults reader decl ≡ []
  no_body_faults =
      none-first inside last (none-later walked (else_faults inside last) (none-later union (else_faults walked (else_faults inside last)) none))

  -- nothing is wrong with a field
  pub no_field_faults : flat_map (reader.field_faults (container_options reader decl)) (body_fields decl.body) ≡ []
  no_field_faults =
      let of_fields = flat_map (reader.field_faults (container_options reader decl)) (body_fields decl.body) in
      let of_variants = flat_map (reader.variant_faults (container_options reader decl)) (variants_of decl.body) in
      none-left of_fields of_variants (none-left (of_fields ++ of_variants) (reader.checks (options_of reader decl)) no_body_faults)
