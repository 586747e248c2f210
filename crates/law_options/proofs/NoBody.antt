-- A declaration that can be run takes neither the body nor the generics of an item.
use Rattle.std.proofs.Common.{◌≡◌, ◌∙◌, ℕ, true, false, [], map, refl, sym, ap, subst}
use Rattle.tok_types.specs.Ident.{ident_text}
use Rattle.node_core.specs.declared.data.Field.{Field}
use Rattle.node_core.specs.declared.derive.DeriveInput.{DeriveInput}
use Rattle.codegen_program.specs.MagicFields.{magic_of}
use Rattle.codegen_program.specs.declared.forwarded.Magic.{Magic}
use Rattle.codegen_program.specs.declared.forwarded.Magic.TheVariants as magic
use Rattle.codegen_program.specs.declared.program.Derive.TheVariants as derive
use Rattle.meaning_core.specs.Elements.{is_body, is_generics}
use Rattle.options_core.specs.Parts.{is_part, part_fields}
use Rattle.run_accepted.specs.Members.{body_fields}
use Rattle.run_accepted.specs.Readers.{fdi_reader}
use Rattle.run_accepted.specs.Stages.{options_of}
use Rattle.run_accepted.specs.Unbuilt.{field_places, input_places, is_part_name, name_places}
use Rattle.run_accepted.specs.Values.{Rules}
use Rattle.run_accepted.proofs.BuiltLemmas.{each-weaker, no_part_names, told-not}
use Rattle.law_machine.specs.ElementDecls.{FormTakesNoBody, TakesNoBody}
use Rattle.law_options.specs.Meant.{fields_in, meant_field}
use Rattle.law_options.specs.MeantElements.{input_element, part_decl}
use Rattle.law_options.specs.Texts.{input_outer}
use Rattle.law_options.proofs.Elements.{form_same}
use Rattle.law_options.proofs.Members.{agree_body, agree_generics, parts_such}
use Rattle.law_options.proofs.Taken.{names, none_pass, not_taken, word_of_part}

module _ (what : Magic) (told : is_part_name (word_of_part what) ≡ true) where
  -- a field that takes such a part is told
  not_told : (field : Field) → field_places field ≡ [] → is_part what (magic_of derive.FromDeriveInput field) ≡ false
  not_told field none =
      not_taken what (magic_of derive.FromDeriveInput field)
      (λ takes.
      let own = names what field.ident takes in
      let not = told-not (is_part_name (ident_text own.one)) own.one.span (ap name_places (sym own.is) ∙ none) in
      cc (not, ap is_part_name own.written, told))

  none_takes : (decl : DeriveInput) → input_places decl ≡ [] → part_fields derive.FromDeriveInput what (body_fields decl.body) ≡ []
  none_takes decl built =
      none_pass what (body_fields decl.body)
      (each-weaker (λ field. field_places field ≡ []) (λ field. is_part what (magic_of derive.FromDeriveInput field) ≡ false) not_told (body_fields decl.body)
      (no_part_names decl built))

pub takes_no_body : (rules : Rules) (number : ℕ) (decl : DeriveInput) → input_places decl ≡ [] → TakesNoBody (input_outer rules number decl)
takes_no_body rules number decl built =
    let options = options_of (fdi_reader rules decl) decl in
    let decls = map meant_field (fields_in options.base.container.body) in
    let of_body =
    parts_such options is_body magic.Body agree_body (body_fields decl.body) decls
    ∙ ap (map (λ (field : Field). part_decl (input_element options) field magic.Body)) (none_takes magic.Body refl decl built) in
    let of_generics =
    parts_such options is_generics magic.Generics agree_generics (body_fields decl.body) decls
    ∙ ap (map (λ (field : Field). part_decl (input_element options) field magic.Generics)) (none_takes magic.Generics refl decl built) in
    subst FormTakesNoBody (sym (form_same rules decl built)) (of_body, of_generics)
