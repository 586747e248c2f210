-- A unit that options give is of the declaration of its number.
use Rattle.std.proofs.Common.{◌≡◌, ◌∙◌, ◌<◌, ◌^◌, ℕ, Bool, true, false, if◌then◌else◌, [], ◌∷◌, flat_map, length, map, Option, Some, None, refl, sym, ap, subst}
use Rattle.std.specs.Prelude.{IfSome}
use Rattle.std.specs.Option.{option_copied}
use Rattle.std.proofs.lemmas.List.{length-map}
use Rattle.std.proofs.lemmas.List.Elements.{All-from_recursion}
use mathlib.Core.List.{map-map}
use Rattle.node_expr.specs.declared.path.Path.{Path}
use Rattle.node_core.specs.declared.data.Fields.TheVariants as fields
use Rattle.node_core.specs.declared.data.«Data».{«Data»}
use Rattle.node_core.specs.declared.data.«Data».TheVariants as body
use Rattle.node_core.specs.declared.derive.DeriveInput.{DeriveInput}
use Rattle.codegen_program.specs.declared.program.Derive.{Derive}
use Rattle.codegen_program.specs.declared.program.Derive.TheVariants as derive
use Rattle.codegen_program.specs.declared.program.Func.{Func}
use Rattle.codegen_program.specs.declared.program.«Unit».{«Unit» as Unit'}
use Rattle.codegen_core.specs.Compiled.{fields_of as left_fields, is_usual, other_krate, unit_with}
use Rattle.codegen_core.specs.declared.trait_impl.TraitImpl.{TraitImpl}
use Rattle.codegen_outer.specs.BareLaws.{bare_unit}
use Rattle.law_options.specs.Body.{start_body, with_fields}
use Rattle.law_options.specs.Core.{Core}
use Rattle.law_options.specs.Members.{body_fields}
use Rattle.law_options.specs.Stages.{container_options, field_faults, good_fields, meta_reader, options_of}
use Rattle.law_options.specs.Readers.{fdi_reader}
use Rattle.law_options.specs.Values.{Rules}
use Rattle.run_accepted.specs.Attributes.{body_without, field_without, generics_without, without_attributes}
use Rattle.run_accepted.specs.Compiled.{IsUnitUnder}
use Rattle.run_accepted.specs.Pairs.{faults_under}
use Rattle.run_accepted.specs.MemberViews.{IsImpl}
use Rattle.run_accepted.specs.Plain.{IsPlainDecl, IsPlainUnder}
use Rattle.run_accepted.proofs.ListLemmas.{at_place}
use Rattle.run_accepted.proofs.PlainLemmas.{listed_unit, meta_core_is, meta_is_listed}
use Rattle.law_options.proofs.Elements.{listed_bare}
use Rattle.law_options.proofs.Faultless.{no_field_faults}
use Rattle.law_options.proofs.Parts.{is_bare, own_faults, own_same}
use Rattle.law_given.specs.Claims.{GivenIsOfDeclarations}
use Rattle.law_given.specs.Given.{HasFewFields, IsGivenUnit}
use Rattle.law_given.specs.Owned.{IsOfDeclaration, member_of, numbered, slots_of}
use Rattle.law_given.proofs.Members.{struct_members}
use Rattle.law_given.proofs.Runs.{built_so, left_at}
use Rattle.law_given.proofs.Slots.{input_slots, left_member, list_slots}

-- ---- fields without attributes

fields_bare : (it : «Data») → body_fields (body_without it) ≡ map field_without (body_fields it)
fields_bare (body.Struct it) = listed_bare it.fields
fields_bare (body.Enum it) = refl
fields_bare (body.Union it) = refl

members_bare : (it : «Data») → map member_of (body_fields (body_without it)) ≡ map member_of (body_fields it)
members_bare it = ap (map member_of) (fields_bare it) ∙ map-map member_of field_without (body_fields it)

few_bare : (it : «Data») → length (body_fields it) < 2 ^ 32 → length (body_fields (body_without it)) < 2 ^ 32
few_bare it few = subst (λ n. n < 2 ^ 32) (sym (ap length (fields_bare it) ∙ length-map (body_fields it) field_without)) few

-- ---- the path to `darling`

unusual_if : (path : Path) (usual : Bool) → is_usual path ≡ usual → IfSome (if usual then None else Some path) (λ it. is_usual it ≡ false)
unusual_if path true is = tt
unusual_if path false is = is

unusual : (krate : Option Path) → IfSome (other_krate krate) (λ it. is_usual it ≡ false)
unusual None = tt
unusual (Some path) = unusual_if path (is_usual path) refl

-- ---- units

module _ (rules : Rules) (decl : DeriveInput) (few : HasFewFields decl) where
  -- a unit that is compiled from all that the options of the declaration leave
  unit_owned : (core whole : Core) (left : TraitImpl) (number : ℕ) (it : Derive) (parse : Bool) (func : Func) → IsImpl left whole
      → whole.ident ≡ decl.ident → whole.generics ≡ decl.generics
      → whole.body ≡ with_fields (start_body decl.body) (good_fields rules core (body_fields decl.body))
      → flat_map (field_faults rules core) (body_fields decl.body) ≡ [] → slots_of func ≡ numbered (map left_member (left_fields left))
      → IsOfDeclaration (without_attributes decl) (unit_with number it left parse (func ∷ []))
  unit_owned core whole left number it parse func is ident generics same none slots =
      let members = struct_members rules core decl.body left whole is same none ∙ sym (members_bare decl.body) in
      record {
        ident = is.ident ∙ ident;
        generics = ap generics_without (is.generics ∙ generics);
        slots =
            All-from_recursion (λ func. slots_of func ≡ numbered (map member_of (body_fields (body_without decl.body)))) (func ∷ [])
            (slots ∙ ap numbered members, tt);
        few = few_bare decl.body few;
        krate = unusual (option_copied left.krate);
      }

  owned : (number : ℕ) (it : Derive) (unit : Unit') → IsPlainDecl decl → IsPlainUnder decl it → faults_under rules decl it ≡ [] → IsUnitUnder rules number decl it unit
      → IsOfDeclaration (without_attributes decl) unit
  owned number derive.FromMeta unit plain built none (left, is, compiled) =
      let set = container_options (meta_reader rules decl) decl in
      let whole = (options_of (meta_reader rules decl) decl).base in
      let listed = compiled ∙ listed_unit left number (meta_is_listed rules decl left plain is) in
      let same = meta_core_is rules decl plain in
      subst (IsOfDeclaration (without_attributes decl)) (sym listed)
      (unit_owned set.base whole left.base number derive.FromMeta left.derive_syn_parse _ is.base
      (ap (λ (core : Core). core.ident) same) (ap (λ (core : Core). core.generics) same) (ap (λ (core : Core). core.body) same)
      (no_field_faults (meta_reader rules decl) decl none) (list_slots left.base))
  owned number derive.FromDeriveInput unit plain built none (left, is, compiled) =
      let core = (container_options (fdi_reader rules decl) decl).base.container in
      let whole = (options_of (fdi_reader rules decl) decl).base.container in
      subst (IsOfDeclaration (without_attributes decl)) (sym (compiled ∙ bare_unit left number (is_bare rules decl built left is)))
      (unit_owned core whole left.outer.base number derive.FromDeriveInput false _ is.outer.base refl refl
      (ap (λ its. with_fields (start_body decl.body) (good_fields rules core its)) (own_same decl built))
      (sym (own_faults rules core decl built) ∙ no_field_faults (fdi_reader rules decl) decl none) (input_slots left))
  owned number derive.FromAttributes unit plain built none is = absurd built
  owned number derive.FromField unit plain built none is = absurd built
  owned number derive.FromTypeParam unit plain built none is = absurd built
  owned number derive.FromVariant unit plain built none is = absurd built

pub given_is_of_declarations : GivenIsOfDeclarations
given_is_of_declarations program number unit given at =
    let is = at_place (IsGivenUnit program.decls) program.units number unit given.units at in (
      left_at program number unit given at,
      (without_attributes is.written, is.stands, owned is.rules is.written is.few unit.decl unit.derive unit is.built (built_so is.written unit.derive is.built is.named) is.faultless is.compiled),
    )
