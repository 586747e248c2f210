-- What is accepted can be run, as options leave it.
use Rattle.std.proofs.Common.{◌≡◌, ◌∙◌, ℕ, Bool, true, List, [], map, Some, None, option_map, slice_get, IsTrue, All, refl, sym, ap, subst}
use Rattle.std.specs.List.{AllByRecursion}
use Rattle.std.proofs.lemmas.List.Elements.{recursion_from_All}
use Rattle.std.proofs.lemmas.Option.{slice_get-map}
use Rattle.tok_types.specs.declared.span.Span.{Span}
use Rattle.node_core.specs.declared.data.Fields.{Fields}
use Rattle.node_core.specs.declared.data.Fields.TheVariants as fields
use Rattle.node_core.specs.declared.data.«Data».{«Data»}
use Rattle.node_core.specs.declared.data.«Data».TheVariants as body
use Rattle.node_core.specs.declared.derive.DeriveInput.{DeriveInput}
use Rattle.codegen_core.specs.Compiled.{compiled_list}
use Rattle.codegen_program.specs.declared.program.Program.{Program}
use Rattle.meaning_core.specs.HostSays.{HostSays}
use Rattle.meaning_core.specs.Decls.{member_name}
use Rattle.meaning_core.specs.Made.{named_type}
use Rattle.law_asks.specs.Places.{earliest, earliest_of}
use Rattle.law_asks.specs.Refusals.{first_in_text}
use Rattle.law_asks.specs.Units.{is_receiver}
use Rattle.law_asks.specs.MachineFormsRefusals.{Refusals}
use Rattle.codegen_core.specs.declared.form.Unsupported.{Unsupported}
use Rattle.law_asks.specs.Unfitness.{refusals}
use Rattle.meaning_core.specs.Decl.{Decl}
use Rattle.machine_steps.specs.Machine.{unit_type}
use Rattle.run_accepted.specs.Attributes.{without_attributes}
use Rattle.run_source.specs.Members.{body_fields}
use Rattle.node_core.specs.Bodies.{field_list}
use Rattle.machine_steps.specs.Receivers.{variants_of}
use Rattle.run_source.specs.Stages.{container_options, meta_reader, options_of}
use Rattle.run_accepted.specs.Plain.{IsPlainDecl}
use Rattle.run_accepted.specs.Unbuilt.{are_named, has_named_fields}
use Rattle.run_source.specs.Values.{Rules}
use Rattle.run_accepted.specs.Accepted.{IsAccepted}
use Rattle.run_accepted.proofs.FitLemmas.{no_rows}
use Rattle.run_accepted.proofs.PlainLemmas.{listed_unit, meta_is_listed, plain_input}
use Rattle.run_accepted.proofs.ListLemmas.{at_place}
use Rattle.run_accepted.proofs.PlaceLemmas.{none_first}
use Rattle.law_options.specs.Meant.{meant_decl}
use Rattle.law_options.specs.Texts.{input_decl, meta_decls}
use Rattle.law_options.proofs.Declared.{decl_is, input_options_are, meta_own, meta_whole_is}
use Rattle.law_options.proofs.Metas.{plain_meant}
use Rattle.law_options.proofs.Idents.{no_ident}
use Rattle.law_options.proofs.Parts.{is_bare}
use Rattle.law_asks.specs.Compiles.{IsInputUnit}
use Rattle.law_asks.specs.LawFitsClaims.{AreSound, has_names}
use Rattle.law_asks.specs.Sound.{AreNamed, Differ, IsSound}
use Rattle.law_asks.specs.Asked.{IsMet, IsOf}
use Rattle.law_fields.specs.Fields.{AreTextFields, HasTextFields, IsTextBody, IsTextField}
use Rattle.law_accepted.specs.Claims.{AcceptedIsSound}
use Rattle.law_asks.proofs.Asks.{input_is_met, items_are_met}
use Rattle.law_accepted.proofs.Lists.{two_at}
use Rattle.law_accepted.proofs.Names.{members_differ, names_are}
use Rattle.law_accepted.proofs.Options.{input_is, items_are}
use Rattle.law_accepted.proofs.Pairs.{input_made, item_made}

-- where nothing stands against a program, no type and no callable is unknown
none_unknown : (it : Refusals) → first_in_text it ≡ None → (it.unknown_types ≡ []) × (it.unknown_callables ≡ [])
none_unknown it none =
    let rows =
    no_rows (earliest it.duplicate_names) (earliest_of (λ (it : Unsupported). it.span) it.unsupported) (earliest it.unknown_types) (earliest it.unknown_callables) it.has_receiver none in
    (none_first (λ (span : Span). span) it.unknown_types rows.2, none_first (λ (span : Span). span) it.unknown_callables rows.3)

-- what is of a declaration of the program, and met there, can be run
sound_by : (host : HostSays) (program : Program) (declared : DeriveInput) (decl : Decl) (reads : Bool) → slice_get program.decls decl.number ≡ Some declared → IsOf declared decl
    → IsMet host program decl reads → IsSound host program decl reads
sound_by host program declared decl reads stands is met =
    record {
      declared = declared;
      is_declared = stands;
      named = is.named;
      is_struct = is.is_struct;
      name = is.name;
      type = is.type;
      members = is.members;
      fields = met.fields;
      differ = is.differ;
      default = met.default;
      transform = met.transform;
    }

-- fields in braces that a text declares
listed_are : (it : Fields) → are_named it ≡ true → AreTextFields it → AllByRecursion IsTextField (field_list it)
listed_are (fields.Named it) named have = recursion_from_All IsTextField it.named have
listed_are (fields.Unnamed it) named have = absurd cc
listed_are fields.Unit named have = absurd cc

named_are : (it : «Data») → has_named_fields it ≡ true → IsTextBody it → AllByRecursion IsTextField (body_fields it)
named_are (body.Struct it) named have = listed_are it.fields named have
named_are (body.Enum it) named have = absurd cc
named_are (body.Union it) named have = absurd cc

module _ (host : HostSays) (rules : Rules) (decls : List DeriveInput) (program : Program) (plain : All IsPlainDecl decls) (idents : All HasTextFields decls)
    (is : IsAccepted host rules decls program) where
  known : ((refusals host program).unknown_types ≡ []) × ((refusals host program).unknown_callables ≡ [])
  known = none_unknown (refusals host program) is.fits

  bare_at : (number : ℕ) (decl : DeriveInput) → slice_get decls number ≡ Some decl → slice_get program.decls number ≡ Some (without_attributes decl)
  bare_at number decl stands =
      ap (λ bare. slice_get bare number) is.sound.compiled.bare ∙ slice_get-map without_attributes decls number ∙ ap (option_map without_attributes) stands

  module _ (number : ℕ) (decl : DeriveInput) (stands : slice_get decls number ≡ Some decl) where
    is_named : has_named_fields decl.body ≡ true
    is_named = (at_place IsPlainDecl decls number decl plain stands).braces

    have_idents : AllByRecursion IsTextField (body_fields decl.body)
    have_idents = named_are decl.body is_named (at_place HasTextFields decls number decl idents stands)

    names_differ : Differ (map member_name (body_fields decl.body))
    names_differ = members_differ decls is.sound.single number decl stands is_named have_idents

  -- items are read as a declaration that can be run
  items_sound : AreSound host program (meta_decls rules decls)
  items_sound number it found =
      let (made, same) = item_made rules decls program.units is.sound.options is.sound.compiled.units number it found in
      let decl = made.decl in
      let options = options_of (meta_reader rules decl) decl in
      let meant = meant_decl number [] options.base in
      let bare = bare_at number decl made.stands in
      let whole = items_are rules number decl (is_named number decl made.stands) (have_idents number decl made.stands) (names_differ number decl made.stands) made.faultless in
      let (left, left_is, compiled) = made.made in
      let is_listed = meta_is_listed rules decl left (at_place IsPlainDecl decls number decl plain made.stands) left_is in
      let listed = compiled ∙ listed_unit left number is_listed in
      let met =
      items_are_met host program made.unit meant (without_attributes decl) left made.among made.numbered (listed ∙ ap (compiled_list left) (sym made.numbered))
      (decl_is left.base options.base number [] left_is.base (meta_whole_is rules (container_options (meta_reader rules decl) decl).base decl.body (meta_own rules decl) refl)) known.0 known.1 bare whole in
      (meant, same ∙ plain_meant left options left_is is_listed number (variants_of decl.body), refl, sound_by host program (without_attributes decl) meant true bare whole met)

  -- items of a text are read as a declaration that can be run
  input_sound : (number : ℕ) (decl : DeriveInput) → slice_get decls number ≡ Some decl → IsTrue (is_receiver program.units number)
      → IsSound host program (input_decl rules number decl) (has_names (input_decl rules number decl).attributes)
  input_sound number decl stands receives =
      let made = input_made rules decls program.units is.sound.options is.sound.compiled.units number receives in
      let own = made.decl in
      let meant = input_decl rules number own in
      let bare = bare_at number own made.stands in
      let input = plain_input own (at_place IsPlainDecl decls number own plain made.stands) (made.derives refl) in
      let whole = input_is rules number own (is_named number own made.stands) (have_idents number own made.stands) (names_differ number own made.stands) input made.faultless in
      let (left, left_is, compiled) = made.made in
      let unit_is : IsInputUnit made.unit meant = (
        left,
        compiled,
        input_options_are rules own left number left_is (is_bare rules own input left left_is) (left_is.outer.from_ident ∙ no_ident rules own input.built),
        ap unit_type compiled ∙ ap (λ ident. named_type ident.text) left_is.outer.base.ident,
      ) in
      let met =
      input_is_met host program made.unit meant (without_attributes own) made.among made.numbered unit_is known.0 known.1 bare whole in
      let P : DeriveInput → Type 0 = λ some. IsSound host program (input_decl rules number some) (has_names (input_decl rules number some).attributes) in
      subst P (two_at decls number own decl made.stands stands) (sound_by host program (without_attributes own) meant (has_names meant.attributes) bare whole met)

  all_sound : AreNamed program.decls
      × AreSound host program (meta_decls rules decls)
      × ((number : ℕ) (decl : DeriveInput) → slice_get decls number ≡ Some decl → IsTrue (is_receiver program.units number)
      → IsSound host program (input_decl rules number decl) (has_names (input_decl rules number decl).attributes))
  all_sound = (subst AreNamed (sym is.sound.compiled.bare) (names_are decls is.sound.single), items_sound, input_sound)

pub accepted_is_sound : AcceptedIsSound
accepted_is_sound host rules decls program plain idents is = all_sound host rules decls program plain idents is
