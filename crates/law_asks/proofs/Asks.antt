-- What the units of a program that fits its host ask is there.
use Rattle.std.proofs.Common.{◌≡◌, ◌∙◌, ◌+◌, Bool, true, false, List, [], slice_get, Option, Some, None, IfSome, Contains, refl, ap, sym, subst, subst₂, arith}
use Rattle.std.specs.Option.{option_copied}
use Rattle.std.specs.Prelude.{option_and_then}
use Rattle.node_expr.specs.declared.ty.«Type».{«Type» as Type'}
use Rattle.node_span.specs.Spanned.{path_span}
use Rattle.node_core.specs.declared.data.Field.{Field}
use Rattle.node_core.specs.declared.data.«Data».{«Data»}
use Rattle.node_core.specs.declared.derive.DeriveInput.{DeriveInput}
use Rattle.codegen_program.specs.declared.arm.PostfixTransform.{PostfixTransform}
use Rattle.codegen_program.specs.declared.init.DefaultSource.{DefaultSource}
use Rattle.codegen_program.specs.declared.init.DefaultSource.TheVariants as sources
use Rattle.codegen_program.specs.declared.program.Derive.{Derive}
use Rattle.codegen_program.specs.declared.program.Program.{Program}
use Rattle.codegen_program.specs.declared.program.«Unit».{«Unit» as Unit'}
use Rattle.codegen_core.specs.Compiled.{default_of, fields_of}
use Rattle.codegen_core.specs.declared.trait_impl.TraitImpl.{TraitImpl}
use Rattle.law_fits.specs.HostSays.{HostSays}
use Rattle.law_fits.specs.Use.TheVariants as use_at
use Rattle.law_fits.specs.Reading.{transform_use}
use Rattle.law_fits.specs.Setting.{called}
use Rattle.machine_forms.specs.Asks.{Ask, Whole, Transform, unit_asks}
use Rattle.law_fits.specs.Callables.{decl_type, offers, unknown_callables, unoffered_ask, unoffered_post}
use Rattle.law_fits.specs.Fits.{has_default}
use Rattle.law_fits.specs.Parts.{parts_asked}
use Rattle.law_fits.specs.Types.{unknown_types}
use Rattle.law_fits.specs.Decl.{Decl}
use Rattle.law_machine.specs.Compiles.{IsDecl, meant_default}
use Rattle.law_fits.specs.Claims.{has_names}
use Rattle.law_fits.specs.Sound.{IsDefault, IsTransform}
use Rattle.law_asks.specs.Asked.{IsMet, IsOf}
use Rattle.law_asks.specs.Claims.{InputIsMet, ItemsAreMet}
use Rattle.law_asks.proofs.Found.{defaulted, fits, fitting, offered, unless_none}
use Rattle.law_asks.proofs.Members.{fields_are_sound, is_offered}
use Rattle.law_asks.proofs.NoParts.{no_parts}
use Rattle.law_asks.proofs.Several.{takes, takes-declared}
use Rattle.law_asks.proofs.Units.{asks-Member, asks-Read, asks-Transform, asks-Whole, base_asks, input_unit_asks, meta_unit_asks}

module _ (host : HostSays) (program : Program) (derive : Derive) (type : Type') (that : «Data») (named : List Field) where
  default_by : (source : Option DefaultSource) → ((from : DefaultSource) → source ≡ Some from → unoffered_ask host program derive type that named (Whole from) ≡ [])
      → (source ≡ Some sources.Trait → has_default host program type ≡ true) → IfSome (option_and_then meant_default source) (IsDefault host program type)
  default_by None none has = tt
  default_by (Some sources.Trait) none has = has refl
  default_by (Some (sources.Explicit callable)) none has = is_offered host program use_at.Default type (Some callable) (none (sources.Explicit callable) refl)
  default_by (Some sources.FromIdent) none has = tt

  transform_by : (it : Option PostfixTransform) → ((post : PostfixTransform) → it ≡ Some post → unoffered_post host program type post ≡ [])
      → IfSome it (IsTransform host program type)
  transform_by None none = tt
  transform_by (Some post) none = unless_none (offers host program (Some (called post.function)) (transform_use post) type) (path_span post.function) (none post refl)

-- what a unit asks, which asks this for the declaration, is there
module _ (host : HostSays) (program : Program) (unit : Unit') (decl : Decl) (declared : DeriveInput) (reads : Bool) (base : TraitImpl)
    (held : Contains program.units unit) (numbered : unit.decl ≡ decl.number) (are : unit_asks unit ≡ base_asks reads decl base) (is : IsDecl base decl)
    (types : unknown_types host program ≡ []) (callables : unknown_callables host program ≡ [])
    (found : slice_get program.decls decl.number ≡ Some declared) (of : IsOf declared decl) where
  among : (ask : Ask) → Contains (base_asks reads decl base) ask → Contains (unit_asks unit) ask
  among ask there = subst (λ asks. Contains asks ask) (sym are) there

  plain : parts_asked (unit_asks unit) ≡ []
  plain = ap parts_asked are ∙ no_parts reads decl base

  nothing_unoffered : (ask : Ask) → Contains (unit_asks unit) ask → unoffered_ask host program unit.derive (decl_type declared) declared.body of.named ask ≡ []
  nothing_unoffered = offered host program decl.number unit declared of.named held numbered found of.is_struct plain callables

  is_met : IsMet host program decl reads
  is_met = record {
    fields =
        fields_are_sound host program decl reads unit.derive (decl_type declared) declared.body of.named (unit_asks unit)
        (fits host program decl.number unit declared of.named held numbered found of.is_struct plain types)
        nothing_unoffered
        (fitting host program decl.number unit declared of.named held numbered found of.is_struct plain types)
        0 (fields_of base) of.named decl.body.fields is.fields of.members
        (λ at. let same : 0 + at ≡ at = omega arith in ap (slice_get of.named) same)
        (λ at le. ap (λ asks. takes asks at) are ∙ takes-declared at reads decl base)
        (λ it there. among _ (asks-Member reads decl base it there))
        (λ it reading there. among _ (asks-Read reads decl base reading it there));
    default =
        subst₂ (λ it type. IfSome it (IsDefault host program type)) is.default of.type
        (default_by host program unit.derive (decl_type declared) declared.body of.named (default_of false base)
        (λ it e. nothing_unoffered (Whole it) (among (Whole it) (asks-Whole reads decl base it e)))
        (λ e. defaulted host program decl.number unit declared of.named held numbered found of.is_struct plain types (among (Whole sources.Trait) (asks-Whole reads decl base sources.Trait e))));
    transform =
        subst₂ (λ it type. IfSome it (IsTransform host program type)) is.transform of.type
        (transform_by host program unit.derive (decl_type declared) declared.body of.named (option_copied base.post_transform)
        (λ post e. nothing_unoffered (Transform post) (among (Transform post) (asks-Transform reads decl base post e))));
  }

pub input_is_met : InputIsMet
input_is_met host program unit decl declared held numbered (left, compiled, is, typed) types callables found of =
    is_met host program unit decl declared (has_names decl.attributes) left.outer.base held numbered
    (ap unit_asks compiled ∙ input_unit_asks decl left decl.number is) is.base types callables found of

pub items_are_met : ItemsAreMet
items_are_met host program unit decl declared left held numbered compiled is types callables found of =
    is_met host program unit decl declared true left.base held numbered
    (ap unit_asks compiled ∙ meta_unit_asks decl left unit.decl is) is types callables found of
