use Rattle.std.proofs.Common.{◌≡◌, ◌∙◌, ℕ, Bool, true, false, cond, Option, Some, None, option_map, is_some, refl, ap, sym, List}
use Rattle.std.specs.Prelude.{slice_get, unwrap_or}
use Rattle.std.specs.Option.{option_copied}
use Rattle.std.proofs.lemmas.Option.{slice_get-map}
use Rattle.node_core.specs.declared.derive.DeriveInput.{DeriveInput}
use Rattle.law_spans.specs.Erased.{erased_type}
use Rattle.codegen_program.specs.declared.program.Program.{Program}
use Rattle.machine_forms.specs.Convert.{declared_default, decl_default}
use Rattle.machine_forms.specs.HostSays.{HostSays, defaulted, erased_decls}
use Rattle.machine_forms.specs.Machine.{setting_of}
use Rattle.machine_forms.specs.Made.{named_type}
use Rattle.machine_fit.proofs.checker.Checker.declared_has_default.Goals as goal

chosen : {A : Type 0} (b : Bool) (it : A) → b ≡ is_some (cond b (Some it) None)
chosen true it = refl
chosen false it = refl

module _ (host : HostSays) (program : Program) where
  said : (found : Option DeriveInput) → unwrap_or (option_map (λ decl. host.has_default (erased_decls program.decls) (erased_type (named_type decl.ident.text))) found) false ≡ is_some (decl_default (setting_of host program) found)
  said None = refl
  said (Some decl) = chosen (host.has_default (erased_decls program.decls) (erased_type (named_type decl.ident.text))) _

  flag_is : (flags : List Bool) (number : ℕ) → flags ≡ defaulted host program.decls → unwrap_or (slice_get flags number) false ≡ is_some (declared_default (setting_of host program) number)
  flag_is flags number is =
      ap (λ flags. unwrap_or (slice_get flags number) false) is
      ∙ ap (λ found. unwrap_or found false) (slice_get-map (λ (decl : DeriveInput). host.has_default (erased_decls program.decls) (erased_type (named_type decl.ident.text))) program.decls number)
      ∙ said (slice_get program.decls number)

pub returns-in-Some : goal.returns-in-Some
returns-in-Some g c =
    ap (λ found. unwrap_or (option_copied found) false) (sym c.in-Some.is)
    ∙ ap (λ found. unwrap_or found false) c.get.ensures.value
    ∙ flag_is (g.H.Host.says c.args.self.now.host.now) c.args.self.now.program.now c.args.self.now.defaults c.args.number c.args.self.now.are_defaults

pub returns-in-None : goal.returns-in-None
returns-in-None g c =
    ap (λ found. unwrap_or (option_copied found) false) (sym c.in-None.is)
    ∙ ap (λ found. unwrap_or found false) c.get.ensures.value
    ∙ flag_is (g.H.Host.says c.args.self.now.host.now) c.args.self.now.program.now c.args.self.now.defaults c.args.number c.args.self.now.are_defaults
