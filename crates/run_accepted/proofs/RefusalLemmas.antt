-- Declarations whose program can't be run are refused for what stands against it.
use Rattle.std.proofs.Common.{◌≡◌, ◌∙◌, Bool, true, false, List, Option, Some, None, refl, sym, ap, inl, inr}
use Rattle.tok_types.specs.declared.span.Span.{Span}
use Rattle.node_core.specs.declared.derive.DeriveInput.{DeriveInput}
use Rattle.codegen_program.specs.declared.program.Program.{Program}
use Rattle.machine_host.specs.HostSays.{HostSays}
use Rattle.machine_forms.specs.Places.{earliest, earliest_of}
use Rattle.machine_forms.specs.Refusals.{first_row}
use Rattle.codegen_core.specs.declared.form.Unsupported.{Unsupported}
use Rattle.machine_forms.specs.declared.unfit.Unfit.{Unfit}
use Rattle.machine_forms.specs.declared.unfit.Unfit.TheVariants as unfit
use Rattle.machine_fit.specs.Unfitness.{refusals}
use Rattle.options_rows.specs.Values.{Rules}
use Rattle.run_accepted.specs.Accepted.{IsSound, Refuses, error_of, unfitness}
use Rattle.run_accepted.proofs.TwinLemmas.{no_duplicates}

-- where no name stands twice, the first row is another
no_name : (form : Option Unsupported) (type callable : Option Span) (has_receiver : Bool) (span : Span)
    → first_row None form type callable has_receiver ≡ Some (unfit.DuplicateName span) → ⊥
no_name (Some form) type callable has_receiver span is = cc
no_name None (Some type) callable has_receiver span is = cc
no_name None None (Some callable) has_receiver span is = cc
no_name None None None true span is = cc
no_name None None None false span is = cc

module _ (host : HostSays) (rules : Rules) (decls : List DeriveInput) (program : Program) where
  -- what stands against running the program
  pub unfit_refuses : (it : Unfit) → IsSound rules decls program → unfitness host program ≡ Some it → Refuses host rules decls (error_of it)
  unfit_refuses (unfit.DuplicateName span) sound is =
      let all = refusals host program in
      let form = earliest_of (λ (it : Unsupported). it.span) all.unsupported in
      let type = earliest all.unknown_types in
      let callable = earliest all.unknown_callables in
      absurd (no_name form type callable all.has_receiver span
      (ap (λ names. first_row (earliest names) form type callable all.has_receiver) (sym (no_duplicates rules decls program sound.single sound.compiled)) ∙ is))
  unfit_refuses (unfit.Unsupported form span) sound is = inr (inr (record { program = program; sound = sound; unfit = is }))
  unfit_refuses (unfit.UnknownType span) sound is = inr (record { program = program; sound = sound; unfit = is })
  unfit_refuses (unfit.UnknownCallable span) sound is = inr (record { program = program; sound = sound; unfit = is })
  unfit_refuses unfit.NoReceiver sound is = inr (record { program = program; sound = sound; unfit = is })
  unfit_refuses unfit.NoMemory sound is = inl refl
