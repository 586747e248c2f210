-- The members of what is built, one after another.
use Rattle.std.proofs.Common.{◌≡◌, true, cond, List, [], ◌++◌, map, Option, Some, None, option_map, Result, refl, ap, sym, ◌∙◌}
use Rattle.std.specs.declared.alloc.AllocError.{AllocError}
use Rattle.tok_types.specs.Ident.{ident_text}
use Rattle.tok_types.specs.declared.ident.Ident.{Ident}
use Rattle.node_core.specs.declared.style.Style.{Style}
use Rattle.error_fault.specs.Outcome.{Outcome, Value, Faults, bind, on_value}
use Rattle.machine_value.specs.declared.value.Value.{Value as Datum}
use Rattle.machine_value.specs.Members.{labelled}
use Rattle.codegen_program.specs.declared.forwarded.Forwarded.{Forwarded}
use Rattle.codegen_program.specs.declared.init.Init.{Init}
use Rattle.machine_read.specs.Setting.{Setting}
use Rattle.machine_read.specs.Slots.{init_values}
use Rattle.machine_read.specs.State.{State}
use Rattle.machine_read.specs.Asked.{Asked, element_asked}
use Rattle.machine_read.specs.Building.{are_stored, build_step, built, built_of, built_style, ident_among, made, part_named, part_value, woven}
use Rattle.machine_read.specs.Progress.{Aside, Progress, Going, Built, Ended, Stuck, built_or_stuck, going}
use Rattle.machine_read.specs.Receivers.{Receiver, declared_fields}
use Rattle.machine_read.proofs.Building.{woven_none}
use Rattle.machine_state.specs.declared.progress.Progress.{Progress as Come}
use Rattle.machine_state.specs.Steps.{Goes}
use Rattle.machine_outer.specs.Seen.{aside_of}
use Rattle.machine_run.specs.Building.{Members, form_built}
use Rattle.machine_run.specs.Steps.{Proceeds, reached}
use Rattle.machine_run.specs.declared.standing.Standing.{Standing}
use Rattle.machine_state.proofs.Steps.{ok_same}

-- the members, and then those of the values behind
abbrev pub behind : Setting → State → Members → List Init → Option (Outcome Members)
behind setting state members inits =
    option_map (on_value (λ values. members ++ labelled (map (λ init. init.member) inits) values)) (init_values setting state.whole state.slots inits)

module _ (setting : Setting) (receiver : Receiver) (asked : Asked) (style : Style) (same : style ≡ built_style receiver asked)
    (name : Ident) (variant : Option Ident) (inits : List Init) where
  -- the form of the members, in this style
  abbrev formed : Style → List Datum → Datum
  formed style values = made style (ident_text name) variant (labelled (map (λ init. init.member) inits) values)

  built_bare : (aside : Aside) (values : Outcome (List Datum))
      → built receiver asked aside name variant [] inits setting values ≡ on_value (formed (built_style receiver asked)) values
  built_bare aside (Value values) =
      ap (λ members. Value (made (built_style receiver asked) (ident_text name) variant members))
      (woven_none (declared_fields receiver) (labelled (map (λ init. init.member) inits) values))
  built_bare aside (Faults fault more) = refl

  built_same : (aside : Aside) (values : Option (Outcome (List Datum)))
      → built_or_stuck (option_map (on_value (formed style)) values) ≡ built_or_stuck (option_map (built receiver asked aside name variant [] inits setting) values)
  built_same aside None = refl
  built_same aside (Some values) = ap (λ style. Built (on_value (formed style) values)) same ∙ ap Built (sym (built_bare aside values))

  -- a form without parts of the element is that of its members
  pub bare_step : (progress : Progress)
      → going (λ state aside. form_built setting style name variant inits state) progress ≡ build_step setting receiver asked name variant [] inits progress
  bare_step (Going state aside) = built_same aside (init_values setting state.whole state.slots inits)
  bare_step (Built outcome) = refl
  bare_step (Ended fault more) = refl
  bare_step Stuck = refl

  -- so a run that builds that form builds what is asked for
  pub form_is : (forwarded : List Forwarded) (result : Result Come AllocError) (standing : Standing) (before : Come)
      → forwarded ≡ [] → Goes (going (λ state aside. form_built setting style name variant inits state)) standing.state before standing.state result
      → Proceeds (build_step setting receiver asked name variant forwarded inits) standing before standing result
  form_is forwarded result standing before bare known =
      let progress = reached standing before in
      let step : List Forwarded → Progress = λ forwarded. build_step setting receiver asked name variant forwarded inits progress in
      ok_same result (reached standing) (going (λ state aside. form_built setting style name variant inits state) progress) (step forwarded)
      (bare_step progress ∙ ap step (sym bare)) (known (aside_of standing.aside))

module _ (setting : Setting) (receiver : Receiver) (asked : Asked) (aside : Aside) (name : Ident) (variant : Option Ident)
    (forwarded : List Forwarded) (inits : List Init) where
  -- the values under the names of their members
  abbrev pub named : Outcome (List Datum) → Outcome Members
  named values = on_value (labelled (map (λ init. init.member) inits)) values

  -- what is built of the identifier and of members
  abbrev pub of_members : Datum → Members → Datum
  of_members ident members =
      made (built_style receiver asked) (ident_text name) variant
      (woven (λ field. option_map (part_value ident aside (element_asked asked)) (part_named forwarded field)) (declared_fields receiver) members)

  abbrev pub by_members : Outcome Datum → Outcome Members → Outcome Datum
  by_members ident members = bind ident (λ ident. on_value (of_members ident) members)

  by_ident : (ident : Outcome Datum) (values : Outcome (List Datum))
      → by_members ident (named values) ≡ bind ident (λ ident. on_value (built_of receiver asked aside name variant forwarded inits ident) values)
  by_ident (Value ident) (Value values) = refl
  by_ident (Value ident) (Faults fault more) = refl
  by_ident (Faults fault more) values = refl

  abbrev pub among : Outcome Datum
  among = ident_among setting forwarded (element_asked asked)

  -- what is built of the values of slots
  abbrev pub all_built : Option (Outcome (List Datum)) → Progress
  all_built values = built_or_stuck (option_map (built receiver asked aside name variant forwarded inits setting) values)

  built_by : (values : Option (Outcome (List Datum))) → built_or_stuck (option_map (by_members among) (option_map named values)) ≡ all_built values
  built_by None = refl
  built_by (Some values) = ap Built (by_ident among values)

  -- is what is built of their members
  pub built_is : (values : Option (Outcome (List Datum))) (ident : Outcome Datum) (members : Outcome Members)
      → ident ≡ among → Some members ≡ option_map named values → Built (by_members ident members) ≡ all_built values
  built_is values ident members same are =
      ap (λ ident. Built (by_members ident members)) same
      ∙ ap (λ members. built_or_stuck (option_map (by_members among) members)) are ∙ built_by values

  -- a run that goes on comes to that, where each part that is to be stored was
  pub built_on : (state : State) (progress : Progress) → progress ≡ Going state aside → true ≡ are_stored aside forwarded
      → all_built (init_values setting state.whole state.slots inits) ≡ build_step setting receiver asked name variant forwarded inits progress
  built_on state progress on stored =
      ap (λ stored. cond stored (all_built (init_values setting state.whole state.slots inits)) Stuck) stored
      ∙ ap (build_step setting receiver asked name variant forwarded inits) (sym on)
