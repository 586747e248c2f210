use Rattle.std.proofs.Common.{◌≡◌, ◌∙◌, List, Some, ap, option_map, sym}
use Rattle.std.specs.Option.{option_copied}
use Rattle.tok_types.specs.Ident.{ident_text}
use Rattle.node_core.specs.declared.data.Field.{Field}
use Rattle.node_core.specs.declared.style.Style.{Style}
use Rattle.error_fault.specs.Outcome.{Value}
use Rattle.machine_value.specs.declared.value.Value.{Value as Datum}
use Rattle.machine_outer.specs.Seen.{aside_of}
use Rattle.machine_read.specs.Asked.{asked_of, element_asked}
use Rattle.machine_read.specs.Building.{ident_among, made, part_named, part_value, woven}
use Rattle.machine_read.specs.Elements.{Element, element_of}
use Rattle.machine_read.specs.Progress.{Progress, Built}
use Rattle.machine_read.specs.Receivers.{declared_fields}
use Rattle.machine_read.specs.Scopes.{setting_in}
use Rattle.machine_read.specs.Slots.{init_values}
use Rattle.machine_state.specs.Seen.{answered, receiver_of, state_of}
use Rattle.machine_run.specs.Building.{Members, members_built, told}
use Rattle.machine_run.proofs.Building.{built_is}
use Rattle.machine_run.proofs.run.Run.built_of_parts.Goals as goal

pub returns : goal.returns
returns g c after beside =
    let setting = setting_in g.H.Host.says c.args.self.now.scope.setting in
    let receiver = receiver_of c.args.self.now.receiver in
    let asked = asked_of c.args.asked in
    let state = state_of c.args.standing.now.state in
    let aside = aside_of c.args.standing.now.aside in
    let name = c.args.name.now in
    let variant = option_copied c.args.variant in
    let parts = c.args.parts.now in
    let inits = c.args.inits.now in
    let ident = c.in-Ok.ident in
    let members = c.in-Ok-members.members in
    let same : Value ident ≡ ident_among setting parts (element_asked asked) =
    ap answered (sym c.in-Ok.is) ∙ c.in_ok-error.ensures _ c.ident_among.ensures ∙ ap (ident_among setting parts) c.element_in-element.ensures in
    let are : Some (Value members) ≡ members_built setting state inits =
    ap (λ it. Some (told it)) (sym c.in-Ok-members.is) ∙ ap (option_map told) (sym c.in-Some.is) ∙ c.in_ok-members.ensures in
    let of_members : Style → Members → Progress = λ style members. Built (Value (made style (ident_text name) variant members)) in
    let woven_in : Element → List Field → Members = λ element fields.
    woven (λ field. option_map (part_value ident aside element) (part_named parts field)) fields members in
    let element = element_of c.element_in-element.result in
    let style = c.built_style-style.result in
    ap (λ (it : Datum). Built (Value it)) c.in_ok-value-in-Ok-members.ensures
    ∙ ap (of_members style) c.in_ok-members-in-Ok-members.ensures
    ∙ ap (λ (fields : List Field). of_members style (woven_in element fields)) c.declared_fields.ensures
    ∙ ap (λ (element : Element). of_members style (woven_in element (declared_fields receiver))) c.element_in-element.ensures
    ∙ ap (λ (style : Style). of_members style (woven_in (element_asked asked) (declared_fields receiver))) c.built_style-style.ensures
    ∙ built_is setting receiver asked aside name variant parts inits (init_values setting state.whole state.slots inits)
    (Value ident) (Value members) same are
