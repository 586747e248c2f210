-- What is built where nothing is forwarded.
use Rattle.std.proofs.Common.{◌≡◌, List, [], ◌∷◌, map, None, refl, ap}
use Rattle.base_core.specs.declared.text.Text.{Text}
use Rattle.tok_types.specs.Ident.{ident_text}
use Rattle.tok_types.specs.declared.ident.Ident.{Ident}
use Rattle.node_core.specs.declared.data.Field.{Field}
use Rattle.error_fault.specs.Outcome.{Outcome, Value, Faults, on_value}
use Rattle.machine_value.specs.declared.value.Value.{Value as Datum}
use Rattle.machine_value.specs.declared.value.Value.TheVariants as value
use Rattle.machine_value.specs.Members.{labelled}
use Rattle.codegen_program.specs.declared.init.Init.{Init}
use Rattle.machine_steps.specs.Asked.{Asked}
use Rattle.machine_steps.specs.Building.{built, built_style, woven}
use Rattle.machine_steps.specs.Progress.{Aside}
use Rattle.machine_steps.specs.Receivers.{Receiver, declared_fields}
use Rattle.machine_steps.specs.Setting.{Setting}

-- without parts the members stand as they are
pub woven_none : (fields : List Field) (members : List (Text × Datum)) → woven (λ name. None) fields members ≡ members
woven_none [] members = refl
woven_none (field ∷ fields) [] = woven_none fields []
woven_none (field ∷ fields) (member ∷ members) = ap (λ more. member ∷ more) (woven_none fields members)

-- the struct of the values under the names of its members
pub plain_built : (setting : Setting) (receiver : Receiver) (asked : Asked) (aside : Aside) (name : Ident) (inits : List Init) (values : Outcome (List Datum))
    → built receiver asked aside name None [] inits setting values
    ≡ on_value (λ values. value.Struct (ident_text name) (built_style receiver asked) (labelled (map (λ init. init.member) inits) values)) values
plain_built setting receiver asked aside name inits (Value values) =
    ap (λ members. Value (value.Struct (ident_text name) (built_style receiver asked) members))
    (woven_none (declared_fields receiver) (labelled (map (λ init. init.member) inits) values))
plain_built setting receiver asked aside name inits (Faults fault more) = refl
