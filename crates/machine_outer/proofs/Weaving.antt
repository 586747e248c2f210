-- What belongs to a field is put behind what stands.
use Rattle.std.proofs.Common.{◌≡◌, ◌++◌, ◌∷◌, List, None, Option, Result, Ok, Err, ap, ◌∙◌}
use Rattle.std.specs.Prelude.{OnOk, reverse}
use Rattle.base_core.specs.declared.text.Text.{Text}
use Rattle.node_core.specs.declared.data.Field.{Field}
use Rattle.machine_value.specs.declared.value.Value.{Value as Datum}
use Rattle.machine_steps.specs.Building.{woven, woven_at}
use Rattle.machine_steps.specs.Decls.{member_name}
use Rattle.machine_outer.specs.Weaving.{Member, still_woven}
use Rattle.machine_outer.specs.declared.woven.Weaving.{Weaving}

-- the next member is put where no part is declared
pub next_put : {E : Type 0} (result : Result (Unit {0}) E) (old new : Weaving) (part : Text → Option Datum) (name : Text) (field : Field)
    → name ≡ member_name field → None ≡ part name
    → OnOk result ((name : Text) (others : List Member → List Member) → new.done ++ others (reverse new.left)
    ≡ old.done ++ woven_at name None (reverse old.left) others)
    → OnOk result ((fields : List Field) → still_woven new part fields ≡ still_woven old part (field ∷ fields))
next_put (Ok it) old new part name field named none known =
    λ fields.
    known (member_name field) (woven part fields)
    ∙ ap (λ (one : Option Datum). old.done ++ woven_at (member_name field) one (reverse old.left) (woven part fields)) (none ∙ ap part named)
next_put (Err fail) old new part name field named none known = tt
