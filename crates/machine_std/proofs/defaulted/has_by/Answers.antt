use Rattle.std.proofs.Common.{◌∙◌, ap, is_some, sym}
use Rattle.std.specs.Prelude.{option_and_then}
use Rattle.machine_std.specs.Defaults.{struct_default, type_default}
use Rattle.machine_std.proofs.Members.{struct-some}
use Rattle.machine_std.proofs.defaulted.has_by.Goals as goal

pub returns-in-Some : goal.returns-in-Some
returns-in-Some c = λ declared are.
    let here = type_default c.args.decls.now declared in
    c.fields_have.ensures declared are
    ∙ sym (struct-some here c.args.decl.now.ident c.in-Some.fields.now)
    ∙ ap (λ found. is_some (option_and_then (struct_default here c.args.decl.now.ident) found)) c.in-Some.ensures
