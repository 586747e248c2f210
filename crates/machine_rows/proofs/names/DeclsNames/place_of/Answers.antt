use Rattle.std.proofs.Common.{◌∙◌, ap, sym, bytes_eq, position}
use Rattle.node_core.specs.declared.derive.DeriveInput.{DeriveInput}
use Rattle.tok_types.specs.declared.ident.Ident.{Ident}
use Rattle.base_core.specs.declared.text.Text.{Text}
use Rattle.codegen_program.specs.Named.{decl_texts}
use Rattle.machine_rows.specs.Paths.{same_ident}
use Rattle.machine_rows.proofs.Places.{position-map}
use Rattle.machine_rows.proofs.names.DeclsNames.place_of.Goals as goal

-- the place among the texts of names is that among the names
pub returns : goal.returns
returns c =
    c.find.ensures
    ∙ ap (λ name. position (λ (other : Text). bytes_eq other name) (decl_texts c.args.self.now)) c.as_str.ensures
    ∙ position-map (λ (decl : DeriveInput). decl.ident.text) (λ (other : Text). bytes_eq other c.args.name.now.text) c.args.self.now
    ∙ sym (position-map (λ (decl : DeriveInput). decl.ident) (λ (other : Ident). same_ident other c.args.name.now) c.args.self.now)
