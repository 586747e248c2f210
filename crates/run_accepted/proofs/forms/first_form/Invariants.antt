use Rattle.std.proofs.Common.{◌≡◌, ◌++◌, drop, flat_map}
use Rattle.run_accepted.specs.Forms.{decl_forms}
use Rattle.run_accepted.proofs.forms.first_form.Given as goal

abbrev pub invariant-loop-decl : goal.invariant-loop-decl
invariant-loop-decl l = l.places ++ flat_map (decl_forms l.table) (drop l.decl-index l.decls) ≡ flat_map (decl_forms l.table) l.decls
