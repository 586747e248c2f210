use Rattle.std.proofs.Common.{◌≡◌, ◌++◌, ◌||◌, drop, take}
use Rattle.machine_steps.specs.Decls.{decl_names}
use Rattle.machine_forms.specs.Names.{Knows, has_name, names_in, repeated_members}
use Rattle.machine_forms.specs.Places.{places_from, refused_if}
use Rattle.machine_forms.specs.Units.{group_at, has_twins}
use Rattle.machine_forms.proofs.names.names_in.Given as goal

abbrev pub invariant-loop-number : goal.invariant-loop-number
invariant-loop-number l = record {
  known : Knows l.known (decl_names (take l.number l.decls));
  pushed : names_in (group_at l.groups) l.decls
      ≡ l.places ++ places_from (λ number decl. refused_if (has_twins (group_at l.groups number) || has_name (decl_names (take number l.decls)) decl.ident.text) decl.ident.span ++ repeated_members decl.body) l.number (drop l.number l.decls);
}
