use Rattle.std.proofs.Common.{◌∙◌, sym}
use Rattle.machine_rows.specs.Rows.{row_of}
use Rattle.machine_std.proofs.defaulted.type_has.Goals as goal

pub returns-in-Has : goal.returns-in-Has
unfolding row_of
returns-in-Has c = λ declared are. sym (c.in-Has.ensures declared)

pub returns-in-Lacks : goal.returns-in-Lacks
unfolding row_of
returns-in-Lacks c = λ declared are. sym (c.in-Lacks.ensures declared)

pub returns-in-On : goal.returns-in-On
unfolding row_of
returns-in-On c = λ declared are. c.is_flagged.ensures ∙ are c.in-On.number ∙ sym (c.in-On.ensures declared)
