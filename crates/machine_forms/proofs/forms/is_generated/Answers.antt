use Rattle.machine_forms.specs.Forms.{generated}
use Rattle.machine_forms.proofs.forms.is_generated.Goals as goal

pub returns : goal.returns
unfolding generated
returns c = c.is_among.ensures
