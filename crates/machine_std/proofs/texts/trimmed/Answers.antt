use Rattle.std.proofs.Common.{◌∙◌, ap}
use Rattle.machine_std.specs.Texts.{without_back}
use Rattle.machine_std.proofs.TextLemmas.{back_trimmed, front_trimmed}
use Rattle.machine_std.proofs.texts.trimmed.Goals as goal

pub returns : goal.returns
returns c =
    back_trimmed c.trim_start_matches.result.now c.trim_end_matches.result.now c.trim_end_matches.ensures.matches
    ∙ ap without_back (front_trimmed c.args.text.now c.trim_start_matches.result.now c.trim_start_matches.ensures.matches)
