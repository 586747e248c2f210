use Rattle.std.proofs.Common.{string_bytes}
use Rattle.darling_run.proofs.WordLemmas.{list_of_one, map-one}
use Rattle.darling_run.proofs.tool.is_run.Goals as goal

pub returns-in-len1 : goal.returns-in-len1
returns-in-len1 c =
    map-one string_bytes _ _ _ _
    (list_of_one _ _ c.in-len1.len_at_least c.in-len1.len_below c.word-item.is)
    c.is_text.ensures
