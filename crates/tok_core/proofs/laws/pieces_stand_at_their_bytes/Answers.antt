use Rattle.std.proofs.Common.{[], chars, refl, sym}
use Rattle.std.proofs.lemmas.Str.{encodes-chars}
use Rattle.tok_core.proofs.AtBytes.{all_at_bytes}
use Rattle.tok_core.proofs.laws.pieces_stand_at_their_bytes.Goals as goal

pub returns : goal.returns
returns c text pieces end u s = all_at_bytes text [] 0 end (chars text) [] pieces (sym (encodes-chars text u)) refl s
