use Rattle.std.proofs.Common.{ap, sym}
use Rattle.std.proofs.lemmas.List.{map-id}
use Rattle.print_core.specs.Literals.{bool_tokens, float_tokens, int_tokens}
use Rattle.print_core.specs.Marks.{literal}
use Rattle.machine_cells.specs.Values.{syntax_list}
use Rattle.machine_leaf.proofs.literals.lit_list_cell.Goals as goal

pub returns-in-Int : goal.returns-in-Int
returns-in-Int c = rw c.in-Int.is (c.shown_cell.ensures (syntax_list int_tokens) (λ it. ap (syntax_list int_tokens) (sym (map-id it.items))))

pub returns-in-Float : goal.returns-in-Float
returns-in-Float c = rw c.in-Float.is (c.shown_cell-in-Float.ensures (syntax_list float_tokens) (λ it. ap (syntax_list float_tokens) (sym (map-id it.items))))

pub returns-in-Str : goal.returns-in-Str
returns-in-Str c = rw c.in-Str.is (c.shown_cell-in-Str.ensures (syntax_list (λ it. literal it.token)) (λ it. ap (syntax_list (λ it. literal it.token)) (sym (map-id it.items))))

pub returns-in-Byte : goal.returns-in-Byte
returns-in-Byte c = rw c.in-Byte.is (c.shown_cell-in-Byte.ensures (syntax_list (λ it. literal it.token)) (λ it. ap (syntax_list (λ it. literal it.token)) (sym (map-id it.items))))

pub returns-in-ByteStr : goal.returns-in-ByteStr
returns-in-ByteStr c = rw c.in-ByteStr.is (c.shown_cell-in-ByteStr.ensures (syntax_list (λ it. literal it.token)) (λ it. ap (syntax_list (λ it. literal it.token)) (sym (map-id it.items))))

pub returns-in-Char : goal.returns-in-Char
returns-in-Char c = rw c.in-Char.is (c.shown_cell-in-Char.ensures (syntax_list (λ it. literal it.token)) (λ it. ap (syntax_list (λ it. literal it.token)) (sym (map-id it.items))))

pub returns-in-Bool : goal.returns-in-Bool
returns-in-Bool c = rw c.in-Bool.is (c.shown_cell-in-Bool.ensures (syntax_list bool_tokens) (λ it. ap (syntax_list bool_tokens) (sym (map-id it.items))))
