-- Characters that definitions name, each by the text of it alone.
use Rattle.std.specs.Prelude.{ℕ, List, [], ◌∷◌, codes}

-- the code of the first character of a text
abbrev pub code_of : List ℕ → ℕ
code_of [] = 0
code_of (c ∷ cs) = c

abbrev pub tab : ℕ
tab = code_of (codes "\t")

abbrev pub line_feed : ℕ
line_feed = code_of (codes "\n")

abbrev pub carriage_return : ℕ
carriage_return = code_of (codes "\r")

abbrev pub space : ℕ
space = code_of (codes " ")

abbrev pub exclamation : ℕ
exclamation = code_of (codes "!")

abbrev pub double_quote : ℕ
double_quote = code_of (codes "\"")

abbrev pub hash : ℕ
hash = code_of (codes "#")

abbrev pub dollar : ℕ
dollar = code_of (codes "$")

abbrev pub percent : ℕ
percent = code_of (codes "%")

abbrev pub ampersand : ℕ
ampersand = code_of (codes "&")

abbrev pub single_quote : ℕ
single_quote = code_of (codes "'")

abbrev pub left_parenthesis : ℕ
left_parenthesis = code_of (codes "(")

abbrev pub right_parenthesis : ℕ
right_parenthesis = code_of (codes ")")

abbrev pub star : ℕ
star = code_of (codes "*")

abbrev pub plus : ℕ
plus = code_of (codes "+")

abbrev pub comma : ℕ
comma = code_of (codes ",")

abbrev pub minus : ℕ
minus = code_of (codes "-")

abbrev pub dot : ℕ
dot = code_of (codes ".")

abbrev pub slash : ℕ
slash = code_of (codes "/")

abbrev pub colon : ℕ
colon = code_of (codes ":")

abbrev pub semicolon : ℕ
semicolon = code_of (codes ";")

abbrev pub less : ℕ
less = code_of (codes "<")

abbrev pub equals : ℕ
equals = code_of (codes "=")

abbrev pub greater : ℕ
greater = code_of (codes ">")

abbrev pub question : ℕ
question = code_of (codes "?")

abbrev pub at_sign : ℕ
at_sign = code_of (codes "@")

abbrev pub left_bracket : ℕ
left_bracket = code_of (codes "[")

abbrev pub backslash : ℕ
backslash = code_of (codes "\\")

abbrev pub right_bracket : ℕ
right_bracket = code_of (codes "]")

abbrev pub caret : ℕ
caret = code_of (codes "^")

abbrev pub underscore : ℕ
underscore = code_of (codes "_")

abbrev pub left_brace : ℕ
left_brace = code_of (codes "{")

abbrev pub bar : ℕ
bar = code_of (codes "|")

abbrev pub right_brace : ℕ
right_brace = code_of (codes "}")

abbrev pub tilde : ℕ
tilde = code_of (codes "~")

abbrev pub digit_0 : ℕ
digit_0 = code_of (codes "0")

abbrev pub letter_E : ℕ
letter_E = code_of (codes "E")

abbrev pub letter_b : ℕ
letter_b = code_of (codes "b")

abbrev pub letter_e : ℕ
letter_e = code_of (codes "e")

abbrev pub letter_n : ℕ
letter_n = code_of (codes "n")

abbrev pub letter_o : ℕ
letter_o = code_of (codes "o")

abbrev pub letter_r : ℕ
letter_r = code_of (codes "r")

abbrev pub letter_t : ℕ
letter_t = code_of (codes "t")

abbrev pub letter_u : ℕ
letter_u = code_of (codes "u")

abbrev pub letter_x : ℕ
letter_x = code_of (codes "x")
