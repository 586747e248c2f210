-- What a rule sees of the tokens that come next is the same without their places.
use Rattle.std.proofs.Common.{◌≡◌, ℕ, Bool, true, false, if◌then◌else◌, List, [], ◌∷◌, map, Option, Some, None, option_map, refl, ap, sym, ◌∙◌}
use Rattle.tok_types.specs.declared.ident.Ident.{Ident}
use Rattle.tok_types.specs.declared.span.Span.TheVariants.{CallSite}
use Rattle.tok_types.specs.declared.tree.Delimiter.{Delimiter}
use Rattle.tok_types.specs.declared.tree.Group.{Group, out-Group}
use Rattle.tok_types.specs.declared.tree.Literal.{Literal}
use Rattle.tok_types.specs.declared.tree.TokenStream.{TokenStream, out-TokenStream, roll-TokenStream}
use Rattle.tok_types.specs.declared.tree.TokenTree.{TokenTree, out-TokenTree, roll-TokenTree, the_lemmas}
use Rattle.tok_types.specs.declared.tree.TokenTree.TheOpen.{TokenTree-F}
use Rattle.tok_types.specs.declared.tree.TokenTree.TheFolds.{fold-roll-TokenTree}
use Rattle.tok_types.specs.declared.tree.TokenTree.TheVariants as tree
use Rattle.tok_types.specs.Respan.{group_at, tree_respanned, group_respanned, stream_respanned}
use Rattle.tok_lit.specs.declared.value.Value.{Value}
use Rattle.tok_lit.specs.declared.value.Value.TheVariants as value
use Rattle.syn_grammar.specs.declared.word.Word.{Word}
use Rattle.syn_grammar.specs.declared.word.Word.TheVariants as word
use Rattle.syn_grammar.specs.Input.{first_span, is_end}
use Rattle.syn_grammar.specs.Literals.{lit_by, lit_of, index_by, index_in, index_of}
use Rattle.syn_grammar.specs.Look.{is_there, type_start, arguments_start, begins_constant, argument_name, argument_word, argument_start, atom_start, operand_start, begins_operand, begins_closure, postfix_start, operator_of}
use Rattle.syn_grammar.specs.Token.{Layer, span_in, span_of, is_group_in, is_group, contents_in, contents_of, ident_in, ident_of, lifetime_in, lifetime_of, literal_in, literal_of, mark_in, mark_of, joint_in, is_joint, after_one, is_mark, is_pair, is_colon, is_closed_dots, is_turbofish}
use Rattle.syn_grammar.specs.Types.{name_before_colon}
use Rattle.syn_grammar.specs.Words.{word_of, word_at, next_word, name_at, name_of, segment_at, segment_word, peek, is_word}
use Rattle.law_spans.specs.Erased.{erased_tree, erased_stream, erased_ident, erased_lifetime, erased_literal, erased_int, erased_lit}

-- ---- one token

-- the layer of a token without its places
abbrev pub erased_layer : Layer → Layer
erased_layer (TokenTree-F.Ident it) = TokenTree-F.Ident (erased_ident it)
erased_layer (TokenTree-F.Lifetime it) = TokenTree-F.Lifetime (erased_lifetime it)
erased_layer (TokenTree-F.Punct it) = TokenTree-F.Punct (record it { span = CallSite })
erased_layer (TokenTree-F.Literal it) = TokenTree-F.Literal (erased_literal it)
erased_layer (TokenTree-F.Group it) = TokenTree-F.Group (group_at CallSite it)

out-rolled : (layer : Layer) → out-TokenTree (erased_tree (roll-TokenTree layer)) ≡ erased_layer layer
out-rolled (TokenTree-F.Ident it) = search the_lemmas
out-rolled (TokenTree-F.Lifetime it) = search the_lemmas
out-rolled (TokenTree-F.Punct it) = search the_lemmas
out-rolled (TokenTree-F.Literal it) = search the_lemmas
out-rolled (TokenTree-F.Group it) =
    ap out-TokenTree (fold-roll-TokenTree TokenTree Group TokenStream (tree_respanned CallSite) (group_respanned CallSite) (stream_respanned CallSite) (TokenTree-F.Group it))
    ∙ tree.outs-Group (group_at CallSite it)

pub out-bare_tree : (tree : TokenTree) → out-TokenTree (erased_tree tree) ≡ erased_layer (out-TokenTree tree)
out-bare_tree tree =
    let rolled : roll-TokenTree (out-TokenTree tree) ≡ tree = search the_lemmas in
    ap (λ tree. out-TokenTree (erased_tree tree)) (sym rolled) ∙ out-rolled (out-TokenTree tree)

out-group_at-span : (group : Group) → (out-Group (group_at CallSite group)).span ≡ CallSite
out-group_at-span group = search the_lemmas

out-group_at-delimiter : (group : Group) → (out-Group (group_at CallSite group)).delimiter ≡ (out-Group group).delimiter
out-group_at-delimiter group = search the_lemmas

out-group_at-stream : (group : Group) → (out-Group (group_at CallSite group)).stream ≡ erased_stream (out-Group group).stream
out-group_at-stream group = search the_lemmas

pub out-bare_stream : (stream : TokenStream) → (out-TokenStream (erased_stream stream)).trees ≡ map erased_tree (out-TokenStream stream).trees
out-bare_stream stream = search the_lemmas

out-group_at-trees : (group : Group) → (out-TokenStream (out-Group (group_at CallSite group)).stream).trees ≡ map erased_tree (out-TokenStream (out-Group group).stream).trees
out-group_at-trees group = ap (λ stream. (out-TokenStream stream).trees) (out-group_at-stream group) ∙ out-bare_stream (out-Group group).stream

-- a stream of these tokens
pub bare_stream-roll : (trees : List TokenTree) → erased_stream (roll-TokenStream (record { trees = trees })) ≡ roll-TokenStream (record { trees = map erased_tree trees })
bare_stream-roll trees = search the_lemmas

span_in-bare : (layer : Layer) → span_in (erased_layer layer) ≡ CallSite
span_in-bare (TokenTree-F.Ident it) = refl
span_in-bare (TokenTree-F.Lifetime it) = refl
span_in-bare (TokenTree-F.Punct it) = refl
span_in-bare (TokenTree-F.Literal it) = refl
span_in-bare (TokenTree-F.Group it) = out-group_at-span it

is_group_in-bare : (between : Delimiter) (layer : Layer) → is_group_in between (erased_layer layer) ≡ is_group_in between layer
is_group_in-bare between (TokenTree-F.Ident it) = refl
is_group_in-bare between (TokenTree-F.Lifetime it) = refl
is_group_in-bare between (TokenTree-F.Punct it) = refl
is_group_in-bare between (TokenTree-F.Literal it) = refl
is_group_in-bare between (TokenTree-F.Group it) = rw (out-group_at-delimiter it) refl

contents_in-bare : (layer : Layer) → contents_in (erased_layer layer) ≡ map erased_tree (contents_in layer)
contents_in-bare (TokenTree-F.Ident it) = refl
contents_in-bare (TokenTree-F.Lifetime it) = refl
contents_in-bare (TokenTree-F.Punct it) = refl
contents_in-bare (TokenTree-F.Literal it) = refl
contents_in-bare (TokenTree-F.Group it) = out-group_at-trees it

ident_in-bare : (layer : Layer) → ident_in (erased_layer layer) ≡ option_map erased_ident (ident_in layer)
ident_in-bare (TokenTree-F.Ident it) = refl
ident_in-bare (TokenTree-F.Lifetime it) = refl
ident_in-bare (TokenTree-F.Punct it) = refl
ident_in-bare (TokenTree-F.Literal it) = refl
ident_in-bare (TokenTree-F.Group it) = refl

lifetime_in-bare : (layer : Layer) → lifetime_in (erased_layer layer) ≡ option_map erased_lifetime (lifetime_in layer)
lifetime_in-bare (TokenTree-F.Ident it) = refl
lifetime_in-bare (TokenTree-F.Lifetime it) = refl
lifetime_in-bare (TokenTree-F.Punct it) = refl
lifetime_in-bare (TokenTree-F.Literal it) = refl
lifetime_in-bare (TokenTree-F.Group it) = refl

literal_in-bare : (layer : Layer) → literal_in (erased_layer layer) ≡ option_map erased_literal (literal_in layer)
literal_in-bare (TokenTree-F.Ident it) = refl
literal_in-bare (TokenTree-F.Lifetime it) = refl
literal_in-bare (TokenTree-F.Punct it) = refl
literal_in-bare (TokenTree-F.Literal it) = refl
literal_in-bare (TokenTree-F.Group it) = refl

mark_in-bare : (layer : Layer) → mark_in (erased_layer layer) ≡ mark_in layer
mark_in-bare (TokenTree-F.Ident it) = refl
mark_in-bare (TokenTree-F.Lifetime it) = refl
mark_in-bare (TokenTree-F.Punct it) = refl
mark_in-bare (TokenTree-F.Literal it) = refl
mark_in-bare (TokenTree-F.Group it) = refl

joint_in-bare : (layer : Layer) → joint_in (erased_layer layer) ≡ joint_in layer
joint_in-bare (TokenTree-F.Ident it) = refl
joint_in-bare (TokenTree-F.Lifetime it) = refl
joint_in-bare (TokenTree-F.Punct it) = refl
joint_in-bare (TokenTree-F.Literal it) = refl
joint_in-bare (TokenTree-F.Group it) = refl

-- ---- the token that comes next

pub span_of-bare : (tree : TokenTree) → span_of (erased_tree tree) ≡ CallSite
unfolding span_of
span_of-bare tree = rw (out-bare_tree tree) (span_in-bare (out-TokenTree tree))

pub first_span-bare : (trees : List TokenTree) → first_span (map erased_tree trees) ≡ CallSite
unfolding first_span
first_span-bare [] = refl
first_span-bare (tree ∷ trees) = span_of-bare tree

pub is_end-bare : (trees : List TokenTree) → is_end (map erased_tree trees) ≡ is_end trees
is_end-bare [] = refl
is_end-bare (tree ∷ trees) = refl

pub is_group-bare : (between : Delimiter) (trees : List TokenTree) → is_group between (map erased_tree trees) ≡ is_group between trees
unfolding is_group
is_group-bare between [] = refl
is_group-bare between (tree ∷ trees) = rw (out-bare_tree tree) (is_group_in-bare between (out-TokenTree tree))

pub contents_of-bare : (trees : List TokenTree) → contents_of (map erased_tree trees) ≡ map erased_tree (contents_of trees)
unfolding contents_of
contents_of-bare [] = refl
contents_of-bare (tree ∷ trees) = rw (out-bare_tree tree) (contents_in-bare (out-TokenTree tree))

pub ident_of-bare : (trees : List TokenTree) → ident_of (map erased_tree trees) ≡ option_map erased_ident (ident_of trees)
unfolding ident_of
ident_of-bare [] = refl
ident_of-bare (tree ∷ trees) = rw (out-bare_tree tree) (ident_in-bare (out-TokenTree tree))

pub lifetime_of-bare : (trees : List TokenTree) → lifetime_of (map erased_tree trees) ≡ option_map erased_lifetime (lifetime_of trees)
unfolding lifetime_of
lifetime_of-bare [] = refl
lifetime_of-bare (tree ∷ trees) = rw (out-bare_tree tree) (lifetime_in-bare (out-TokenTree tree))

pub literal_of-bare : (trees : List TokenTree) → literal_of (map erased_tree trees) ≡ option_map erased_literal (literal_of trees)
unfolding literal_of
literal_of-bare [] = refl
literal_of-bare (tree ∷ trees) = rw (out-bare_tree tree) (literal_in-bare (out-TokenTree tree))

pub mark_of-bare : (trees : List TokenTree) → mark_of (map erased_tree trees) ≡ mark_of trees
unfolding mark_of
mark_of-bare [] = refl
mark_of-bare (tree ∷ trees) = rw (out-bare_tree tree) (mark_in-bare (out-TokenTree tree))

pub is_joint-bare : (trees : List TokenTree) → is_joint (map erased_tree trees) ≡ is_joint trees
unfolding is_joint
is_joint-bare [] = refl
is_joint-bare (tree ∷ trees) = rw (out-bare_tree tree) (joint_in-bare (out-TokenTree tree))

pub after_one-bare : (trees : List TokenTree) → after_one (map erased_tree trees) ≡ map erased_tree (after_one trees)
after_one-bare [] = refl
after_one-bare (tree ∷ trees) = refl

-- ---- marks

pub is_mark-bare : (ch : ℕ) (trees : List TokenTree) → is_mark ch (map erased_tree trees) ≡ is_mark ch trees
is_mark-bare ch trees = rw (mark_of-bare trees) refl

pub is_pair-bare : (first second : ℕ) (trees : List TokenTree) → is_pair first second (map erased_tree trees) ≡ is_pair first second trees
unfolding is_pair
is_pair-bare first second trees = simp (is_joint-bare, mark_of-bare, after_one-bare)

pub is_colon-bare : (trees : List TokenTree) → is_colon (map erased_tree trees) ≡ is_colon trees
is_colon-bare trees = simp (mark_of-bare, is_pair-bare)

pub is_closed_dots-bare : (trees : List TokenTree) → is_closed_dots (map erased_tree trees) ≡ is_closed_dots trees
is_closed_dots-bare trees = simp (is_pair-bare, after_one-bare)

pub is_turbofish-bare : (trees : List TokenTree) → is_turbofish (map erased_tree trees) ≡ is_turbofish trees
is_turbofish-bare trees = simp (is_pair-bare, mark_of-bare, after_one-bare)

-- ---- words

word_of-bare : (ident : Ident) → word_of (erased_ident ident) ≡ word_of ident
unfolding word_of
word_of-bare ident = refl

word_at-bare : (ident : Option Ident) → word_at (option_map erased_ident ident) ≡ word_at ident
word_at-bare None = refl
word_at-bare (Some ident) = word_of-bare ident

pub next_word-bare : (trees : List TokenTree) → next_word (map erased_tree trees) ≡ next_word trees
unfolding next_word
next_word-bare trees = rw (ident_of-bare trees) (word_at-bare (ident_of trees))

pub sees-bare : (wanted : Word) (trees : List TokenTree) → peek wanted (map erased_tree trees) ≡ peek wanted trees
sees-bare wanted trees = ap (is_word wanted) (next_word-bare trees)

name_at-bare : (kind : Word) (ident : Option Ident) → name_at kind (option_map erased_ident ident) ≡ option_map erased_ident (name_at kind ident)
name_at-bare word.Name ident = refl
name_at-bare _ ident = refl

pub name_of-bare : (trees : List TokenTree) → name_of (map erased_tree trees) ≡ option_map erased_ident (name_of trees)
unfolding name_of
name_of-bare trees = rw (ident_of-bare trees, next_word-bare trees) (name_at-bare (next_word trees) (ident_of trees))

segment_at-bare : (kind : Word) (ident : Option Ident) → segment_at kind (option_map erased_ident ident) ≡ option_map erased_ident (segment_at kind ident)
segment_at-bare word.Name ident = refl
segment_at-bare word.PathStart ident = refl
segment_at-bare _ ident = refl

pub segment_word-bare : (trees : List TokenTree) → segment_word (map erased_tree trees) ≡ option_map erased_ident (segment_word trees)
unfolding segment_word
segment_word-bare trees = rw (ident_of-bare trees, next_word-bare trees) (segment_at-bare (next_word trees) (ident_of trees))

pub is_there-map : {A B : Type 0} (f : A → B) (found : Option A) → is_there (option_map f found) ≡ is_there found
is_there-map f None = refl
is_there-map f (Some value) = refl

pub if-map : {A B : Type 0} (f : A → B) (holds : Bool) (found : Option A) → (if holds then option_map f found else None) ≡ option_map f (if holds then found else None)
if-map f true found = refl
if-map f false found = refl

pub name_before_colon-bare : (trees : List TokenTree) → name_before_colon (map erased_tree trees) ≡ option_map erased_ident (name_before_colon trees)
unfolding name_before_colon
name_before_colon-bare trees = rw (name_of-bare trees, after_one-bare trees, is_colon-bare (after_one trees)) (if-map erased_ident (is_colon (after_one trees)) (name_of trees))

-- ---- what the tokens begin

ruleset tokens_bare = (is_group-bare, mark_of-bare, is_joint-bare, is_pair-bare, after_one-bare, next_word-bare, lifetime_of-bare, literal_of-bare, is_there-map)

pub is_lifetime-bare : (trees : List TokenTree) → is_there (lifetime_of (map erased_tree trees)) ≡ is_there (lifetime_of trees)
is_lifetime-bare trees = simp tokens_bare

pub is_name-bare : (trees : List TokenTree) → is_there (name_of (map erased_tree trees)) ≡ is_there (name_of trees)
is_name-bare trees = simp (name_of-bare, is_there-map)

pub type_start-bare : (trees : List TokenTree) → type_start (map erased_tree trees) ≡ type_start trees
unfolding type_start
type_start-bare trees = simp tokens_bare

pub arguments_start-bare : (in_type : Bool) (trees : List TokenTree) → arguments_start in_type (map erased_tree trees) ≡ arguments_start in_type trees
unfolding arguments_start
arguments_start-bare in_type trees = simp tokens_bare

pub begins_constant-bare : (trees : List TokenTree) → begins_constant (map erased_tree trees) ≡ begins_constant trees
unfolding begins_constant
begins_constant-bare trees = simp tokens_bare

argument_name-bare : (trees : List TokenTree) → argument_name (map erased_tree trees) ≡ argument_name trees
argument_name-bare trees = simp (tokens_bare, begins_constant-bare)

argument_word-bare : (kind : Word) (trees : List TokenTree) → argument_word kind (map erased_tree trees) ≡ argument_word kind trees
argument_word-bare word.Name trees = argument_name-bare trees
argument_word-bare _ trees = refl

pub argument_start-bare : (trees : List TokenTree) → argument_start (map erased_tree trees) ≡ argument_start trees
unfolding argument_start
argument_start-bare trees = simp (tokens_bare, begins_constant-bare, argument_word-bare)

pub atom_start-bare : (trees : List TokenTree) → atom_start (map erased_tree trees) ≡ atom_start trees
unfolding atom_start
atom_start-bare trees = simp tokens_bare

pub operand_start-bare : (trees : List TokenTree) → operand_start (map erased_tree trees) ≡ operand_start trees
unfolding operand_start
operand_start-bare trees = simp (tokens_bare, atom_start-bare)

pub begins_operand-bare : (trees : List TokenTree) → begins_operand (map erased_tree trees) ≡ begins_operand trees
unfolding begins_operand
begins_operand-bare trees = rw (operand_start-bare trees) refl

pub begins_closure-bare : (trees : List TokenTree) → begins_closure (map erased_tree trees) ≡ begins_closure trees
unfolding begins_closure
begins_closure-bare trees = simp tokens_bare

pub postfix_start-bare : (trees : List TokenTree) → postfix_start (map erased_tree trees) ≡ postfix_start trees
unfolding postfix_start
postfix_start-bare trees = simp tokens_bare

pub operator_of-bare : (trees : List TokenTree) → operator_of (map erased_tree trees) ≡ operator_of trees
unfolding operator_of
operator_of-bare trees = simp tokens_bare

-- ---- literals

lit_by-bare : (token : Literal) (found : Option Value) → lit_by (erased_literal token) found ≡ erased_lit (lit_by token found)
lit_by-bare token None = refl
lit_by-bare token (Some (value.Str text)) = refl
lit_by-bare token (Some (value.ByteStr bytes)) = refl
lit_by-bare token (Some (value.Byte byte)) = refl
lit_by-bare token (Some (value.Char ch)) = refl
lit_by-bare token (Some (value.Int digits)) = refl
lit_by-bare token (Some value.Float) = refl

pub lit_of-bare : (token : Literal) → lit_of (erased_literal token) ≡ erased_lit (lit_of token)
unfolding lit_of
lit_of-bare token = lit_by-bare token _

plain-bare : (token : Literal) (digits : ℕ) (plain : Bool)
    → (if plain then Some (record { negative = false; digits = digits; token = erased_literal token; span = CallSite }) else None)
    ≡ option_map erased_int (if plain then Some (record { negative = false; digits = digits; token = token; span = token.span }) else None)
plain-bare token digits true = refl
plain-bare token digits false = refl

index_by-bare : (token : Literal) (found : Option Value) → index_by (erased_literal token) found ≡ option_map erased_int (index_by token found)
index_by-bare token (Some (value.Int digits)) = plain-bare token digits _
index_by-bare token _ = refl

index_in-bare : (token : Option Literal) → index_in (option_map erased_literal token) ≡ option_map erased_int (index_in token)
index_in-bare None = refl
index_in-bare (Some token) = index_by-bare token _

pub index_of-bare : (trees : List TokenTree) → index_of (map erased_tree trees) ≡ option_map erased_int (index_of trees)
unfolding index_of
index_of-bare trees = rw (literal_of-bare trees) (index_in-bare (literal_of trees))
