-- What a type is at its outermost name is the same without places, among declarations without theirs.
use Rattle.std.proofs.Common.{◌≡◌, ◌∙◌, ◌+◌, ◌-◌, nat_lt, Bool, true, false, if◌then◌else◌, ◌&&◌, cond, not, List, [], ◌∷◌, length, map, take, Option, Some, None, option_map, is_none, refl, ap, sym, position}
use Rattle.std.specs.Prelude.{slice_get, codes}
use Rattle.std.specs.List.{join_by, position_or_len, prefix_len}
use Rattle.std.specs.Str.{bytes_eq}
use Rattle.std.proofs.lemmas.List.{length-map, take-map}
use Rattle.std.proofs.lemmas.Option.{slice_get-map}
use Rattle.base_core.specs.declared.text.Text.{Text}
use Rattle.tok_types.specs.Ident.{ident_text}
use Rattle.tok_types.specs.declared.ident.Ident.{Ident}
use Rattle.node_expr.specs.Layers.{GenericArgumentLayer, PathArgumentsLayer, PathLayer, PathSegmentLayer, TypeLayer, TypePathLayer}
use Rattle.node_expr.specs.declared.expr.Expr.TheOpen.{GenericArgument-F, PathArguments-F, Type-F}
use Rattle.node_expr.specs.declared.path.GenericArgument.{GenericArgument, out-GenericArgument}
use Rattle.node_expr.specs.declared.path.Path.{Path, out-Path}
use Rattle.node_expr.specs.declared.path.PathArguments.{out-PathArguments}
use Rattle.node_expr.specs.declared.path.PathSegment.{PathSegment, out-PathSegment}
use Rattle.node_expr.specs.declared.path.QSelf.{QSelf}
use Rattle.node_expr.specs.declared.ty.«Type».{«Type» as Type', out-Type}
use Rattle.node_expr.specs.declared.ty.TypePath.{TypePath, out-TypePath}
use Rattle.node_make.specs.PathText.{path_text, segment_text}
use Rattle.node_make.proofs.PathTexts.{join_by-map}
use Rattle.law_spans.specs.Erased.{erased_argument, erased_arguments, erased_ident, erased_path, erased_qself, erased_segment, erased_type}
use Rattle.law_equality.proofs.Arguments.{bare_argument}
use Rattle.law_equality.proofs.PathArguments.{bare_arguments}
use Rattle.law_equality.proofs.Types.{bare_type}
use Rattle.machine_rows.specs.Arguments.{arguments_at, arguments_in, between, last_arguments, layer_arguments, layer_type, one, two, type_in}
use Rattle.machine_rows.specs.Heads.{bare_in, bare_name, beside_meta, head_of, head_of_one, head_of_two, is_unit, layer_is_unit, list_of, named_head, null, punctuated_of, set_of, hash_map_of, tree_map_of}
use Rattle.machine_rows.specs.Items.{hash_key, punctuated_item, set_item, tree_key, vec_item}
use Rattle.machine_rows.specs.Paths.{are_bare, by_row, declared_or, in_table, is_bare, layer_is_none, layer_segments, meant_after, meant_at, meant_by, same_ident, segments_in, stands_after}
use Rattle.machine_rows.specs.Table.{home_path, looked_up, names}
use Rattle.machine_rows.specs.declared.arguments.Arguments.{Arguments}
use Rattle.machine_rows.specs.declared.arguments.Arguments.TheVariants as arguments
use Rattle.machine_rows.specs.declared.head.Head.{Head}
use Rattle.machine_rows.specs.declared.head.Head.TheVariants as head
use Rattle.machine_rows.specs.declared.leaf.Leaf.TheVariants as leaf
use Rattle.machine_rows.specs.declared.leaf.PunctuatedItem.{PunctuatedItem}
use Rattle.machine_rows.specs.declared.leaf.SetItem.{SetItem}
use Rattle.machine_rows.specs.declared.leaf.VecItem.{VecItem}
use Rattle.machine_rows.specs.declared.name.Home.{Home}
use Rattle.machine_rows.specs.declared.name.Name.{Name}
use Rattle.machine_rows.specs.declared.name.Name.TheVariants as name
use Rattle.machine_rows.specs.declared.path.Meant.{Meant}
use Rattle.machine_rows.specs.declared.path.Meant.TheVariants as meants
use Rattle.machine_rows.specs.declared.wrapper.HashKey.{HashKey}
use Rattle.machine_rows.specs.declared.wrapper.TreeKey.{TreeKey}
use Rattle.machine_rows.specs.declared.wrapper.Wrapper.{Wrapper}
use Rattle.machine_rows.specs.declared.wrapper.Wrapper.TheVariants as wrapper
use Rattle.machine_std.proofs.Nodes.{opened_argument, opened_arguments, opened_path, opened_segment, opened_type, opened_type_path}

-- ---- segments

pub ident-bare : (it : PathSegment) → (out-PathSegment (erased_segment it)).ident ≡ erased_ident (out-PathSegment it).ident
ident-bare it = ap (λ (layer : PathSegmentLayer). layer.ident) (opened_segment it)

pub arguments-bare : (it : PathSegment) → (out-PathSegment (erased_segment it)).arguments ≡ erased_arguments (out-PathSegment it).arguments
arguments-bare it = ap (λ (layer : PathSegmentLayer). layer.arguments) (opened_segment it)

pub segments-bare : (it : Path) → (out-Path (erased_path it)).segments ≡ map erased_segment (out-Path it).segments
segments-bare it = ap (λ (layer : PathLayer). layer.segments) (opened_path it)

pub segment_text-bare : (it : PathSegment) → segment_text (erased_segment it) ≡ segment_text it
segment_text-bare it = ap ident_text (ident-bare it)

pub joined-bare : (segments : List PathSegment) → join_by (λ it. segment_text (erased_segment it)) (codes "::") segments ≡ join_by segment_text (codes "::") segments
joined-bare segments = ap (λ text_of. join_by text_of (codes "::") segments) (λ i it. segment_text-bare it i)

pub path_text-bare : (it : Path) → path_text (erased_path it) ≡ path_text it
path_text-bare it =
    ap (join_by segment_text (codes "::")) (segments-bare it)
    ∙ sym (join_by-map erased_segment segment_text (codes "::") (out-Path it).segments)
    ∙ joined-bare (out-Path it).segments

-- ---- the segments of a type

is_none-map : {A B : Type 0} (f : A → B) (it : Option A) → is_none (option_map f it) ≡ is_none it
is_none-map f None = refl
is_none-map f (Some it) = refl

type_path-segments : (it : TypePath) → layer_segments (bare_type (Type-F.«Type::Path» it)) ≡ map erased_segment (layer_segments (Type-F.«Type::Path» it))
type_path-segments it =
    ap (λ (layer : TypePathLayer). if is_none layer.qself then (out-Path layer.path).segments else []) (opened_type_path it)
    ∙ by (out-TypePath it).qself
  where
    by : (qself : Option (QSelf Type')) → (if is_none (option_map erased_qself qself) then (out-Path (erased_path (out-TypePath it).path)).segments else []) ≡ map erased_segment (if is_none qself then (out-Path (out-TypePath it).path).segments else [])
    by None = segments-bare (out-TypePath it).path
    by (Some qself) = refl

pub layer_segments-bare : (layer : TypeLayer) → layer_segments (bare_type layer) ≡ map erased_segment (layer_segments layer)
layer_segments-bare (Type-F.«Type::Path» it) = type_path-segments it
layer_segments-bare (Type-F.«Type::Reference» it) = refl
layer_segments-bare (Type-F.Ptr it) = refl
layer_segments-bare (Type-F.Slice it) = refl
layer_segments-bare (Type-F.«Type::Array» it) = refl
layer_segments-bare (Type-F.«Type::Tuple» it) = refl
layer_segments-bare (Type-F.«Type::Paren» it) = refl
layer_segments-bare (Type-F.«Type::Group» it) = refl
layer_segments-bare (Type-F.FnPtr it) = refl
layer_segments-bare (Type-F.TraitObject it) = refl
layer_segments-bare (Type-F.ImplTrait it) = refl
layer_segments-bare (Type-F.Never it) = refl
layer_segments-bare (Type-F.«Type::Infer» it) = refl

pub segments_in-bare : (it : Type') → segments_in (erased_type it) ≡ map erased_segment (segments_in it)
segments_in-bare it = ap layer_segments (opened_type it) ∙ layer_segments-bare (out-Type it)

null-map : {A B : Type 0} (f : A → B) (items : List A) → null (map f items) ≡ null items
null-map f [] = refl
null-map f (first ∷ more) = refl

pub layer_is_unit-bare : (layer : TypeLayer) → layer_is_unit (bare_type layer) ≡ layer_is_unit layer
layer_is_unit-bare (Type-F.«Type::Path» it) = refl
layer_is_unit-bare (Type-F.«Type::Reference» it) = refl
layer_is_unit-bare (Type-F.Ptr it) = refl
layer_is_unit-bare (Type-F.Slice it) = refl
layer_is_unit-bare (Type-F.«Type::Array» it) = refl
layer_is_unit-bare (Type-F.«Type::Tuple» it) = null-map erased_type it.elems
layer_is_unit-bare (Type-F.«Type::Paren» it) = refl
layer_is_unit-bare (Type-F.«Type::Group» it) = refl
layer_is_unit-bare (Type-F.FnPtr it) = refl
layer_is_unit-bare (Type-F.TraitObject it) = refl
layer_is_unit-bare (Type-F.ImplTrait it) = refl
layer_is_unit-bare (Type-F.Never it) = refl
layer_is_unit-bare (Type-F.«Type::Infer» it) = refl

pub is_unit-bare : (it : Type') → is_unit (erased_type it) ≡ is_unit it
is_unit-bare it = ap layer_is_unit (opened_type it) ∙ layer_is_unit-bare (out-Type it)

-- ---- what a path names

pub layer_is_none-bare : (layer : PathArgumentsLayer) → layer_is_none (bare_arguments layer) ≡ layer_is_none layer
layer_is_none-bare PathArguments-F.None = refl
layer_is_none-bare (PathArguments-F.AngleBracketed items) = refl
layer_is_none-bare (PathArguments-F.Parenthesized inputs output span) = refl

pub no_arguments-bare : (it : PathSegment) → layer_is_none (out-PathArguments (out-PathSegment (erased_segment it)).arguments) ≡ layer_is_none (out-PathArguments (out-PathSegment it).arguments)
no_arguments-bare it =
    ap (λ at. layer_is_none (out-PathArguments at)) (arguments-bare it)
    ∙ ap layer_is_none (opened_arguments (out-PathSegment it).arguments)
    ∙ layer_is_none-bare (out-PathArguments (out-PathSegment it).arguments)

pub is_bare-bare : (text : Text) (it : PathSegment) → is_bare text (erased_segment it) ≡ is_bare text it
is_bare-bare text it =
    ap (λ (ident : Ident). not ident.raw && bytes_eq ident.text text && layer_is_none (out-PathArguments (out-PathSegment (erased_segment it)).arguments)) (ident-bare it)
    ∙ ap (λ none. not (out-PathSegment it).ident.raw && bytes_eq (out-PathSegment it).ident.text text && none) (no_arguments-bare it)

pub are_bare-bare : (texts : List Text) (segments : List PathSegment) → are_bare texts (map erased_segment segments) ≡ are_bare texts segments
are_bare-bare [] [] = refl
are_bare-bare [] (it ∷ more) = refl
are_bare-bare (text ∷ texts) [] = refl
are_bare-bare (text ∷ texts) (it ∷ more) =
    ap (λ b. b && are_bare texts (map erased_segment more)) (is_bare-bare text it) ∙ ap (λ b. is_bare text it && b) (are_bare-bare texts more)

pub stands_after-bare : (home : Home) (segments : List PathSegment) → stands_after home (map erased_segment segments) ≡ stands_after home segments
stands_after-bare home [] = refl
stands_after-bare home (it ∷ more) = are_bare-bare (home_path home) (it ∷ more)

pub by_row-bare : (segments : List PathSegment) (found : Option (Home × Name)) → by_row (map erased_segment segments) found ≡ by_row segments found
by_row-bare segments None = refl
by_row-bare segments (Some row) = ap (λ b. if b then meants.Table row.1 else meants.Nothing) (stands_after-bare row.0 segments)

pub in_table-bare : (segments : List PathSegment) (ident : Ident) → in_table (map erased_segment segments) (erased_ident ident) ≡ in_table segments ident
in_table-bare segments ident = ap (λ found. if ident.raw then meants.Nothing else found) (by_row-bare segments (looked_up names ident.text))

pub prefix_len-bare : (test : Ident → Bool) (decls : List Ident) → ((it : Ident) → test (erased_ident it) ≡ test it) → prefix_len test (map erased_ident decls) ≡ prefix_len test decls
prefix_len-bare test [] same = refl
prefix_len-bare test (it ∷ decls) same =
    ap (λ b. cond b (1 + prefix_len test (map erased_ident decls)) 0) (same it) ∙ ap (λ n. cond (test it) (1 + n) 0) (prefix_len-bare test decls same)

pub place-bare : (decls : List Ident) (ident : Ident) → position (λ other. same_ident other (erased_ident ident)) (map erased_ident decls) ≡ position (λ other. same_ident other ident) decls
place-bare decls ident =
    let len : position_or_len (λ other. same_ident other ident) (map erased_ident decls) ≡ position_or_len (λ other. same_ident other ident) decls = prefix_len-bare (λ other. not (same_ident other ident)) decls (λ it. refl) in
    ap (λ n. cond (nat_lt n (length (map erased_ident decls))) (Some n) None) len
    ∙ ap (λ n. cond (nat_lt (position_or_len (λ other. same_ident other ident) decls) n) (Some (position_or_len (λ other. same_ident other ident) decls)) None) (length-map decls erased_ident)

pub meant_after-bare : (decls : List Ident) (segments : List PathSegment) (ident : Ident) → meant_after (map erased_ident decls) (map erased_segment segments) (erased_ident ident) ≡ meant_after decls segments ident
meant_after-bare decls [] ident = ap (declared_or (in_table [] ident)) (place-bare decls ident)
meant_after-bare decls (first ∷ more) ident = in_table-bare (first ∷ more) ident

pub meant_at-bare : (decls : List Ident) (before : List PathSegment) (last : Option PathSegment) → meant_at (map erased_ident decls) (map erased_segment before) (option_map erased_segment last) ≡ meant_at decls before last
meant_at-bare decls before None = refl
meant_at-bare decls before (Some last) = ap (meant_after (map erased_ident decls) (map erased_segment before)) (ident-bare last) ∙ meant_after-bare decls before (out-PathSegment last).ident

pub last-bare : (segments : List PathSegment) → slice_get (map erased_segment segments) (length (map erased_segment segments) - 1) ≡ option_map erased_segment (slice_get segments (length segments - 1))
last-bare segments =
    ap (λ n. slice_get (map erased_segment segments) (n - 1)) (length-map segments erased_segment) ∙ slice_get-map erased_segment segments (length segments - 1)

pub before-bare : (segments : List PathSegment) → take (length (map erased_segment segments) - 1) (map erased_segment segments) ≡ map erased_segment (take (length segments - 1) segments)
before-bare segments =
    ap (λ n. take (n - 1) (map erased_segment segments)) (length-map segments erased_segment) ∙ take-map erased_segment (length segments - 1) segments

pub meant_by-bare : (decls : List Ident) (segments : List PathSegment) → meant_by (map erased_ident decls) (map erased_segment segments) ≡ meant_by decls segments
meant_by-bare decls segments =
    ap (λ before. meant_at (map erased_ident decls) before (slice_get (map erased_segment segments) (length (map erased_segment segments) - 1))) (before-bare segments)
    ∙ ap (meant_at (map erased_ident decls) (map erased_segment (take (length segments - 1) segments))) (last-bare segments)
    ∙ meant_at-bare decls (take (length segments - 1) segments) (slice_get segments (length segments - 1))

-- ---- arguments

-- the arguments without places
abbrev pub bared : Arguments Type' → Arguments Type'
bared arguments.Bare = arguments.Bare
bared (arguments.One only) = arguments.One (erased_type only)
bared (arguments.Two first second) = arguments.Two (erased_type first) (erased_type second)
bared arguments.Other = arguments.Other

pub layer_type-bare : (layer : GenericArgumentLayer) → layer_type (bare_argument layer) ≡ option_map erased_type (layer_type layer)
layer_type-bare (GenericArgument-F.«GenericArgument::Lifetime» it) = refl
layer_type-bare (GenericArgument-F.Ty it) = refl
layer_type-bare (GenericArgument-F.Const it) = refl
layer_type-bare (GenericArgument-F.AssocType ident it span) = refl
layer_type-bare (GenericArgument-F.AssocConst ident value span) = refl
layer_type-bare (GenericArgument-F.Constraint ident bounds span) = refl

pub type_in-bare : (it : GenericArgument) → type_in (erased_argument it) ≡ option_map erased_type (type_in it)
type_in-bare it = ap layer_type (opened_argument it) ∙ layer_type-bare (out-GenericArgument it)

pub one-bare : (it : Option Type') → one (option_map erased_type it) ≡ bared (one it)
one-bare None = refl
one-bare (Some it) = refl

pub two-bare : (a b : Option Type') → two (option_map erased_type a) (option_map erased_type b) ≡ bared (two a b)
two-bare None None = refl
two-bare None (Some b) = refl
two-bare (Some a) None = refl
two-bare (Some a) (Some b) = refl

pub between-bare : (items : List GenericArgument) → between (map erased_argument items) ≡ bared (between items)
between-bare [] = refl
between-bare (only ∷ []) = ap one (type_in-bare only) ∙ one-bare (type_in only)
between-bare (first ∷ second ∷ []) = ap (λ it. two it (type_in (erased_argument second))) (type_in-bare first) ∙ ap (two (option_map erased_type (type_in first))) (type_in-bare second) ∙ two-bare (type_in first) (type_in second)
between-bare (first ∷ second ∷ third ∷ more) = refl

pub layer_arguments-bare : (layer : PathArgumentsLayer) → layer_arguments (bare_arguments layer) ≡ bared (layer_arguments layer)
layer_arguments-bare PathArguments-F.None = refl
layer_arguments-bare (PathArguments-F.AngleBracketed items) = between-bare items
layer_arguments-bare (PathArguments-F.Parenthesized inputs output span) = refl

pub arguments_at-bare : (last : Option PathSegment) → arguments_at (option_map erased_segment last) ≡ bared (arguments_at last)
arguments_at-bare None = refl
arguments_at-bare (Some last) =
    ap arguments_in (arguments-bare last) ∙ ap layer_arguments (opened_arguments (out-PathSegment last).arguments) ∙ layer_arguments-bare (out-PathArguments (out-PathSegment last).arguments)

pub last_arguments-bare : (segments : List PathSegment) → last_arguments (map erased_segment segments) ≡ bared (last_arguments segments)
last_arguments-bare segments = ap arguments_at (last-bare segments) ∙ arguments_at-bare (slice_get segments (length segments - 1))

-- ---- heads

-- the head without places
abbrev pub bared_head : Head Type' → Head Type'
bared_head head.Unit = head.Unit
bared_head (head.Leaf it) = head.Leaf it
bared_head (head.Around it inner) = head.Around it (erased_type inner)
bared_head (head.Declared number) = head.Declared number
bared_head head.Host = head.Host

pub bare_in-bare : (meant : Meant) (it : Arguments Type') → bare_in meant (bared it) ≡ bare_in meant it
bare_in-bare (meants.Declared number) it = refl
bare_in-bare (meants.Table found) arguments.Bare = refl
bare_in-bare (meants.Table found) (arguments.One only) = refl
bare_in-bare (meants.Table found) (arguments.Two first second) = refl
bare_in-bare (meants.Table found) arguments.Other = refl
bare_in-bare meants.Nothing it = refl

pub bare_name-bare : (decls : List Ident) (it : Type') → bare_name (map erased_ident decls) (erased_type it) ≡ bare_name decls it
bare_name-bare decls it =
    ap (λ segments. bare_in (meant_by (map erased_ident decls) segments) (last_arguments segments)) (segments_in-bare it)
    ∙ ap (λ meant. bare_in meant (last_arguments (map erased_segment (segments_in it)))) (meant_by-bare decls (segments_in it))
    ∙ ap (bare_in (meant_by decls (segments_in it))) (last_arguments-bare (segments_in it))
    ∙ bare_in-bare (meant_by decls (segments_in it)) (last_arguments (segments_in it))

pub list_of-bare : (item : Option VecItem) (inner : Type') → list_of item (erased_type inner) ≡ bared_head (list_of item inner)
list_of-bare None inner = refl
list_of-bare (Some item) inner = refl

pub set_of-bare : (item : Option SetItem) → set_of item ≡ bared_head (set_of item)
set_of-bare None = refl
set_of-bare (Some item) = refl

pub head_of_one-bare : (inside : Option Name) (found : Name) (inner : Type') → head_of_one inside found (erased_type inner) ≡ bared_head (head_of_one inside found inner)
head_of_one-bare inside (name.Leaf it) inner = refl
head_of_one-bare inside name.Vec inner = list_of-bare (vec_item inside) inner
head_of_one-bare inside name.WherePredicate inner = refl
head_of_one-bare inside name.HashSet inner = set_of-bare (set_item inside)
head_of_one-bare inside name.Punctuated inner = refl
head_of_one-bare inside name.Comma inner = refl
head_of_one-bare inside name.FnArg inner = refl
head_of_one-bare inside name.Option inner = refl
head_of_one-bare inside name.Box inner = refl
head_of_one-bare inside name.Result inner = refl
head_of_one-bare inside name.Override inner = refl
head_of_one-bare inside name.SpannedValue inner = refl
head_of_one-bare inside name.WithOriginal inner = refl
head_of_one-bare inside name.HashMap inner = refl
head_of_one-bare inside name.BTreeMap inner = refl

pub punctuated_of-bare : (item : Option PunctuatedItem) (mark : Option Name) → punctuated_of item mark ≡ bared_head (punctuated_of item mark)
punctuated_of-bare (Some item) (Some name.Comma) = refl
punctuated_of-bare _ _ = refl

pub beside_meta-bare : (it : Wrapper) (inner : Type') (other : Option Name) → beside_meta it (erased_type inner) other ≡ bared_head (beside_meta it inner other)
beside_meta-bare it inner (Some (name.Leaf leaf.Meta)) = refl
beside_meta-bare it inner _ = refl

pub hash_map_of-bare : (key : Option HashKey) (inner : Type') → hash_map_of key (erased_type inner) ≡ bared_head (hash_map_of key inner)
hash_map_of-bare None inner = refl
hash_map_of-bare (Some key) inner = refl

pub tree_map_of-bare : (key : Option TreeKey) (inner : Type') → tree_map_of key (erased_type inner) ≡ bared_head (tree_map_of key inner)
tree_map_of-bare None inner = refl
tree_map_of-bare (Some key) inner = refl

pub head_of_two-bare : (inside other : Option Name) (found : Name) (first second : Type')
    → head_of_two inside other found (erased_type first) (erased_type second) ≡ bared_head (head_of_two inside other found first second)
head_of_two-bare inside other name.Punctuated first second = punctuated_of-bare (punctuated_item inside) other
head_of_two-bare inside other name.Result first second = beside_meta-bare wrapper.ResultMeta first other
head_of_two-bare inside other name.WithOriginal first second = beside_meta-bare wrapper.WithOriginal first other
head_of_two-bare inside other name.HashMap first second = hash_map_of-bare (hash_key inside) second
head_of_two-bare inside other name.BTreeMap first second = tree_map_of-bare (tree_key inside) second
head_of_two-bare inside other _ first second = refl

pub named_head-bare : (decls : List Ident) (meant : Meant) (it : Arguments Type') → named_head (map erased_ident decls) meant (bared it) ≡ bared_head (named_head decls meant it)
named_head-bare decls (meants.Declared place) arguments.Bare = refl
named_head-bare decls (meants.Table (name.Leaf it)) arguments.Bare = refl
named_head-bare decls (meants.Table it) (arguments.One inner) =
    ap (λ inside. head_of_one inside it (erased_type inner)) (bare_name-bare decls inner) ∙ head_of_one-bare (bare_name decls inner) it inner
named_head-bare decls (meants.Table it) (arguments.Two first second) =
    ap (λ inside. head_of_two inside (bare_name (map erased_ident decls) (erased_type second)) it (erased_type first) (erased_type second)) (bare_name-bare decls first)
    ∙ ap (λ other. head_of_two (bare_name decls first) other it (erased_type first) (erased_type second)) (bare_name-bare decls second)
    ∙ head_of_two-bare (bare_name decls first) (bare_name decls second) it first second
named_head-bare decls _ _ = refl

pub head_of-bare : (decls : List Ident) (it : Type') → head_of (map erased_ident decls) (erased_type it) ≡ bared_head (head_of decls it)
head_of-bare decls it =
    let found : Head Type' = named_head decls (meant_by decls (segments_in it)) (last_arguments (segments_in it)) in
    ap (λ b. if b then head.Unit else named_head (map erased_ident decls) (meant_by (map erased_ident decls) (segments_in (erased_type it))) (last_arguments (segments_in (erased_type it)))) (is_unit-bare it)
    ∙ ap (λ named. if is_unit it then head.Unit else named)
    (ap (λ segments. named_head (map erased_ident decls) (meant_by (map erased_ident decls) segments) (last_arguments segments)) (segments_in-bare it)
    ∙ ap (λ meant. named_head (map erased_ident decls) meant (last_arguments (map erased_segment (segments_in it)))) (meant_by-bare decls (segments_in it))
    ∙ ap (named_head (map erased_ident decls) (meant_by decls (segments_in it))) (last_arguments-bare (segments_in it))
    ∙ named_head-bare decls (meant_by decls (segments_in it)) (last_arguments (segments_in it)))
    ∙ by (is_unit it) found
  where
    by : (b : Bool) (found : Head Type') → (if b then head.Unit else bared_head found) ≡ bared_head (if b then head.Unit else found)
    by true found = refl
    by false found = refl
