-- The laws of the program's host, which its implementation cites.
use Rattle.std.proofs.Common.{◌≡◌, ◌∙◌, ℕ, suc, inl, ◌^◌, Bool, true, false, if◌then◌else◌, ◌&&◌, ◌++◌, nat_lt, List, [], ◌∷◌, length, map, Option, Some, None, is_none, is_some, refl, ap, sym, subst, codes, cond, IsTrue, not}
use Rattle.std.specs.Prelude.{option_and_then, unwrap_or}
use Rattle.std.specs.Str.{bytes_eq}
use Rattle.std.specs.List.{join_by}
use Rattle.std.proofs.lemmas.Bool.{false≢true, ltb-true}
use Rattle.std.proofs.lemmas.List.{append-nil}
use Rattle.std.proofs.lemmas.Slice.Eq.{bytes_eq-Decides}
use Rattle.base_core.specs.declared.text.Text.{Text}
use Rattle.error_fault.specs.Outcome.{Outcome, Value, Faults}
use Rattle.tok_types.specs.declared.ident.Ident.{Ident}
use Rattle.node_expr.specs.declared.expr.Expr.TheOpen.{Type-F}
use Rattle.node_expr.specs.declared.path.Path.{Path, out-Path}
use Rattle.node_expr.specs.declared.path.PathArguments.{out-PathArguments}
use Rattle.node_expr.specs.declared.path.PathSegment.{PathSegment, out-PathSegment}
use Rattle.node_expr.specs.declared.path.QSelf.{QSelf}
use Rattle.node_expr.specs.declared.ty.«Type».{«Type» as Type', out-Type}
use Rattle.node_expr.specs.declared.ty.TypePath.{TypePath, out-TypePath}
use Rattle.node_expr.specs.Layers.{TypeLayer}
use Rattle.node_make.specs.PathText.{path_text, segment_text}
use Rattle.node_core.specs.declared.derive.DeriveInput.{DeriveInput}
use Rattle.machine_rows.specs.Heads.{head_of}
use Rattle.machine_rows.specs.Paths.{are_bare, is_bare, layer_is_none, layer_segments}
use Rattle.machine_rows.specs.Rows.{row_at, row_by, row_of}
use Rattle.machine_rows.specs.declared.head.Head.{Head}
use Rattle.machine_rows.specs.declared.head.Head.TheVariants as head
use Rattle.machine_rows.specs.declared.leaf.Integer.TheVariants as integer
use Rattle.machine_rows.specs.declared.leaf.Leaf.{Leaf}
use Rattle.machine_rows.specs.declared.leaf.Leaf.TheVariants as leaf
use Rattle.machine_rows.specs.declared.row.Row.{Row}
use Rattle.machine_rows.specs.declared.row.Row.TheOpen.{Row-F}
use Rattle.machine_rows.specs.declared.row.Row.TheVariants as row
use Rattle.machine_value.specs.declared.value.Value.{Value as Datum, out-Value}
use Rattle.machine_value.specs.declared.value.Value.TheOpen.{Value-F}
use Rattle.machine_value.specs.declared.value.Value.TheVariants as value
use Rattle.machine_cells.specs.Values.{natural}
use Rattle.machine_host.specs.Decls.{Fits, FitsAmong, decl_names}
use Rattle.machine_host.specs.Fits.{layer_name, type_name}
use Rattle.machine_host.specs.Forms.{Form, IsHostOf}
use Rattle.machine_host.specs.Integers.{InRange}
use Rattle.machine_host.specs.Lawful.{IsLawful, IsProper}
use Rattle.machine_host.specs.Leaves.{FitsLeaf}
use Rattle.machine_host.specs.Seen.{SeenArg, MetaSeen, ValueSeen, IdentSeen, AttrsSeen}
use Rattle.machine_host.specs.declared.place.Place.{Place}
use Rattle.machine_host.specs.declared.place.Use.{Use}
use Rattle.machine_host.specs.declared.place.Use.TheVariants as use_at
use Rattle.machine_host.specs.declared.said.Said.{Said}
use Rattle.machine_host.specs.declared.said.Said.TheVariants as said
use Rattle.machine_host.proofs.Fitting.{fits_at}
use Rattle.machine_host.proofs.Values.{is_host, is_int, is_text}
use Rattle.machine_std.specs.Defaults.{declared_in, default_among}
use Rattle.machine_std.specs.Functions.{Offer, chosen, head_leaf, leaf_in, nonempty_said, offer_by, offer_of, offered_at, on_layer, on_text, path_in, text_said, unasked}
use Rattle.machine_std.specs.StdSays.{answered, is_tag, std_says, tag_outcome, tag_said}
use Rattle.machine_std.specs.Texts.{trimmed}
use Rattle.machine_std.specs.declared.function.Function.{Function}
use Rattle.machine_std.specs.declared.function.Function.TheVariants as function
use Rattle.machine_std.specs.DefaultsFit.{below_fits, one_in_range, same_some, some-none}

-- ---- what functions answer

module _ (Absent : Type 0) where
  abbrev Proper : Leaf → Said → Type 0
  Proper it said = IsProper (FitsLeaf it) Absent said

  text_proper : (text : Text) → Proper leaf.String (text_said text)
  text_proper text = is_text text

  nonempty_proper : (text : Text) → Proper leaf.String (nonempty_said text)
  nonempty_proper [] = tt
  nonempty_proper (first ∷ more) = is_text (first ∷ more)

  layer_proper : (answer : Text → Said) → ((text : Text) → Proper leaf.String (answer text)) → (layer : Value-F Datum) → Proper leaf.String (on_layer answer layer)
  layer_proper answer proper (Value-F.Text text) = proper text
  layer_proper answer proper _ = tt

  on_text_proper : (answer : Text → Said) → ((text : Text) → Proper leaf.String (answer text)) → (arg : SeenArg) → Proper leaf.String (on_text answer arg)
  on_text_proper answer proper (ValueSeen it) = layer_proper answer proper (out-Value it)
  on_text_proper answer proper _ = tt

  count_proper : (n : ℕ) (b : Bool) → nat_lt n (2 ^ 64) ≡ b → Proper (leaf.Integer integer.Usize) (if b then said.Given (natural n) else unasked)
  count_proper n true e = is_int (InRange integer.Usize) false n (ltb-true n (2 ^ 64) e)
  count_proper n false e = tt

  answer_proper : (it : Function) (kind : Leaf) (arg : SeenArg) → (offer_of it).gives kind ≡ true → Proper kind ((offer_of it).answer arg)
  answer_proper function.Trim leaf.String arg h = on_text_proper (λ text. text_said (trimmed text)) (λ text. text_proper (trimmed text)) arg
  answer_proper function.Trim _ arg h = absurd (false≢true h)
  answer_proper function.Nonempty leaf.String arg h = on_text_proper nonempty_said nonempty_proper arg
  answer_proper function.Nonempty _ arg h = absurd (false≢true h)
  answer_proper function.Star leaf.String arg h = text_proper (codes "*")
  answer_proper function.Star _ arg h = absurd (false≢true h)
  answer_proper function.One (leaf.Integer it) arg h = is_int (InRange it) false 1 (one_in_range it)
  answer_proper function.One _ arg h = absurd (false≢true h)
  answer_proper function.PathText leaf.String (MetaSeen it) h = is_text _
  answer_proper function.PathText leaf.String _ h = tt
  answer_proper function.PathText _ arg h = absurd (false≢true h)
  answer_proper function.IdentText leaf.String (IdentSeen it) h = is_text _
  answer_proper function.IdentText leaf.String _ h = tt
  answer_proper function.IdentText _ arg h = absurd (false≢true h)
  answer_proper function.Count (leaf.Integer integer.Usize) (AttrsSeen attrs) h = count_proper (length attrs) (nat_lt (length attrs) (2 ^ 64)) refl
  answer_proper function.Count (leaf.Integer integer.Usize) _ h = tt
  answer_proper function.Count _ arg h = absurd (false≢true h)

  -- one of several functions
  chosen_by : (it : Function) (kind : Leaf) (arg : SeenArg) (named gives : Bool) → (offer_of it).gives kind ≡ gives → (more : Option Offer)
      → (IsTrue (is_some more) → Proper kind (answered more arg)) → IsTrue (is_some (cond (named && gives) (Some (offer_of it)) more)) → Proper kind (answered (cond (named && gives) (Some (offer_of it)) more) arg)
  chosen_by it kind arg true true e more rest h = answer_proper it kind arg e
  chosen_by it kind arg true false e more rest h = rest h
  chosen_by it kind arg false gives e more rest h = rest h

  chosen_proper : (functions : List Function) (text : Text) (kind : Leaf) (arg : SeenArg) → IsTrue (is_some (chosen text kind (map offer_of functions)))
      → Proper kind (answered (chosen text kind (map offer_of functions)) arg)
  chosen_proper [] text kind arg h = absurd (false≢true h)
  chosen_proper (it ∷ functions) text kind arg h =
      chosen_by it kind arg (bytes_eq (offer_of it).name text) ((offer_of it).gives kind) refl (chosen text kind (map offer_of functions)) (chosen_proper functions text kind arg) h

  offered_proper : (at : Use) (text : Text) (kind : Leaf) (arg : SeenArg) → IsTrue (is_some (chosen text kind (offered_at at))) → Proper kind (answered (chosen text kind (offered_at at)) arg)
  offered_proper use_at.Map = chosen_proper (function.Trim ∷ [])
  offered_proper use_at.AndThen = chosen_proper (function.Nonempty ∷ [])
  offered_proper use_at.Default = chosen_proper (function.Star ∷ function.One ∷ [])
  offered_proper use_at.With = chosen_proper (function.PathText ∷ [])
  offered_proper use_at.Ident = chosen_proper (function.IdentText ∷ [])
  offered_proper use_at.Attrs = chosen_proper (function.Count ∷ [])
  offered_proper _ = chosen_proper []

-- ---- types by their heads

leaf_row : (read : Type' → Row) (ty : Type') (it : Head Type') (kind : Leaf) → head_leaf it ≡ Some kind → row_by read ty it ≡ row.Leaf kind
leaf_row read ty (head.Leaf it) kind e = ap row.Leaf (same_some e)
leaf_row read ty _ kind e = absurd (some-none e)

number_row : (read : Type' → Row) (ty : Type') (it : Head Type') (number : ℕ) → declared_in it ≡ Some number → row_by read ty it ≡ row.Declared number
number_row read ty (head.Declared place) number e = ap row.Declared (same_some e)
number_row read ty _ number e = absurd (some-none e)

row_of-leaf : (names : List Ident) (ty : Type') (kind : Leaf) → head_leaf (head_of names ty) ≡ Some kind → row_of names ty ≡ row.Leaf kind
unfolding row_of
row_of-leaf names ty kind e = leaf_row (row_at names 255) ty (head_of names ty) kind e

row_of-number : (names : List Ident) (ty : Type') (number : ℕ) → declared_in (head_of names ty) ≡ Some number → row_of names ty ≡ row.Declared number
unfolding row_of
row_of-number names ty number e = number_row (row_at names 255) ty (head_of names ty) number e

proper_in : (Here There : Form) (Absent : Type 0) → ((it : Datum) → Here it → There it) → (it : Said) → IsProper Here Absent it → IsProper There Absent it
proper_in Here There Absent f (said.Given it) h = f it h
proper_in Here There Absent f said.Absent h = h
proper_in Here There Absent f (said.Faults fault more) h = tt

-- what fits a type of the table fits a type that is it
pub leaf_fits_type : (decls : List DeriveInput) (ty : Type') (kind : Leaf) → leaf_in decls ty ≡ Some kind → (it : Datum) → FitsLeaf kind it → Fits decls ty it
leaf_fits_type decls ty kind e it h =
    inl (fits_at (FitsAmong decls) (row_of (decl_names decls) ty) (row.Leaf kind) (Row-F.Leaf kind) it (row_of-leaf (decl_names decls) ty kind e) (row.rolls-Leaf kind) h)

-- ---- the four laws

answer_by : (decls : List DeriveInput) (place : Place) (arg : SeenArg) (path : Option Path) (found : Option Leaf) → leaf_in decls place.ty ≡ found
    → IsTrue (is_some (offer_by place.at path found)) → IsProper (Fits decls place.ty) (place.at ≡ use_at.FromNone) (answered (offer_by place.at path found) arg)
answer_by decls place arg None found e h = absurd (false≢true h)
answer_by decls place arg (Some path) None e h = absurd (false≢true h)
answer_by decls place arg (Some path) (Some kind) e h =
    let text : Text = path_text path in
    proper_in (FitsLeaf kind) (Fits decls place.ty) (place.at ≡ use_at.FromNone) (leaf_fits_type decls place.ty kind e)
    (answered (chosen text kind (offered_at place.at)) arg) (offered_proper (place.at ≡ use_at.FromNone) place.at text kind arg h)

default_by : (decls : List DeriveInput) (ty : Type') (number : ℕ) → declared_in (head_of (decl_names decls) ty) ≡ Some number → (made : Option Datum) → default_among decls number ≡ made
    → IsTrue (is_some made) → Fits decls ty (unwrap_or made value.Unit)
default_by decls ty number e None is h = absurd (false≢true h)
default_by decls ty number e (Some made) is h =
    inl (fits_at (FitsAmong decls) (row_of (decl_names decls) ty) (row.Declared number) (Row-F.Declared number) made (row_of-number (decl_names decls) ty number e) (row.rolls-Declared number)
    (below_fits decls (suc number) number made is))

default_fits : (decls : List DeriveInput) (ty : Type') (found : Option ℕ) → declared_in (head_of (decl_names decls) ty) ≡ found → IsTrue (is_some (option_and_then (default_among decls) found))
    → Fits decls ty (unwrap_or (option_and_then (default_among decls) found) value.Unit)
default_fits decls ty None e h = absurd (false≢true h)
default_fits decls ty (Some number) e h = default_by decls ty number e (default_among decls number) refl h

text_by : (raw same bare : Bool) (text : Text) → (same ≡ true → text ≡ codes "Tag") → (not raw && same && bare) && true ≡ true → ((if raw then codes "r#" else []) ++ text) ++ [] ≡ codes "Tag"
text_by true same bare text e h = absurd (false≢true h)
text_by false true bare text e h = append-nil text ∙ e refl
text_by false false bare text e h = absurd (false≢true h)

never : (b : Bool) → b && false ≡ true → ⊥
never true h = false≢true h
never false h = false≢true h

bare_name : (segments : List PathSegment) → are_bare (codes "Tag" ∷ []) segments ≡ true → join_by segment_text (codes "::") segments ≡ codes "Tag"
bare_name [] h = absurd (false≢true h)
bare_name (it ∷ []) h =
    let ident : Ident = (out-PathSegment it).ident in
    text_by ident.raw (bytes_eq ident.text (codes "Tag")) (layer_is_none (out-PathArguments (out-PathSegment it).arguments)) ident.text (bytes_eq-Decides ident.text (codes "Tag")).0 h
bare_name (it ∷ other ∷ more) h = absurd (never (is_bare (codes "Tag") it) h)

path_name : (it : TypePath) (qself : Option (QSelf Type')) → are_bare (codes "Tag" ∷ []) (if is_none qself then (out-Path (out-TypePath it).path).segments else []) ≡ true → path_text (out-TypePath it).path ≡ codes "Tag"
path_name it None h = bare_name (out-Path (out-TypePath it).path).segments h
path_name it (Some qself) h = absurd (false≢true h)

layer_is_tag : (layer : TypeLayer) → are_bare (codes "Tag" ∷ []) (layer_segments layer) ≡ true → layer_name layer ≡ codes "Tag"
layer_is_tag (Type-F.«Type::Path» it) h = path_name it (out-TypePath it).qself h
layer_is_tag _ h = absurd (false≢true h)

tag_name : (ty : Type') → IsTrue (is_tag ty) → type_name ty ≡ codes "Tag"
tag_name ty h = layer_is_tag (out-Type ty) h

tag_proper : (name : Text) → name ≡ codes "Tag" → (outcome : Outcome Text) → IsProper (IsHostOf name) ⊥ (tag_said outcome)
tag_proper name e (Value text) = subst (λ name. IsHostOf name (value.Host (codes "Tag") text)) (sym e) (is_host (codes "Tag") text)
tag_proper name e (Faults fault more) = tt

pub std_lawful : IsLawful std_says
std_lawful =
    record {
      answer = λ decls call place arg offered. answer_by decls place arg (option_and_then path_in call) (leaf_in decls place.ty) refl offered;
      default_of = λ decls ty has. default_fits decls ty (declared_in (head_of (decl_names decls) ty)) refl has;
      convert = λ ty item known. tag_proper (type_name ty) (tag_name ty known) (tag_outcome item);
      none_of = λ ty known. tt;
    }
