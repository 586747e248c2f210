-- What the program's host looks at is the same without places.
use Rattle.std.proofs.Common.{◌≡◌, ◌∙◌, ℕ, zero, suc, ◌==◌, if◌then◌else◌, List, [], ◌∷◌, map, Option, Some, None, option_map, is_none, refl, ap, sym, Bor, codes, ◌||◌}
use Rattle.std.specs.Prelude.{slice_get, option_and_then, unwrap_or}
use Rattle.std.specs.Option.{option_copied}
use Rattle.std.specs.Str.{bytes_eq}
use Rattle.std.proofs.lemmas.Option.{slice_get-map}
use Rattle.base_core.specs.declared.text.Text.{Text}
use Rattle.tok_types.specs.Ident.{ident_text}
use Rattle.tok_types.specs.declared.ident.Ident.{Ident}
use Rattle.node_expr.specs.Layers.{ExprLayer, ExprPathLayer}
use Rattle.node_expr.specs.declared.expr.Expr.{out-Expr}
use Rattle.node_expr.specs.declared.expr.Expr.TheOpen.{Expr-F}
use Rattle.node_expr.specs.declared.expr.ExprPath.{ExprPath, out-ExprPath}
use Rattle.node_expr.specs.declared.path.Path.{Path}
use Rattle.node_expr.specs.declared.path.QSelf.{QSelf}
use Rattle.node_expr.specs.declared.ty.«Type».{«Type» as Type'}
use Rattle.node_core.specs.declared.data.Field.{Field}
use Rattle.node_core.specs.declared.data.Fields.{Fields}
use Rattle.node_core.specs.declared.data.Fields.TheVariants as fields
use Rattle.node_core.specs.declared.data.«Data».{«Data»}
use Rattle.node_core.specs.declared.data.«Data».TheVariants as body
use Rattle.node_core.specs.declared.derive.DeriveInput.{DeriveInput}
use Rattle.codegen_program.specs.declared.callable.Callable.{Callable}
use Rattle.law_spans.specs.Erased.{erased_expr, erased_ident, erased_path, erased_qself, erased_type}
use Rattle.law_spans_items.specs.Erased.{erased_data, erased_derive_input, erased_field, erased_fields}
use Rattle.law_equality.proofs.Exprs.{bare_expr}
use Rattle.machine_rows.specs.Heads.{head_of}
use Rattle.machine_rows.specs.Paths.{are_bare, segments_in}
use Rattle.machine_rows.specs.Rows.{row_at, row_of}
use Rattle.machine_rows.specs.declared.head.Head.{Head}
use Rattle.machine_rows.specs.declared.head.Head.TheVariants as head
use Rattle.machine_rows.specs.declared.leaf.Leaf.{Leaf}
use Rattle.machine_value.specs.declared.value.Value.{Value}
use Rattle.machine_value.specs.declared.value.Value.TheVariants as value
use Rattle.node_core.specs.declared.style.Style.TheVariants as style
use Rattle.machine_cells.specs.Defaults.{row_default}
use Rattle.machine_host.specs.Decls.{decl_names, member_name}
use Rattle.machine_host.specs.HostSays.{erased_call, erased_decls, erased_place}
use Rattle.machine_host.specs.Made.{named_type}
use Rattle.machine_host.specs.declared.place.Place.{Place}
use Rattle.machine_host.specs.declared.place.Use.{Use}
use Rattle.machine_std.specs.Defaults.{decl_default, declared_in, default_among, default_below, default_in, each_of, member_default, named_in, named_of, none_of_host, struct_default, type_default, with_first}
use Rattle.machine_std.specs.Functions.{chosen, head_leaf, is_function, is_path_of, layer_path, leaf_in, offer_by, offer_for, offered_at, path_in}
use Rattle.machine_std.specs.StdSays.{is_tag, taken}
use Rattle.machine_std.proofs.Heads.{are_bare-bare, bared_head, head_of-bare, path_text-bare, segments_in-bare}
use Rattle.machine_std.proofs.Nodes.{opened_expr, opened_expr_path}
use Rattle.machine_std.specs.DefaultRows.{default, default-Host, default-at, step}
use Rattle.machine_std.specs.Rests.{around_layer, head_default}

pub names-bare : (decls : List DeriveInput) → decl_names (erased_decls decls) ≡ map erased_ident (decl_names decls)
names-bare [] = refl
names-bare (decl ∷ decls) = ap (λ names. erased_ident decl.ident ∷ names) (names-bare decls)

pub head-bare : (decls : List DeriveInput) (ty : Type') → head_of (decl_names (erased_decls decls)) (erased_type ty) ≡ bared_head (head_of (decl_names decls) ty)
head-bare decls ty = ap (λ names. head_of names (erased_type ty)) (names-bare decls) ∙ head_of-bare (decl_names decls) ty

-- ---- what is offered

pub head_leaf-bare : (it : Head Type') → head_leaf (bared_head it) ≡ head_leaf it
head_leaf-bare head.Unit = refl
head_leaf-bare (head.Leaf it) = refl
head_leaf-bare (head.Around it inner) = refl
head_leaf-bare (head.Declared number) = refl
head_leaf-bare head.Host = refl

pub leaf_in-bare : (decls : List DeriveInput) (ty : Type') → leaf_in (erased_decls decls) (erased_type ty) ≡ leaf_in decls ty
leaf_in-bare decls ty = ap head_leaf (head-bare decls ty) ∙ head_leaf-bare (head_of (decl_names decls) ty)

pub path_layer-bare : (it : ExprPath) → layer_path (bare_expr (Expr-F.«Expr::Path» it)) ≡ option_map erased_path (layer_path (Expr-F.«Expr::Path» it))
path_layer-bare it =
    ap (λ (layer : ExprPathLayer). if is_none layer.qself then Some layer.path else None) (opened_expr_path it) ∙ by (out-ExprPath it).qself
  where
    by : (qself : Option (QSelf Type')) → (if is_none (option_map erased_qself qself) then Some (erased_path (out-ExprPath it).path) else None) ≡ option_map erased_path (if is_none qself then Some (out-ExprPath it).path else None)
    by None = refl
    by (Some qself) = refl

pub layer_path-bare : (layer : ExprLayer) → layer_path (bare_expr layer) ≡ option_map erased_path (layer_path layer)
layer_path-bare (Expr-F.«Expr::Path» it) = path_layer-bare it
layer_path-bare _ = refl

abbrev erased_callable : Callable → Callable
erased_callable it = record { call = erased_expr it.call }

pub path_in-bare : (it : Callable) → path_in (erased_callable it) ≡ option_map erased_path (path_in it)
path_in-bare it = ap layer_path (opened_expr it.call) ∙ layer_path-bare (out-Expr it.call)

pub offer_by-bare : (at : Use) (path : Option Path) (it : Option Leaf) → offer_by at (option_map erased_path path) it ≡ offer_by at path it
offer_by-bare at None it = refl
offer_by-bare at (Some path) None = refl
offer_by-bare at (Some path) (Some it) = ap (λ text. chosen text it (offered_at at)) (path_text-bare path)

pub call-bare : (call : Option (Bor Callable)) → option_and_then path_in (erased_call call) ≡ option_map erased_path (option_and_then path_in (option_copied call))
call-bare None = refl
call-bare (Some it) = path_in-bare it.now

is_path_of-bare : (name : Text) (path : Option Path) → is_path_of name (option_map erased_path path) ≡ is_path_of name path
is_path_of-bare name None = refl
is_path_of-bare name (Some path) = ap (bytes_eq name) (path_text-bare path)

pub is_function-bare : (name : Text) (call : Option (Bor Callable)) → is_function name (erased_call call) ≡ is_function name (option_copied call)
is_function-bare name call = ap (is_path_of name) (call-bare call) ∙ is_path_of-bare name (option_and_then path_in (option_copied call))

pub offer_for-bare : (decls : List DeriveInput) (call : Option (Bor Callable)) (place : Place) → offer_for (erased_decls decls) (erased_call call) (erased_place place) ≡ offer_for decls (option_copied call) place
offer_for-bare decls call place =
    ap (offer_by place.at (option_and_then path_in (erased_call call))) (leaf_in-bare decls place.ty)
    ∙ ap (λ path. offer_by place.at path (leaf_in decls place.ty)) (call-bare call)
    ∙ offer_by-bare place.at (option_and_then path_in (option_copied call)) (leaf_in decls place.ty)

-- ---- the defaults of declarations

module _ (declared : ℕ → Option Value) where
  head_default-bare : (inside other : Type' → Option Value) → ((ty : Type') → inside (erased_type ty) ≡ other ty) → (ty : Type') (it : Head Type') → head_default declared inside (erased_type ty) (bared_head it) ≡ head_default declared other ty it
  head_default-bare inside other same ty head.Unit = refl
  head_default-bare inside other same ty (head.Leaf it) = refl
  head_default-bare inside other same ty (head.Around it inner) = ap (λ found. step declared (around_layer it found)) (same inner)
  head_default-bare inside other same ty (head.Declared number) = refl
  head_default-bare inside other same ty head.Host = refl

  pub default-bare : (decls : List Ident) (level : ℕ) (ty : Type') → default declared (row_at (map erased_ident decls) level (erased_type ty)) ≡ default declared (row_at decls level ty)
  default-bare decls zero ty = default-Host declared (erased_type ty) ∙ sym (default-Host declared ty)
  default-bare decls (suc level) ty =
      default-at declared (map erased_ident decls) level (erased_type ty)
      ∙ ap (head_default declared (λ inner. default declared (row_at (map erased_ident decls) level inner)) (erased_type ty)) (head_of-bare decls ty)
      ∙ head_default-bare (λ inner. default declared (row_at (map erased_ident decls) level inner)) (λ inner. default declared (row_at decls level inner)) (default-bare decls level) ty (head_of decls ty)
      ∙ sym (default-at declared decls level ty)

pub type_default-bare : (decls : List DeriveInput) (declared : ℕ → Option Value) (ty : Type') → type_default (erased_decls decls) declared (erased_type ty) ≡ type_default decls declared ty
unfolding row_of
type_default-bare decls declared ty =
    ap (λ names. row_default declared none_of_host (row_of names (erased_type ty))) (names-bare decls) ∙ default-bare declared (decl_names decls) 256 ty

pub member_name-bare : (field : Field) → member_name (erased_field field) ≡ member_name field
member_name-bare field = by field.ident
  where
    by : (ident : Option Ident) → unwrap_or (option_map ident_text (option_map erased_ident ident)) [] ≡ unwrap_or (option_map ident_text ident) []
    by None = refl
    by (Some ident) = refl

module _ (bared plain : Type' → Option Value) (same : (ty : Type') → bared (erased_type ty) ≡ plain ty) where
  member-bare : (field : Field) → member_default bared (erased_field field) ≡ member_default plain field
  member-bare field =
      ap (λ name. option_map (λ (it : Value). let member : Text × Value = (name, it) in member) (bared (erased_type field.ty))) (member_name-bare field)
      ∙ ap (option_map (λ (it : Value). let member : Text × Value = (member_name field, it) in member)) (same field.ty)

  members-bare : (named : List Field) → each_of (map (member_default bared) (map erased_field named)) ≡ each_of (map (member_default plain) named)
  members-bare [] = refl
  members-bare (field ∷ named) =
      ap (λ first. with_first first (each_of (map (member_default bared) (map erased_field named)))) (member-bare field) ∙ ap (with_first (member_default plain field)) (members-bare named)

  fields-bare : (ident : Ident) (named : Option (List Field)) → option_and_then (struct_default bared (erased_ident ident)) (option_map (map erased_field) named) ≡ option_and_then (struct_default plain ident) named
  fields-bare ident None = refl
  fields-bare ident (Some named) = ap (option_map (value.Struct (ident_text ident) style.Struct)) (members-bare named)

  decl-bare : (decl : Option DeriveInput) → decl_default bared (option_map erased_derive_input decl) ≡ decl_default plain decl
  decl-bare None = refl
  decl-bare (Some decl) = ap (option_and_then (struct_default bared (erased_ident decl.ident))) (named_in-bare decl.body) ∙ fields-bare decl.ident (named_in decl.body)
    where
      named_of-bare : (it : Fields) → named_of (erased_fields it) ≡ option_map (map erased_field) (named_of it)
      named_of-bare (fields.Named it) = refl
      named_of-bare (fields.Unnamed it) = refl
      named_of-bare fields.Unit = refl

      named_in-bare : (it : «Data») → named_in (erased_data it) ≡ option_map (map erased_field) (named_in it)
      named_in-bare (body.Struct it) = named_of-bare it.fields
      named_in-bare (body.Enum it) = refl
      named_in-bare (body.Union it) = refl

pub default_below-bare : (decls : List DeriveInput) (bound number : ℕ) → default_below (erased_decls decls) bound number ≡ default_below decls bound number
unfolding default_below
default_below-bare decls zero number = refl
default_below-bare decls (suc bound) number =
    let below : default_below (erased_decls decls) bound ≡ default_below decls bound = λ i k. default_below-bare decls bound k i in
    let types : (ty : Type') → type_default (erased_decls decls) (default_below (erased_decls decls) bound) (erased_type ty) ≡ type_default decls (default_below decls bound) ty
    = λ ty. type_default-bare decls (default_below (erased_decls decls) bound) ty ∙ ap (λ declared. type_default decls declared ty) below in
    let here : decl_default (type_default (erased_decls decls) (default_below (erased_decls decls) bound)) (slice_get (erased_decls decls) bound) ≡ decl_default (type_default decls (default_below decls bound)) (slice_get decls bound)
    = ap (decl_default (type_default (erased_decls decls) (default_below (erased_decls decls) bound))) (slice_get-map erased_derive_input decls bound)
    ∙ decl-bare (type_default (erased_decls decls) (default_below (erased_decls decls) bound)) (type_default decls (default_below decls bound)) types (slice_get decls bound) in
    ap (λ it. if number == bound then it else default_below (erased_decls decls) bound number) here
    ∙ ap (λ it. if number == bound then decl_default (type_default decls (default_below decls bound)) (slice_get decls bound) else it) (default_below-bare decls bound number)

pub declared_in-bare : (it : Head Type') → declared_in (bared_head it) ≡ declared_in it
declared_in-bare head.Unit = refl
declared_in-bare (head.Leaf it) = refl
declared_in-bare (head.Around it inner) = refl
declared_in-bare (head.Declared number) = refl
declared_in-bare head.Host = refl

pub default_in-bare : (decls : List DeriveInput) (ty : Type') → default_in (erased_decls decls) (erased_type ty) ≡ default_in decls ty
default_in-bare decls ty =
    ap (λ it. option_and_then (default_among (erased_decls decls)) (declared_in it)) (head-bare decls ty)
    ∙ ap (option_and_then (default_among (erased_decls decls))) (declared_in-bare (head_of (decl_names decls) ty))
    ∙ ap (λ declared. option_and_then declared (declared_in (head_of (decl_names decls) ty))) (λ i number. default_below-bare decls (suc number) number i)

pub is_tag-bare : (ty : Type') → is_tag (erased_type ty) ≡ is_tag ty
is_tag-bare ty = ap (are_bare (codes "Tag" ∷ [])) (segments_in-bare ty) ∙ are_bare-bare (codes "Tag" ∷ []) (segments_in ty)

pub taken-bare : (path : Path) → taken (erased_path path) ≡ taken path
taken-bare path = ap (λ text. if bytes_eq (codes "text::trim") text || bytes_eq (codes "text::nonempty") text then Some (named_type (codes "String")) else None) (path_text-bare path)
