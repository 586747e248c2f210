-- The row of a type that is the name of a declaration.
use Rattle.std.proofs.Common.{◌≡◌, ◌∙◌, ℕ, false, if◌then◌else◌, List, [], ◌∷◌, position, Some, None, is_none, ap, ap₂}
use Rattle.base_core.specs.declared.text.Text.{Text}
use Rattle.tok_types.specs.declared.ident.Ident.{Ident}
use Rattle.tok_types.specs.declared.span.Span.TheVariants.{CallSite}
use Rattle.node_expr.specs.Layers.{PathLayer, PathSegmentLayer, TypePathLayer}
use Rattle.node_expr.specs.declared.path.Path.{out-Path, out-roll-Path}
use Rattle.node_expr.specs.declared.path.PathArguments.TheVariants as written
use Rattle.node_expr.specs.declared.path.PathSegment.{PathSegment, out-roll-PathSegment}
use Rattle.node_expr.specs.declared.ty.«Type».TheVariants as ty
use Rattle.node_expr.specs.declared.ty.TypePath.{out-roll-TypePath}
use Rattle.node_make.specs.Make.{make_segment, make_type_path}
use Rattle.machine_rows.specs.Arguments.{arguments_in, last_arguments, layer_arguments}
use Rattle.machine_rows.specs.Heads.{head_of, is_unit, layer_is_unit, named_head}
use Rattle.machine_rows.specs.Paths.{declared_or, in_table, layer_segments, meant_after, meant_by, same_ident, segments_in}
use Rattle.machine_rows.specs.Rows.{row_at, row_by, row_of}
use Rattle.machine_rows.specs.declared.arguments.Arguments.TheVariants as arguments
use Rattle.machine_rows.specs.declared.head.Head.TheVariants as head
use Rattle.machine_rows.specs.declared.path.Meant.TheVariants as meants
use Rattle.machine_rows.specs.declared.row.Row.TheVariants as row
use Rattle.meaning_core.specs.Made.{name_of, named_path, named_type}

-- the name alone
abbrev segment : Text → PathSegment
segment text = make_segment (name_of text) written.None CallSite

named_segments : (text : Text) → segments_in (named_type text) ≡ segment text ∷ []
named_segments text =
    ap layer_segments (ty.outs-Path (make_type_path None (named_path text) CallSite))
    ∙ ap (λ (layer : TypePathLayer). if is_none layer.qself then (out-Path layer.path).segments else [])
    (out-roll-TypePath (record { qself = None; path = named_path text; span = CallSite }))
    ∙ ap (λ (layer : PathLayer). layer.segments) (out-roll-Path (record { leading_colon = false; segments = segment text ∷ []; span = CallSite }))

named_is_no_unit : (text : Text) → is_unit (named_type text) ≡ false
named_is_no_unit text = ap layer_is_unit (ty.outs-Path (make_type_path None (named_path text) CallSite))

module _ (names : List Ident) where
  -- a bare name means the declaration that is the first of the name
  segment_means : (text : Text) (number : ℕ) → position (λ other. same_ident other (name_of text)) names ≡ Some number
      → meant_by names (segment text ∷ []) ≡ meants.Declared number
  segment_means text number first =
      ap (λ (layer : PathSegmentLayer). meant_after names [] layer.ident)
      (out-roll-PathSegment (record { ident = name_of text; arguments = written.None; span = CallSite }))
      ∙ ap (declared_or (in_table [] (name_of text))) first

  segment_is_bare : (text : Text) → last_arguments (segment text ∷ []) ≡ arguments.Bare
  segment_is_bare text =
      ap (λ (layer : PathSegmentLayer). arguments_in layer.arguments)
      (out-roll-PathSegment (record { ident = name_of text; arguments = written.None; span = CallSite }))
      ∙ ap layer_arguments written.outs-None

  head_is : (text : Text) (number : ℕ) → position (λ other. same_ident other (name_of text)) names ≡ Some number
      → head_of names (named_type text) ≡ head.Declared number
  head_is text number first =
      let type = named_type text in
      ap (λ unit. if unit then head.Unit else named_head names (meant_by names (segments_in type)) (last_arguments (segments_in type))) (named_is_no_unit text)
      ∙ ap (λ segments. named_head names (meant_by names segments) (last_arguments segments)) (named_segments text)
      ∙ ap₂ (named_head names) (segment_means text number first) (segment_is_bare text)

  -- the type of a name is the declaration that is the first of the name
  pub named_row : (text : Text) (number : ℕ) → position (λ other. same_ident other (name_of text)) names ≡ Some number
      → row_of names (named_type text) ≡ row.Declared number
  unfolding row_of
  named_row text number first = ap (row_by (row_at names 255) (named_type text)) (head_is text number first)
