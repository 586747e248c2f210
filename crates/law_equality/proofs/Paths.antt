-- Of paths and of arrays of types, level by level.
use Rattle.std.proofs.Common.{◌≡◌, Bool, ◌&&◌, map, Option, Some, None, option_map, nat_eq, refl, ap}
use Rattle.std.specs.Bool.{Decides}
use Rattle.std.specs.Option.{option_eq}
use Rattle.tok_types.specs.declared.span.Span.TheVariants.{CallSite}
use Rattle.tok_types.specs.declared.span.Span.{Span}
use Rattle.node_expr.specs.Layers.{ExprPathLayer, PathLayer, PathSegmentLayer, TypeArrayLayer, TypePathLayer}
use Rattle.node_expr.specs.contracts.ty.TypePartialEq.TheImpl as type_eq
use Rattle.node_expr.specs.contracts.expr.ExprPathPartialEq.TheImpl as expr_path_eq
use Rattle.node_expr.specs.contracts.expr.ExprPathPartialEq.TheImpl.Laws as expr_path_laws
use Rattle.node_expr.specs.contracts.path.PathPartialEq.TheImpl as path_eq
use Rattle.node_expr.specs.contracts.path.PathPartialEq.TheImpl.Laws as path_laws
use Rattle.node_expr.specs.contracts.path.PathSegmentPartialEq.TheImpl as segment_eq
use Rattle.node_expr.specs.contracts.path.PathSegmentPartialEq.TheImpl.Laws as segment_laws
use Rattle.node_expr.specs.contracts.ty.TypeArrayPartialEq.TheImpl as array_eq
use Rattle.node_expr.specs.contracts.ty.TypeArrayPartialEq.TheImpl.Laws as array_laws
use Rattle.node_expr.specs.contracts.ty.TypePathPartialEq.TheImpl as type_path_eq
use Rattle.node_expr.specs.contracts.ty.TypePathPartialEq.TheImpl.Laws as type_path_laws
use Rattle.node_expr.specs.declared.ty.«Type».{«Type» as Type'}
use Rattle.node_expr.specs.declared.expr.ExprPath.{ExprPath, roll-ExprPath, out-ExprPath, roll-out-ExprPath, out-roll-ExprPath}
use Rattle.node_expr.specs.declared.path.Path.{Path, roll-Path, out-Path, roll-out-Path, out-roll-Path}
use Rattle.node_expr.specs.declared.path.PathSegment.{roll-PathSegment, out-PathSegment, roll-out-PathSegment, out-roll-PathSegment}
use Rattle.node_expr.specs.declared.ty.TypeArray.{roll-TypeArray, out-TypeArray, roll-out-TypeArray, out-roll-TypeArray}
use Rattle.node_expr.specs.declared.ty.TypePath.{TypePath, roll-TypePath, out-TypePath, roll-out-TypePath, out-roll-TypePath}
use Rattle.node_expr.specs.declared.path.QSelf.{QSelf}
use Rattle.law_spans.specs.Erased.{erased_ident, erased_expr, erased_arguments, erased_type, erased_expr_path, erased_path, erased_segment, erased_array, erased_type_path, erased_qself}
use Rattle.law_spans.proofs.Made.{bare_array-make, bare_expr_path-make, bare_path-make, bare_segment-make, bare_type_path-make}
use Rattle.law_equality.proofs.Deciding.{told, both, Told, lists, layered, rolled, mapped_option_told}
use Rattle.law_equality.proofs.Leaves.{bool_told, ident_told, position_told}
use Rattle.law_equality.proofs.Sures.{SureType, SureExprPathLayer, forget_expr_path, SurePath, SurePathLayer, forget_path, SurePathSegmentLayer, forget_segment, SureTypeArrayLayer, forget_array, SureTypePathLayer, forget_type_path}

abbrev pub bare_path : PathLayer → PathLayer
bare_path it = record { leading_colon = it.leading_colon; segments = map erased_segment it.segments; span = CallSite }

pub path-bare : (x : PathLayer) → erased_path (roll-Path x) ≡ roll-Path (bare_path x)
path-bare x = bare_path-make x.leading_colon x.segments x.span

path_pair : (y : SurePathLayer) (z : PathLayer) (a b : Path) → out-Path a ≡ forget_path y → out-Path b ≡ z → Decides (path_eq.ghosts.eq a b) (bare_path (forget_path y) ≡ bare_path z)
path_pair y z a b ha hb = told (rw (ha, hb) at (path_laws.is a b)) (both (bool_told y.leading_colon z.leading_colon) (lists segment_eq.ghosts.eq erased_segment y.segments z.segments))
    (λ p. λ i. record { leading_colon = p.0 i; segments = p.1 i; span = CallSite }) (λ e. (ap (λ (it : PathLayer). it.leading_colon) e, ap (λ (it : PathLayer). it.segments) e))

pub path_at : (y : SurePathLayer) → Told path_eq.ghosts.eq erased_path (roll-Path (forget_path y))
path_at y = layered roll-Path out-Path roll-out-Path out-roll-Path path_eq.ghosts.eq erased_path bare_path path-bare (forget_path y) (path_pair y)

abbrev pub bare_segment : PathSegmentLayer → PathSegmentLayer
bare_segment it = record { ident = erased_ident it.ident; arguments = erased_arguments it.arguments; span = CallSite }

pub segment-bare : (x : PathSegmentLayer) → erased_segment (roll-PathSegment x) ≡ roll-PathSegment (bare_segment x)
segment-bare x = bare_segment-make x.ident x.arguments x.span

segment_pair : (y : SurePathSegmentLayer) (z : PathSegmentLayer) → Decides (segment_eq.ghosts.eq (roll-PathSegment (forget_segment y)) (roll-PathSegment z)) (bare_segment (forget_segment y) ≡ bare_segment z)
segment_pair y z = told (segment_laws.is (roll-PathSegment (forget_segment y)) (roll-PathSegment z)) (both (ident_told y.ident z.ident) (y.arguments.1 z.arguments))
    (λ p. λ i. record { ident = p.0 i; arguments = p.1 i; span = CallSite }) (λ e. (ap (λ (it : PathSegmentLayer). it.ident) e, ap (λ (it : PathSegmentLayer). it.arguments) e))

pub segment_at : (y : SurePathSegmentLayer) → Told segment_eq.ghosts.eq erased_segment (roll-PathSegment (forget_segment y))
segment_at y = rolled roll-PathSegment out-PathSegment roll-out-PathSegment out-roll-PathSegment segment_eq.ghosts.eq erased_segment bare_segment segment-bare (forget_segment y) (segment_pair y)

abbrev pub bare_array : TypeArrayLayer → TypeArrayLayer
bare_array it = record { elem = erased_type it.elem; len = erased_expr it.len; span = CallSite }

array-bare : (x : TypeArrayLayer) → erased_array (roll-TypeArray x) ≡ roll-TypeArray (bare_array x)
array-bare x = bare_array-make x.elem x.len x.span

array_pair : (y : SureTypeArrayLayer) (z : TypeArrayLayer) → Decides (array_eq.ghosts.eq (roll-TypeArray (forget_array y)) (roll-TypeArray z)) (bare_array (forget_array y) ≡ bare_array z)
array_pair y z = told (array_laws.is (roll-TypeArray (forget_array y)) (roll-TypeArray z)) (both (y.elem.1 z.elem) (y.len.1 z.len))
    (λ p. λ i. record { elem = p.0 i; len = p.1 i; span = CallSite }) (λ e. (ap (λ (it : TypeArrayLayer). it.elem) e, ap (λ (it : TypeArrayLayer). it.len) e))

pub array_at : (y : SureTypeArrayLayer) → Told array_eq.ghosts.eq erased_array (roll-TypeArray (forget_array y))
array_at y = rolled roll-TypeArray out-TypeArray roll-out-TypeArray out-roll-TypeArray array_eq.ghosts.eq erased_array bare_array array-bare (forget_array y) (array_pair y)

abbrev qself_eq : QSelf Type' → QSelf Type' → Bool
qself_eq a b = type_eq.ghosts.eq a.ty b.ty && nat_eq a.position b.position

abbrev forget_qself : QSelf SureType → QSelf Type'
forget_qself it = record { ty = it.ty.0; position = it.position; span = it.span }

qself_at : (a : QSelf SureType) (b : QSelf Type') → Decides (qself_eq (forget_qself a) b) (erased_qself (forget_qself a) ≡ erased_qself b)
qself_at a b =
    told refl (both (a.ty.1 b.ty) (position_told a.position b.position)) (λ p. λ i. record { ty = p.0 i; position = p.1 i; span = CallSite })
    (λ e. (ap (λ (it : QSelf Type'). it.ty) e, ap (λ (it : QSelf Type'). it.position) e))

option_qself_told : (a : Option (QSelf SureType)) (b : Option (QSelf Type')) → Decides (option_eq qself_eq (option_map forget_qself a) b) (option_map erased_qself (option_map forget_qself a) ≡ option_map erased_qself b)
option_qself_told = mapped_option_told forget_qself qself_eq erased_qself qself_at

abbrev pub bare_expr_path : ExprPathLayer → ExprPathLayer
bare_expr_path it = record { qself = option_map erased_qself it.qself; path = erased_path it.path; span = CallSite }

pub expr_path-bare : (x : ExprPathLayer) → erased_expr_path (roll-ExprPath x) ≡ roll-ExprPath (bare_expr_path x)
expr_path-bare x = bare_expr_path-make x.qself x.path x.span

abbrev expr_path_of : Option (QSelf SureType) → SurePath → Span → SureExprPathLayer
expr_path_of qself path span = record { qself = qself; path = path; span = span }

expr_path_pair : (qself : Option (QSelf SureType)) (path : SurePath) (span : Span) (z : ExprPathLayer) (a b : ExprPath) → out-ExprPath a ≡ forget_expr_path (expr_path_of qself path span) → out-ExprPath b ≡ z → Decides (expr_path_eq.ghosts.eq a b) (bare_expr_path (forget_expr_path (expr_path_of qself path span)) ≡ bare_expr_path z)
expr_path_pair None path span z a b ha hb = told (rw (ha, hb) at (expr_path_laws.is a b)) (both (option_qself_told None z.qself) (path.1 z.path))
    (λ p. λ i. record { qself = p.0 i; path = p.1 i; span = CallSite }) (λ e. (ap (λ (it : ExprPathLayer). it.qself) e, ap (λ (it : ExprPathLayer). it.path) e))
expr_path_pair (Some it) path span z a b ha hb = told (rw (ha, hb) at (expr_path_laws.is a b)) (both (option_qself_told (Some it) z.qself) (path.1 z.path))
    (λ p. λ i. record { qself = p.0 i; path = p.1 i; span = CallSite }) (λ e. (ap (λ (it : ExprPathLayer). it.qself) e, ap (λ (it : ExprPathLayer). it.path) e))

pub expr_path_at : (y : SureExprPathLayer) → Told expr_path_eq.ghosts.eq erased_expr_path (roll-ExprPath (forget_expr_path y))
expr_path_at y = layered roll-ExprPath out-ExprPath roll-out-ExprPath out-roll-ExprPath expr_path_eq.ghosts.eq erased_expr_path bare_expr_path expr_path-bare (forget_expr_path y) (expr_path_pair y.qself y.path y.span)

abbrev pub bare_type_path : TypePathLayer → TypePathLayer
bare_type_path it = record { qself = option_map erased_qself it.qself; path = erased_path it.path; span = CallSite }

pub type_path-bare : (x : TypePathLayer) → erased_type_path (roll-TypePath x) ≡ roll-TypePath (bare_type_path x)
type_path-bare x = bare_type_path-make x.qself x.path x.span

abbrev type_path_of : Option (QSelf SureType) → SurePath → Span → SureTypePathLayer
type_path_of qself path span = record { qself = qself; path = path; span = span }

type_path_pair : (qself : Option (QSelf SureType)) (path : SurePath) (span : Span) (z : TypePathLayer) (a b : TypePath) → out-TypePath a ≡ forget_type_path (type_path_of qself path span) → out-TypePath b ≡ z → Decides (type_path_eq.ghosts.eq a b) (bare_type_path (forget_type_path (type_path_of qself path span)) ≡ bare_type_path z)
type_path_pair None path span z a b ha hb = told (rw (ha, hb) at (type_path_laws.is a b)) (both (option_qself_told None z.qself) (path.1 z.path))
    (λ p. λ i. record { qself = p.0 i; path = p.1 i; span = CallSite }) (λ e. (ap (λ (it : TypePathLayer). it.qself) e, ap (λ (it : TypePathLayer). it.path) e))
type_path_pair (Some it) path span z a b ha hb = told (rw (ha, hb) at (type_path_laws.is a b)) (both (option_qself_told (Some it) z.qself) (path.1 z.path))
    (λ p. λ i. record { qself = p.0 i; path = p.1 i; span = CallSite }) (λ e. (ap (λ (it : TypePathLayer). it.qself) e, ap (λ (it : TypePathLayer). it.path) e))

pub type_path_at : (y : SureTypePathLayer) → Told type_path_eq.ghosts.eq erased_type_path (roll-TypePath (forget_type_path y))
type_path_at y = layered roll-TypePath out-TypePath roll-out-TypePath out-roll-TypePath type_path_eq.ghosts.eq erased_type_path bare_type_path type_path-bare (forget_type_path y) (type_path_pair y.qself y.path y.span)
