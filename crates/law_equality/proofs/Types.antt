-- Of types, level by level.
use Rattle.std.proofs.Common.{◌≡◌, ℕ, Bool, ◌&&◌, List, map, option_map, refl, sym, ap, ◌∙◌}
use Rattle.std.specs.Bool.{Decides}
use Rattle.std.specs.Option.{option_eq}
use Rattle.tok_types.specs.declared.span.Span.TheVariants.{CallSite}
use Rattle.tok_types.specs.declared.span.Span.{Span}
use Rattle.tok_types.specs.declared.ident.Lifetime.{Lifetime}
use Rattle.node_expr.specs.Layers.{TypeLayer}
use Rattle.node_expr.specs.contracts.generics.TypeParamBoundPartialEq.TheImpl as bound_eq
use Rattle.node_expr.specs.contracts.ty.TypePartialEq.TheImpl as type_eq
use Rattle.node_expr.specs.contracts.ty.TypePartialEq.TheImpl.Laws as type_laws
use Rattle.node_expr.specs.declared.expr.Expr.TheOpen.{Type-F}
use Rattle.node_expr.specs.declared.generics.TypeParamBound.{TypeParamBound}
use Rattle.node_expr.specs.declared.ty.«Type».{«Type» as Type', roll-Type, out-Type, roll-out-Type, out-roll-Type}
use Rattle.node_expr.specs.declared.ty.«Type».TheVariants as ty
use Rattle.node_expr.specs.declared.ty.TypeArray.{TypeArray}
use Rattle.node_expr.specs.declared.ty.TypePath.{TypePath}
use Rattle.node_expr.specs.declared.ty.TypeReference.{TypeReference}
use Rattle.node_expr.specs.declared.ty.TypePtr.{TypePtr}
use Rattle.node_expr.specs.declared.ty.TypeSlice.{TypeSlice}
use Rattle.node_expr.specs.declared.ty.TypeTuple.{TypeTuple}
use Rattle.node_expr.specs.declared.ty.TypeParen.{TypeParen}
use Rattle.node_expr.specs.declared.ty.TypeGroup.{TypeGroup}
use Rattle.node_expr.specs.declared.ty.TypeFnPtr.{TypeFnPtr}
use Rattle.node_expr.specs.declared.ty.TypeTraitObject.{TypeTraitObject}
use Rattle.node_expr.specs.declared.ty.TypeImplTrait.{TypeImplTrait}
use Rattle.node_expr.specs.declared.ty.TypeNever.{TypeNever}
use Rattle.node_expr.specs.declared.ty.TypeInfer.{TypeInfer}
use Rattle.node_expr.specs.declared.ty.NamedArg.{NamedArg}
use Rattle.node_expr.specs.declared.ty.ReturnType.{ReturnType}
use Rattle.node_expr.specs.declared.ty.ReturnType.TheVariants as output
use Rattle.law_spans.specs.Erased.{erased_lifetime, erased_bound, erased_type, erased_array, erased_type_path, erased_named_arg, erased_output}
use Rattle.law_spans.proofs.Made.{bare_type-Array, bare_type-FnPtr, bare_type-Group, bare_type-ImplTrait, bare_type-Infer, bare_type-Never, bare_type-Paren, bare_type-Path, bare_type-Ptr, bare_type-Reference, bare_type-Slice, bare_type-TraitObject, bare_type-Tuple}
use Rattle.law_equality.proofs.Deciding.{told, both, always, never, neither, clash, Told, lists, layered, mapped_told}
use Rattle.law_equality.proofs.Leaves.{bool_told, lifetimes_told, option_lifetime_told, option_ident_told, same_output, apart_outputs}
use Rattle.law_equality.proofs.Sures.{SureTypeParamBound, SureType, SureTypeLayer, forget_type, SureTypeArray, SureTypePath}
use Rattle.tok_types.specs.contracts.ident.IdentPartialEq.TheImpl as ident_eq

-- the layer without its places
abbrev pub bare_type : TypeLayer → TypeLayer
bare_type (Type-F.Type::Path it) = Type-F.Type::Path (erased_type_path it)
bare_type (Type-F.Type::Reference it) = Type-F.Type::Reference (record { lifetime = option_map erased_lifetime it.lifetime; mutable = it.mutable; elem = erased_type it.elem; span = CallSite })
bare_type (Type-F.Ptr it) = Type-F.Ptr (record { mutable = it.mutable; elem = erased_type it.elem; span = CallSite })
bare_type (Type-F.Slice it) = Type-F.Slice (record { elem = erased_type it.elem; span = CallSite })
bare_type (Type-F.Type::Array it) = Type-F.Type::Array (erased_array it)
bare_type (Type-F.Type::Tuple it) = Type-F.Type::Tuple (record { elems = map erased_type it.elems; span = CallSite })
bare_type (Type-F.Type::Paren it) = Type-F.Type::Paren (record { elem = erased_type it.elem; span = CallSite })
bare_type (Type-F.Type::Group it) = Type-F.Type::Group (record { elem = erased_type it.elem; span = CallSite })
bare_type (Type-F.FnPtr it) = Type-F.FnPtr (record { lifetimes = map erased_lifetime it.lifetimes; inputs = map erased_named_arg it.inputs; output = erased_output it.output; span = CallSite })
bare_type (Type-F.TraitObject it) = Type-F.TraitObject (record { bounds = map erased_bound it.bounds; span = CallSite })
bare_type (Type-F.ImplTrait it) = Type-F.ImplTrait (record { bounds = map erased_bound it.bounds; span = CallSite })
bare_type (Type-F.Never it) = Type-F.Never (record { span = CallSite })
bare_type (Type-F.Type::Infer it) = Type-F.Type::Infer (record { span = CallSite })

pub type-bare : (x : TypeLayer) → erased_type (roll-Type x) ≡ roll-Type (bare_type x)
type-bare (Type-F.Type::Path it) = ap erased_type (ty.rolls-Path it) ∙ bare_type-Path it ∙ sym (ty.rolls-Path (erased_type_path it))
type-bare (Type-F.Type::Reference it) = ap erased_type (ty.rolls-Reference it) ∙ bare_type-Reference it.lifetime it.mutable it.elem it.span ∙ sym (ty.rolls-Reference (record { lifetime = option_map erased_lifetime it.lifetime; mutable = it.mutable; elem = erased_type it.elem; span = CallSite }))
type-bare (Type-F.Ptr it) = ap erased_type (ty.rolls-Ptr it) ∙ bare_type-Ptr it.mutable it.elem it.span ∙ sym (ty.rolls-Ptr (record { mutable = it.mutable; elem = erased_type it.elem; span = CallSite }))
type-bare (Type-F.Slice it) = ap erased_type (ty.rolls-Slice it) ∙ bare_type-Slice it.elem it.span ∙ sym (ty.rolls-Slice (record { elem = erased_type it.elem; span = CallSite }))
type-bare (Type-F.Type::Array it) = ap erased_type (ty.rolls-Array it) ∙ bare_type-Array it ∙ sym (ty.rolls-Array (erased_array it))
type-bare (Type-F.Type::Tuple it) = ap erased_type (ty.rolls-Tuple it) ∙ bare_type-Tuple it.elems it.span ∙ sym (ty.rolls-Tuple (record { elems = map erased_type it.elems; span = CallSite }))
type-bare (Type-F.Type::Paren it) = ap erased_type (ty.rolls-Paren it) ∙ bare_type-Paren it.elem it.span ∙ sym (ty.rolls-Paren (record { elem = erased_type it.elem; span = CallSite }))
type-bare (Type-F.Type::Group it) = ap erased_type (ty.rolls-Group it) ∙ bare_type-Group it.elem it.span ∙ sym (ty.rolls-Group (record { elem = erased_type it.elem; span = CallSite }))
type-bare (Type-F.FnPtr it) = ap erased_type (ty.rolls-FnPtr it) ∙ bare_type-FnPtr it.lifetimes it.inputs it.output it.span ∙ sym (ty.rolls-FnPtr (record { lifetimes = map erased_lifetime it.lifetimes; inputs = map erased_named_arg it.inputs; output = erased_output it.output; span = CallSite }))
type-bare (Type-F.TraitObject it) = ap erased_type (ty.rolls-TraitObject it) ∙ bare_type-TraitObject it.bounds it.span ∙ sym (ty.rolls-TraitObject (record { bounds = map erased_bound it.bounds; span = CallSite }))
type-bare (Type-F.ImplTrait it) = ap erased_type (ty.rolls-ImplTrait it) ∙ bare_type-ImplTrait it.bounds it.span ∙ sym (ty.rolls-ImplTrait (record { bounds = map erased_bound it.bounds; span = CallSite }))
type-bare (Type-F.Never it) = ap erased_type (ty.rolls-Never it) ∙ bare_type-Never it.span ∙ sym (ty.rolls-Never (record { span = CallSite }))
type-bare (Type-F.Type::Infer it) = ap erased_type (ty.rolls-Infer it) ∙ bare_type-Infer it.span ∙ sym (ty.rolls-Infer (record { span = CallSite }))

-- the number of the variant
abbrev tag : TypeLayer → ℕ
tag (Type-F.Type::Path _) = 0
tag (Type-F.Type::Reference _) = 1
tag (Type-F.Ptr _) = 2
tag (Type-F.Slice _) = 3
tag (Type-F.Type::Array _) = 4
tag (Type-F.Type::Tuple _) = 5
tag (Type-F.Type::Paren _) = 6
tag (Type-F.Type::Group _) = 7
tag (Type-F.FnPtr _) = 8
tag (Type-F.TraitObject _) = 9
tag (Type-F.ImplTrait _) = 10
tag (Type-F.Never _) = 11
tag (Type-F.Type::Infer _) = 12

same_Path : {it it' : TypePath} → ◌≡◌ {A = TypeLayer} (Type-F.Type::Path it) (Type-F.Type::Path it') → it ≡ it'
same_Path e = cc

same_Reference : {a b : TypeReference Type'} → ◌≡◌ {A = TypeLayer} (Type-F.Type::Reference a) (Type-F.Type::Reference b) → a ≡ b
same_Reference e = cc

same_Ptr : {a b : TypePtr Type'} → ◌≡◌ {A = TypeLayer} (Type-F.Ptr a) (Type-F.Ptr b) → a ≡ b
same_Ptr e = cc

same_Slice : {a b : TypeSlice Type'} → ◌≡◌ {A = TypeLayer} (Type-F.Slice a) (Type-F.Slice b) → a ≡ b
same_Slice e = cc

same_Array : {it it' : TypeArray} → ◌≡◌ {A = TypeLayer} (Type-F.Type::Array it) (Type-F.Type::Array it') → it ≡ it'
same_Array e = cc

same_Tuple : {a b : TypeTuple Type'} → ◌≡◌ {A = TypeLayer} (Type-F.Type::Tuple a) (Type-F.Type::Tuple b) → a ≡ b
same_Tuple e = cc

same_Paren : {a b : TypeParen Type'} → ◌≡◌ {A = TypeLayer} (Type-F.Type::Paren a) (Type-F.Type::Paren b) → a ≡ b
same_Paren e = cc

same_Group : {a b : TypeGroup Type'} → ◌≡◌ {A = TypeLayer} (Type-F.Type::Group a) (Type-F.Type::Group b) → a ≡ b
same_Group e = cc

same_FnPtr : {a b : TypeFnPtr Type'} → ◌≡◌ {A = TypeLayer} (Type-F.FnPtr a) (Type-F.FnPtr b) → a ≡ b
same_FnPtr e = cc

same_TraitObject : {a b : TypeTraitObject TypeParamBound} → ◌≡◌ {A = TypeLayer} (Type-F.TraitObject a) (Type-F.TraitObject b) → a ≡ b
same_TraitObject e = cc

same_ImplTrait : {a b : TypeImplTrait TypeParamBound} → ◌≡◌ {A = TypeLayer} (Type-F.ImplTrait a) (Type-F.ImplTrait b) → a ≡ b
same_ImplTrait e = cc

pair-Path : (it : SureTypePath) (z : TypeLayer) (a b : Type') → out-Type a ≡ forget_type (Type-F.Type::Path it) → out-Type b ≡ z → Decides (type_eq.ghosts.eq a b) (bare_type (forget_type (Type-F.Type::Path it)) ≡ bare_type z)
pair-Path it (Type-F.Type::Path it') a b ha hb = told (rw (ha, hb) at (type_laws.is a b)) (it.1 it') (λ p. λ i. Type-F.Type::Path (p i)) (λ e. same_Path e)
pair-Path it z a b ha hb = neither (rw (ha, hb) at (type_laws.is a b)) (λ e. clash (ap tag e) refl)

pair-Reference : (x : TypeReference SureType) (z : TypeLayer) (a b : Type') → out-Type a ≡ forget_type (Type-F.Type::Reference x) → out-Type b ≡ z → Decides (type_eq.ghosts.eq a b) (bare_type (forget_type (Type-F.Type::Reference x)) ≡ bare_type z)
pair-Reference x (Type-F.Type::Reference z) a b ha hb = told (rw (ha, hb) at (type_laws.is a b)) (both (option_lifetime_told x.lifetime z.lifetime) (both (bool_told x.mutable z.mutable) (x.elem.1 z.elem))) (λ p. λ i. Type-F.Type::Reference (record { lifetime = p.0 i; mutable = p.1.0 i; elem = p.1.1 i; span = CallSite })) (λ e. (ap (λ (it : TypeReference Type'). it.lifetime) (same_Reference e), (ap (λ (it : TypeReference Type'). it.mutable) (same_Reference e), ap (λ (it : TypeReference Type'). it.elem) (same_Reference e))))
pair-Reference x z a b ha hb = neither (rw (ha, hb) at (type_laws.is a b)) (λ e. clash (ap tag e) refl)

pair-Ptr : (x : TypePtr SureType) (z : TypeLayer) (a b : Type') → out-Type a ≡ forget_type (Type-F.Ptr x) → out-Type b ≡ z → Decides (type_eq.ghosts.eq a b) (bare_type (forget_type (Type-F.Ptr x)) ≡ bare_type z)
pair-Ptr x (Type-F.Ptr z) a b ha hb = told (rw (ha, hb) at (type_laws.is a b)) (both (bool_told x.mutable z.mutable) (x.elem.1 z.elem)) (λ p. λ i. Type-F.Ptr (record { mutable = p.0 i; elem = p.1 i; span = CallSite })) (λ e. (ap (λ (it : TypePtr Type'). it.mutable) (same_Ptr e), ap (λ (it : TypePtr Type'). it.elem) (same_Ptr e)))
pair-Ptr x z a b ha hb = neither (rw (ha, hb) at (type_laws.is a b)) (λ e. clash (ap tag e) refl)

pair-Slice : (x : TypeSlice SureType) (z : TypeLayer) (a b : Type') → out-Type a ≡ forget_type (Type-F.Slice x) → out-Type b ≡ z → Decides (type_eq.ghosts.eq a b) (bare_type (forget_type (Type-F.Slice x)) ≡ bare_type z)
pair-Slice x (Type-F.Slice z) a b ha hb = told (rw (ha, hb) at (type_laws.is a b)) (x.elem.1 z.elem) (λ p. λ i. Type-F.Slice (record { elem = p i; span = CallSite })) (λ e. ap (λ (it : TypeSlice Type'). it.elem) (same_Slice e))
pair-Slice x z a b ha hb = neither (rw (ha, hb) at (type_laws.is a b)) (λ e. clash (ap tag e) refl)

pair-Array : (it : SureTypeArray) (z : TypeLayer) (a b : Type') → out-Type a ≡ forget_type (Type-F.Type::Array it) → out-Type b ≡ z → Decides (type_eq.ghosts.eq a b) (bare_type (forget_type (Type-F.Type::Array it)) ≡ bare_type z)
pair-Array it (Type-F.Type::Array it') a b ha hb = told (rw (ha, hb) at (type_laws.is a b)) (it.1 it') (λ p. λ i. Type-F.Type::Array (p i)) (λ e. same_Array e)
pair-Array it z a b ha hb = neither (rw (ha, hb) at (type_laws.is a b)) (λ e. clash (ap tag e) refl)

pair-Tuple : (x : TypeTuple SureType) (z : TypeLayer) (a b : Type') → out-Type a ≡ forget_type (Type-F.Type::Tuple x) → out-Type b ≡ z → Decides (type_eq.ghosts.eq a b) (bare_type (forget_type (Type-F.Type::Tuple x)) ≡ bare_type z)
pair-Tuple x (Type-F.Type::Tuple z) a b ha hb = told (rw (ha, hb) at (type_laws.is a b)) (lists type_eq.ghosts.eq erased_type x.elems z.elems) (λ p. λ i. Type-F.Type::Tuple (record { elems = p i; span = CallSite })) (λ e. ap (λ (it : TypeTuple Type'). it.elems) (same_Tuple e))
pair-Tuple x z a b ha hb = neither (rw (ha, hb) at (type_laws.is a b)) (λ e. clash (ap tag e) refl)

pair-Paren : (x : TypeParen SureType) (z : TypeLayer) (a b : Type') → out-Type a ≡ forget_type (Type-F.Type::Paren x) → out-Type b ≡ z → Decides (type_eq.ghosts.eq a b) (bare_type (forget_type (Type-F.Type::Paren x)) ≡ bare_type z)
pair-Paren x (Type-F.Type::Paren z) a b ha hb = told (rw (ha, hb) at (type_laws.is a b)) (x.elem.1 z.elem) (λ p. λ i. Type-F.Type::Paren (record { elem = p i; span = CallSite })) (λ e. ap (λ (it : TypeParen Type'). it.elem) (same_Paren e))
pair-Paren x z a b ha hb = neither (rw (ha, hb) at (type_laws.is a b)) (λ e. clash (ap tag e) refl)

pair-Group : (x : TypeGroup SureType) (z : TypeLayer) (a b : Type') → out-Type a ≡ forget_type (Type-F.Type::Group x) → out-Type b ≡ z → Decides (type_eq.ghosts.eq a b) (bare_type (forget_type (Type-F.Type::Group x)) ≡ bare_type z)
pair-Group x (Type-F.Type::Group z) a b ha hb = told (rw (ha, hb) at (type_laws.is a b)) (x.elem.1 z.elem) (λ p. λ i. Type-F.Type::Group (record { elem = p i; span = CallSite })) (λ e. ap (λ (it : TypeGroup Type'). it.elem) (same_Group e))
pair-Group x z a b ha hb = neither (rw (ha, hb) at (type_laws.is a b)) (λ e. clash (ap tag e) refl)

abbrev named_arg_eq : NamedArg Type' → NamedArg Type' → Bool
named_arg_eq a b = option_eq ident_eq.ghosts.eq a.name b.name && type_eq.ghosts.eq a.ty b.ty

abbrev forget_named_arg : NamedArg SureType → NamedArg Type'
forget_named_arg it = record { name = it.name; ty = it.ty.0; span = it.span }

named_arg_at : (a : NamedArg SureType) (b : NamedArg Type') → Decides (named_arg_eq (forget_named_arg a) b) (erased_named_arg (forget_named_arg a) ≡ erased_named_arg b)
named_arg_at a b =
    told refl (both (option_ident_told a.name b.name) (a.ty.1 b.ty)) (λ p. λ i. record { name = p.0 i; ty = p.1 i; span = CallSite })
    (λ e. (ap (λ (it : NamedArg Type'). it.name) e, ap (λ (it : NamedArg Type'). it.ty) e))

abbrev fn_ptr : List Lifetime → List (NamedArg SureType) → ReturnType SureType → Span → SureTypeLayer
fn_ptr lifetimes inputs output span = Type-F.FnPtr (record { lifetimes = lifetimes; inputs = inputs; output = output; span = span })

abbrev plain_fn_ptr : List Lifetime → List (NamedArg Type') → ReturnType Type' → Span → TypeLayer
plain_fn_ptr lifetimes inputs output span = Type-F.FnPtr (record { lifetimes = lifetimes; inputs = inputs; output = output; span = span })

fn_ptr_pair : (lifetimes : List Lifetime) (inputs : List (NamedArg SureType)) (result : ReturnType SureType) (span : Span) (lifetimes' : List Lifetime) (inputs' : List (NamedArg Type')) (result' : ReturnType Type') (span' : Span)
    (a b : Type') → out-Type a ≡ forget_type (fn_ptr lifetimes inputs result span) → out-Type b ≡ plain_fn_ptr lifetimes' inputs' result' span'
    → Decides (type_eq.ghosts.eq a b) (bare_type (forget_type (fn_ptr lifetimes inputs result span)) ≡ bare_type (plain_fn_ptr lifetimes' inputs' result' span'))
fn_ptr_pair lifetimes inputs output.Default span lifetimes' inputs' output.Default span' a b ha hb =
    told (rw (ha, hb) at (type_laws.is a b))
    (both (lifetimes_told lifetimes lifetimes') (both (mapped_told forget_named_arg named_arg_eq erased_named_arg named_arg_at inputs inputs') always))
    (λ p. λ i. Type-F.FnPtr (record { lifetimes = p.0 i; inputs = p.1.0 i; output = output.Default; span = CallSite }))
    (λ e. (ap (λ (it : TypeFnPtr Type'). it.lifetimes) (same_FnPtr e), (ap (λ (it : TypeFnPtr Type'). it.inputs) (same_FnPtr e), tt)))
fn_ptr_pair lifetimes inputs (output.Ty it) span lifetimes' inputs' (output.Ty it') span' a b ha hb =
    told (rw (ha, hb) at (type_laws.is a b))
    (both (lifetimes_told lifetimes lifetimes') (both (mapped_told forget_named_arg named_arg_eq erased_named_arg named_arg_at inputs inputs') (it.1 it')))
    (λ p. λ i. Type-F.FnPtr (record { lifetimes = p.0 i; inputs = p.1.0 i; output = output.Ty (p.1.1 i); span = CallSite }))
    (λ e. (ap (λ (it : TypeFnPtr Type'). it.lifetimes) (same_FnPtr e), (ap (λ (it : TypeFnPtr Type'). it.inputs) (same_FnPtr e), same_output (ap (λ (it : TypeFnPtr Type'). it.output) (same_FnPtr e)))))
fn_ptr_pair lifetimes inputs output.Default span lifetimes' inputs' (output.Ty it') span' a b ha hb =
    told (rw (ha, hb) at (type_laws.is a b))
    (both (lifetimes_told lifetimes lifetimes') (both (mapped_told forget_named_arg named_arg_eq erased_named_arg named_arg_at inputs inputs') never))
    (λ p. absurd p.1.1) (λ e. absurd (apart_outputs (sym (ap (λ (it : TypeFnPtr Type'). it.output) (same_FnPtr e)))))
fn_ptr_pair lifetimes inputs (output.Ty it) span lifetimes' inputs' output.Default span' a b ha hb =
    told (rw (ha, hb) at (type_laws.is a b))
    (both (lifetimes_told lifetimes lifetimes') (both (mapped_told forget_named_arg named_arg_eq erased_named_arg named_arg_at inputs inputs') never))
    (λ p. absurd p.1.1) (λ e. absurd (apart_outputs (ap (λ (it : TypeFnPtr Type'). it.output) (same_FnPtr e))))

pair-FnPtr : (x : TypeFnPtr SureType) (z : TypeLayer) (a b : Type') → out-Type a ≡ forget_type (Type-F.FnPtr x) → out-Type b ≡ z → Decides (type_eq.ghosts.eq a b) (bare_type (forget_type (Type-F.FnPtr x)) ≡ bare_type z)
pair-FnPtr x (Type-F.FnPtr z) a b ha hb = fn_ptr_pair x.lifetimes x.inputs x.output x.span z.lifetimes z.inputs z.output z.span a b ha hb
pair-FnPtr x z a b ha hb = neither (rw (ha, hb) at (type_laws.is a b)) (λ e. clash (ap tag e) refl)

pair-TraitObject : (x : TypeTraitObject SureTypeParamBound) (z : TypeLayer) (a b : Type') → out-Type a ≡ forget_type (Type-F.TraitObject x) → out-Type b ≡ z → Decides (type_eq.ghosts.eq a b) (bare_type (forget_type (Type-F.TraitObject x)) ≡ bare_type z)
pair-TraitObject x (Type-F.TraitObject z) a b ha hb = told (rw (ha, hb) at (type_laws.is a b)) (lists bound_eq.ghosts.eq erased_bound x.bounds z.bounds) (λ p. λ i. Type-F.TraitObject (record { bounds = p i; span = CallSite })) (λ e. ap (λ (it : TypeTraitObject TypeParamBound). it.bounds) (same_TraitObject e))
pair-TraitObject x z a b ha hb = neither (rw (ha, hb) at (type_laws.is a b)) (λ e. clash (ap tag e) refl)

pair-ImplTrait : (x : TypeImplTrait SureTypeParamBound) (z : TypeLayer) (a b : Type') → out-Type a ≡ forget_type (Type-F.ImplTrait x) → out-Type b ≡ z → Decides (type_eq.ghosts.eq a b) (bare_type (forget_type (Type-F.ImplTrait x)) ≡ bare_type z)
pair-ImplTrait x (Type-F.ImplTrait z) a b ha hb = told (rw (ha, hb) at (type_laws.is a b)) (lists bound_eq.ghosts.eq erased_bound x.bounds z.bounds) (λ p. λ i. Type-F.ImplTrait (record { bounds = p i; span = CallSite })) (λ e. ap (λ (it : TypeImplTrait TypeParamBound). it.bounds) (same_ImplTrait e))
pair-ImplTrait x z a b ha hb = neither (rw (ha, hb) at (type_laws.is a b)) (λ e. clash (ap tag e) refl)

pair-Never : (x : TypeNever) (z : TypeLayer) (a b : Type') → out-Type a ≡ forget_type (Type-F.Never x) → out-Type b ≡ z → Decides (type_eq.ghosts.eq a b) (bare_type (forget_type (Type-F.Never x)) ≡ bare_type z)
pair-Never x (Type-F.Never z) a b ha hb = told (rw (ha, hb) at (type_laws.is a b)) always (λ p. refl) (λ e. tt)
pair-Never x z a b ha hb = neither (rw (ha, hb) at (type_laws.is a b)) (λ e. clash (ap tag e) refl)

pair-Infer : (x : TypeInfer) (z : TypeLayer) (a b : Type') → out-Type a ≡ forget_type (Type-F.Type::Infer x) → out-Type b ≡ z → Decides (type_eq.ghosts.eq a b) (bare_type (forget_type (Type-F.Type::Infer x)) ≡ bare_type z)
pair-Infer x (Type-F.Type::Infer z) a b ha hb = told (rw (ha, hb) at (type_laws.is a b)) always (λ p. refl) (λ e. tt)
pair-Infer x z a b ha hb = neither (rw (ha, hb) at (type_laws.is a b)) (λ e. clash (ap tag e) refl)

pair : (y : SureTypeLayer) (z : TypeLayer) (a b : Type') → out-Type a ≡ forget_type (y) → out-Type b ≡ z → Decides (type_eq.ghosts.eq a b) (bare_type (forget_type (y)) ≡ bare_type z)
pair (Type-F.Type::Path it) = pair-Path it
pair (Type-F.Type::Reference x) = pair-Reference x
pair (Type-F.Ptr x) = pair-Ptr x
pair (Type-F.Slice x) = pair-Slice x
pair (Type-F.Type::Array it) = pair-Array it
pair (Type-F.Type::Tuple x) = pair-Tuple x
pair (Type-F.Type::Paren x) = pair-Paren x
pair (Type-F.Type::Group x) = pair-Group x
pair (Type-F.FnPtr x) = pair-FnPtr x
pair (Type-F.TraitObject x) = pair-TraitObject x
pair (Type-F.ImplTrait x) = pair-ImplTrait x
pair (Type-F.Never x) = pair-Never x
pair (Type-F.Type::Infer x) = pair-Infer x

pub type_at : (y : SureTypeLayer) → Told type_eq.ghosts.eq erased_type (roll-Type (forget_type y))
type_at y = layered roll-Type out-Type roll-out-Type out-roll-Type type_eq.ghosts.eq erased_type bare_type type-bare (forget_type y) (pair y)
