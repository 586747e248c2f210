-- Of what follows a name in a path, level by level.
use Rattle.std.proofs.Common.{◌≡◌, ℕ, List, map, refl, sym, ap, ◌∙◌}
use Rattle.std.specs.Bool.{Decides}
use Rattle.tok_types.specs.declared.span.Span.TheVariants.{CallSite}
use Rattle.tok_types.specs.declared.span.Span.{Span}
use Rattle.node_expr.specs.Layers.{PathArgumentsLayer}
use Rattle.node_expr.specs.contracts.path.GenericArgumentPartialEq.TheImpl as argument_eq
use Rattle.node_expr.specs.contracts.path.PathArgumentsPartialEq.TheImpl as arguments_eq
use Rattle.node_expr.specs.contracts.path.PathArgumentsPartialEq.TheImpl.Laws as arguments_laws
use Rattle.node_expr.specs.contracts.ty.TypePartialEq.TheImpl as type_eq
use Rattle.node_expr.specs.declared.expr.Expr.TheOpen.{PathArguments-F}
use Rattle.node_expr.specs.declared.path.GenericArgument.{GenericArgument}
use Rattle.node_expr.specs.declared.path.PathArguments.{PathArguments, roll-PathArguments, out-PathArguments, roll-out-PathArguments, out-roll-PathArguments}
use Rattle.node_expr.specs.declared.path.PathArguments.TheVariants as arguments
use Rattle.node_expr.specs.declared.ty.«Type».{«Type» as Type'}
use Rattle.node_expr.specs.declared.ty.ReturnType.{ReturnType}
use Rattle.node_expr.specs.declared.ty.ReturnType.TheVariants as output
use Rattle.law_spans.specs.Erased.{erased_argument, erased_arguments, erased_type, erased_output}
use Rattle.law_spans.proofs.Made.{bare_arguments-AngleBracketed, bare_arguments-None, bare_arguments-Parenthesized}
use Rattle.law_equality.proofs.Deciding.{told, both, always, never, neither, clash, Told, lists, layered}
use Rattle.law_equality.proofs.Leaves.{same_output, apart_outputs}
use Rattle.law_equality.proofs.Sures.{SureGenericArgument, SurePathArgumentsLayer, forget_arguments, SureType}

-- the layer without its places
abbrev pub bare_arguments : PathArgumentsLayer → PathArgumentsLayer
bare_arguments PathArguments-F.None = PathArguments-F.None
bare_arguments (PathArguments-F.AngleBracketed args) = PathArguments-F.AngleBracketed (map erased_argument args)
bare_arguments (PathArguments-F.Parenthesized inputs output span) = PathArguments-F.Parenthesized (map erased_type inputs) (erased_output output) CallSite

pub arguments-bare : (x : PathArgumentsLayer) → erased_arguments (roll-PathArguments x) ≡ roll-PathArguments (bare_arguments x)
arguments-bare PathArguments-F.None = ap erased_arguments (arguments.rolls-None) ∙ bare_arguments-None ∙ sym (arguments.rolls-None)
arguments-bare (PathArguments-F.AngleBracketed args) = ap erased_arguments (arguments.rolls-AngleBracketed args) ∙ bare_arguments-AngleBracketed args ∙ sym (arguments.rolls-AngleBracketed (map erased_argument args))
arguments-bare (PathArguments-F.Parenthesized inputs output span) = ap erased_arguments (arguments.rolls-Parenthesized inputs output span) ∙ bare_arguments-Parenthesized inputs output span ∙ sym (arguments.rolls-Parenthesized (map erased_type inputs) (erased_output output) CallSite)

-- the number of the variant
abbrev tag : PathArgumentsLayer → ℕ
tag PathArguments-F.None = 0
tag (PathArguments-F.AngleBracketed _) = 1
tag (PathArguments-F.Parenthesized _ _ _) = 2

same_AngleBracketed : {args args' : List GenericArgument} → ◌≡◌ {A = PathArgumentsLayer} (PathArguments-F.AngleBracketed args) (PathArguments-F.AngleBracketed args') → args ≡ args'
same_AngleBracketed e = cc

same_Parenthesized : {a b : List Type'} {c d : ReturnType Type'} {s t : Span} → ◌≡◌ {A = PathArgumentsLayer} (PathArguments-F.Parenthesized a c s) (PathArguments-F.Parenthesized b d t) → (a ≡ b) × (c ≡ d)
same_Parenthesized e = (cc, cc)

pair-None : (z : PathArgumentsLayer) (a b : PathArguments) → out-PathArguments a ≡ forget_arguments (PathArguments-F.None) → out-PathArguments b ≡ z → Decides (arguments_eq.ghosts.eq a b) (bare_arguments (forget_arguments (PathArguments-F.None)) ≡ bare_arguments z)
pair-None PathArguments-F.None a b ha hb = told (rw (ha, hb) at (arguments_laws.is a b)) always (λ p. refl) (λ e. tt)
pair-None z a b ha hb = neither (rw (ha, hb) at (arguments_laws.is a b)) (λ e. clash (ap tag e) refl)

pair-AngleBracketed : (args : List SureGenericArgument) (z : PathArgumentsLayer) (a b : PathArguments) → out-PathArguments a ≡ forget_arguments (PathArguments-F.AngleBracketed args) → out-PathArguments b ≡ z → Decides (arguments_eq.ghosts.eq a b) (bare_arguments (forget_arguments (PathArguments-F.AngleBracketed args)) ≡ bare_arguments z)
pair-AngleBracketed args (PathArguments-F.AngleBracketed args') a b ha hb = told (rw (ha, hb) at (arguments_laws.is a b)) (lists argument_eq.ghosts.eq erased_argument args args') (λ p. λ i. PathArguments-F.AngleBracketed (p i)) (λ e. same_AngleBracketed e)
pair-AngleBracketed args z a b ha hb = neither (rw (ha, hb) at (arguments_laws.is a b)) (λ e. clash (ap tag e) refl)

pair-Parenthesized : (inputs : List SureType) (output : ReturnType SureType) (span : Span) (z : PathArgumentsLayer) (a b : PathArguments) → out-PathArguments a ≡ forget_arguments (PathArguments-F.Parenthesized inputs output span) → out-PathArguments b ≡ z → Decides (arguments_eq.ghosts.eq a b) (bare_arguments (forget_arguments (PathArguments-F.Parenthesized inputs output span)) ≡ bare_arguments z)
pair-Parenthesized inputs output.Default span (PathArguments-F.Parenthesized inputs' output.Default span') a b ha hb = told (rw (ha, hb) at (arguments_laws.is a b)) (both (lists type_eq.ghosts.eq erased_type inputs inputs') always) (λ p. λ i. PathArguments-F.Parenthesized (p.0 i) output.Default CallSite) (λ e. ((same_Parenthesized e).0, tt))
pair-Parenthesized inputs (output.Ty it) span (PathArguments-F.Parenthesized inputs' (output.Ty it') span') a b ha hb = told (rw (ha, hb) at (arguments_laws.is a b)) (both (lists type_eq.ghosts.eq erased_type inputs inputs') (it.1 it')) (λ p. λ i. PathArguments-F.Parenthesized (p.0 i) (output.Ty (p.1 i)) CallSite) (λ e. ((same_Parenthesized e).0, same_output (same_Parenthesized e).1))
pair-Parenthesized inputs output.Default span (PathArguments-F.Parenthesized inputs' (output.Ty it') span') a b ha hb = told (rw (ha, hb) at (arguments_laws.is a b)) (both (lists type_eq.ghosts.eq erased_type inputs inputs') never) (λ p. absurd p.1) (λ e. absurd (apart_outputs (sym (same_Parenthesized e).1)))
pair-Parenthesized inputs (output.Ty it) span (PathArguments-F.Parenthesized inputs' output.Default span') a b ha hb = told (rw (ha, hb) at (arguments_laws.is a b)) (both (lists type_eq.ghosts.eq erased_type inputs inputs') never) (λ p. absurd p.1) (λ e. absurd (apart_outputs (same_Parenthesized e).1))
pair-Parenthesized inputs output span z a b ha hb = neither (rw (ha, hb) at (arguments_laws.is a b)) (λ e. clash (ap tag e) refl)

pair : (y : SurePathArgumentsLayer) (z : PathArgumentsLayer) (a b : PathArguments) → out-PathArguments a ≡ forget_arguments (y) → out-PathArguments b ≡ z → Decides (arguments_eq.ghosts.eq a b) (bare_arguments (forget_arguments (y)) ≡ bare_arguments z)
pair PathArguments-F.None = pair-None
pair (PathArguments-F.AngleBracketed args) = pair-AngleBracketed args
pair (PathArguments-F.Parenthesized inputs output span) = pair-Parenthesized inputs output span

pub arguments_at : (y : SurePathArgumentsLayer) → Told arguments_eq.ghosts.eq erased_arguments (roll-PathArguments (forget_arguments y))
arguments_at y = layered roll-PathArguments out-PathArguments roll-out-PathArguments out-roll-PathArguments arguments_eq.ghosts.eq erased_arguments bare_arguments arguments-bare (forget_arguments y) (pair y)
