-- Of arguments in paths, level by level.
use Rattle.std.proofs.Common.{◌≡◌, ℕ, List, map, refl, sym, ap, ◌∙◌}
use Rattle.std.specs.Bool.{Decides}
use Rattle.tok_types.specs.declared.span.Span.TheVariants.{CallSite}
use Rattle.tok_types.specs.declared.span.Span.{Span}
use Rattle.tok_types.specs.declared.ident.Ident.{Ident}
use Rattle.tok_types.specs.declared.ident.Lifetime.{Lifetime}
use Rattle.node_expr.specs.Layers.{GenericArgumentLayer}
use Rattle.node_expr.specs.contracts.generics.TypeParamBoundPartialEq.TheImpl as bound_eq
use Rattle.node_expr.specs.contracts.path.GenericArgumentPartialEq.TheImpl as argument_eq
use Rattle.node_expr.specs.contracts.path.GenericArgumentPartialEq.TheImpl.Laws as argument_laws
use Rattle.node_expr.specs.declared.expr.Expr.TheOpen.{GenericArgument-F}
use Rattle.node_expr.specs.declared.expr.Expr.{Expr}
use Rattle.node_expr.specs.declared.generics.TypeParamBound.{TypeParamBound}
use Rattle.node_expr.specs.declared.path.GenericArgument.{GenericArgument, roll-GenericArgument, out-GenericArgument, roll-out-GenericArgument, out-roll-GenericArgument}
use Rattle.node_expr.specs.declared.path.GenericArgument.TheVariants as argument
use Rattle.node_expr.specs.declared.ty.«Type».{«Type» as Type'}
use Rattle.law_spans.specs.Erased.{erased_ident, erased_lifetime, erased_expr, erased_bound, erased_argument, erased_type}
use Rattle.law_spans.proofs.Made.{bare_argument-AssocConst, bare_argument-AssocType, bare_argument-Const, bare_argument-Constraint, bare_argument-Lifetime, bare_argument-Ty}
use Rattle.law_equality.proofs.Deciding.{told, both, neither, clash, Told, lists, layered}
use Rattle.law_equality.proofs.Leaves.{ident_told, lifetime_told}
use Rattle.law_equality.proofs.Sures.{SureExpr, SureTypeParamBound, SureGenericArgumentLayer, forget_argument, SureType}

-- the layer without its places
abbrev pub bare_argument : GenericArgumentLayer → GenericArgumentLayer
bare_argument (GenericArgument-F.GenericArgument::Lifetime it) = GenericArgument-F.GenericArgument::Lifetime (erased_lifetime it)
bare_argument (GenericArgument-F.Ty it) = GenericArgument-F.Ty (erased_type it)
bare_argument (GenericArgument-F.Const it) = GenericArgument-F.Const (erased_expr it)
bare_argument (GenericArgument-F.AssocType ident it span) = GenericArgument-F.AssocType (erased_ident ident) (erased_type it) CallSite
bare_argument (GenericArgument-F.AssocConst ident value span) = GenericArgument-F.AssocConst (erased_ident ident) (erased_expr value) CallSite
bare_argument (GenericArgument-F.Constraint ident bounds span) = GenericArgument-F.Constraint (erased_ident ident) (map erased_bound bounds) CallSite

pub argument-bare : (x : GenericArgumentLayer) → erased_argument (roll-GenericArgument x) ≡ roll-GenericArgument (bare_argument x)
argument-bare (GenericArgument-F.GenericArgument::Lifetime it) = ap erased_argument (argument.rolls-Lifetime it) ∙ bare_argument-Lifetime it ∙ sym (argument.rolls-Lifetime (erased_lifetime it))
argument-bare (GenericArgument-F.Ty it) = ap erased_argument (argument.rolls-Ty it) ∙ bare_argument-Ty it ∙ sym (argument.rolls-Ty (erased_type it))
argument-bare (GenericArgument-F.Const it) = ap erased_argument (argument.rolls-Const it) ∙ bare_argument-Const it ∙ sym (argument.rolls-Const (erased_expr it))
argument-bare (GenericArgument-F.AssocType ident it span) = ap erased_argument (argument.rolls-AssocType ident it span) ∙ bare_argument-AssocType ident it span ∙ sym (argument.rolls-AssocType (erased_ident ident) (erased_type it) CallSite)
argument-bare (GenericArgument-F.AssocConst ident value span) = ap erased_argument (argument.rolls-AssocConst ident value span) ∙ bare_argument-AssocConst ident value span ∙ sym (argument.rolls-AssocConst (erased_ident ident) (erased_expr value) CallSite)
argument-bare (GenericArgument-F.Constraint ident bounds span) = ap erased_argument (argument.rolls-Constraint ident bounds span) ∙ bare_argument-Constraint ident bounds span ∙ sym (argument.rolls-Constraint (erased_ident ident) (map erased_bound bounds) CallSite)

-- the number of the variant
abbrev tag : GenericArgumentLayer → ℕ
tag (GenericArgument-F.GenericArgument::Lifetime _) = 0
tag (GenericArgument-F.Ty _) = 1
tag (GenericArgument-F.Const _) = 2
tag (GenericArgument-F.AssocType _ _ _) = 3
tag (GenericArgument-F.AssocConst _ _ _) = 4
tag (GenericArgument-F.Constraint _ _ _) = 5

same_Lifetime : {it it' : Lifetime} → ◌≡◌ {A = GenericArgumentLayer} (GenericArgument-F.GenericArgument::Lifetime it) (GenericArgument-F.GenericArgument::Lifetime it') → it ≡ it'
same_Lifetime e = cc

same_Ty : {it it' : Type'} → ◌≡◌ {A = GenericArgumentLayer} (GenericArgument-F.Ty it) (GenericArgument-F.Ty it') → it ≡ it'
same_Ty e = cc

same_Const : {it it' : Expr} → ◌≡◌ {A = GenericArgumentLayer} (GenericArgument-F.Const it) (GenericArgument-F.Const it') → it ≡ it'
same_Const e = cc

same_AssocType : {ident ident' : Ident} {it it' : Type'} {span span' : Span} → ◌≡◌ {A = GenericArgumentLayer} (GenericArgument-F.AssocType ident it span) (GenericArgument-F.AssocType ident' it' span') → (ident ≡ ident') × (it ≡ it')
same_AssocType e = (cc, cc)

same_AssocConst : {ident ident' : Ident} {value value' : Expr} {span span' : Span} → ◌≡◌ {A = GenericArgumentLayer} (GenericArgument-F.AssocConst ident value span) (GenericArgument-F.AssocConst ident' value' span') → (ident ≡ ident') × (value ≡ value')
same_AssocConst e = (cc, cc)

same_Constraint : {ident ident' : Ident} {bounds bounds' : List TypeParamBound} {span span' : Span} → ◌≡◌ {A = GenericArgumentLayer} (GenericArgument-F.Constraint ident bounds span) (GenericArgument-F.Constraint ident' bounds' span') → (ident ≡ ident') × (bounds ≡ bounds')
same_Constraint e = (cc, cc)

pair-Lifetime : (it : Lifetime) (z : GenericArgumentLayer) (a b : GenericArgument) → out-GenericArgument a ≡ forget_argument (GenericArgument-F.GenericArgument::Lifetime it) → out-GenericArgument b ≡ z → Decides (argument_eq.ghosts.eq a b) (bare_argument (forget_argument (GenericArgument-F.GenericArgument::Lifetime it)) ≡ bare_argument z)
pair-Lifetime it (GenericArgument-F.GenericArgument::Lifetime it') a b ha hb = told (rw (ha, hb) at (argument_laws.is a b)) (lifetime_told it it') (λ p. λ i. GenericArgument-F.GenericArgument::Lifetime (p i)) (λ e. same_Lifetime e)
pair-Lifetime it z a b ha hb = neither (rw (ha, hb) at (argument_laws.is a b)) (λ e. clash (ap tag e) refl)

pair-Ty : (it : SureType) (z : GenericArgumentLayer) (a b : GenericArgument) → out-GenericArgument a ≡ forget_argument (GenericArgument-F.Ty it) → out-GenericArgument b ≡ z → Decides (argument_eq.ghosts.eq a b) (bare_argument (forget_argument (GenericArgument-F.Ty it)) ≡ bare_argument z)
pair-Ty it (GenericArgument-F.Ty it') a b ha hb = told (rw (ha, hb) at (argument_laws.is a b)) (it.1 it') (λ p. λ i. GenericArgument-F.Ty (p i)) (λ e. same_Ty e)
pair-Ty it z a b ha hb = neither (rw (ha, hb) at (argument_laws.is a b)) (λ e. clash (ap tag e) refl)

pair-Const : (it : SureExpr) (z : GenericArgumentLayer) (a b : GenericArgument) → out-GenericArgument a ≡ forget_argument (GenericArgument-F.Const it) → out-GenericArgument b ≡ z → Decides (argument_eq.ghosts.eq a b) (bare_argument (forget_argument (GenericArgument-F.Const it)) ≡ bare_argument z)
pair-Const it (GenericArgument-F.Const it') a b ha hb = told (rw (ha, hb) at (argument_laws.is a b)) (it.1 it') (λ p. λ i. GenericArgument-F.Const (p i)) (λ e. same_Const e)
pair-Const it z a b ha hb = neither (rw (ha, hb) at (argument_laws.is a b)) (λ e. clash (ap tag e) refl)

pair-AssocType : (ident : Ident) (it : SureType) (span : Span) (z : GenericArgumentLayer) (a b : GenericArgument) → out-GenericArgument a ≡ forget_argument (GenericArgument-F.AssocType ident it span) → out-GenericArgument b ≡ z → Decides (argument_eq.ghosts.eq a b) (bare_argument (forget_argument (GenericArgument-F.AssocType ident it span)) ≡ bare_argument z)
pair-AssocType ident it span (GenericArgument-F.AssocType ident' it' span') a b ha hb = told (rw (ha, hb) at (argument_laws.is a b)) (both (ident_told ident ident') (it.1 it')) (λ p. λ i. GenericArgument-F.AssocType (p.0 i) (p.1 i) CallSite) (λ e. same_AssocType e)
pair-AssocType ident it span z a b ha hb = neither (rw (ha, hb) at (argument_laws.is a b)) (λ e. clash (ap tag e) refl)

pair-AssocConst : (ident : Ident) (value : SureExpr) (span : Span) (z : GenericArgumentLayer) (a b : GenericArgument) → out-GenericArgument a ≡ forget_argument (GenericArgument-F.AssocConst ident value span) → out-GenericArgument b ≡ z → Decides (argument_eq.ghosts.eq a b) (bare_argument (forget_argument (GenericArgument-F.AssocConst ident value span)) ≡ bare_argument z)
pair-AssocConst ident value span (GenericArgument-F.AssocConst ident' value' span') a b ha hb = told (rw (ha, hb) at (argument_laws.is a b)) (both (ident_told ident ident') (value.1 value')) (λ p. λ i. GenericArgument-F.AssocConst (p.0 i) (p.1 i) CallSite) (λ e. same_AssocConst e)
pair-AssocConst ident value span z a b ha hb = neither (rw (ha, hb) at (argument_laws.is a b)) (λ e. clash (ap tag e) refl)

pair-Constraint : (ident : Ident) (bounds : List SureTypeParamBound) (span : Span) (z : GenericArgumentLayer) (a b : GenericArgument) → out-GenericArgument a ≡ forget_argument (GenericArgument-F.Constraint ident bounds span) → out-GenericArgument b ≡ z → Decides (argument_eq.ghosts.eq a b) (bare_argument (forget_argument (GenericArgument-F.Constraint ident bounds span)) ≡ bare_argument z)
pair-Constraint ident bounds span (GenericArgument-F.Constraint ident' bounds' span') a b ha hb = told (rw (ha, hb) at (argument_laws.is a b)) (both (ident_told ident ident') (lists bound_eq.ghosts.eq erased_bound bounds bounds')) (λ p. λ i. GenericArgument-F.Constraint (p.0 i) (p.1 i) CallSite) (λ e. same_Constraint e)
pair-Constraint ident bounds span z a b ha hb = neither (rw (ha, hb) at (argument_laws.is a b)) (λ e. clash (ap tag e) refl)

pair : (y : SureGenericArgumentLayer) (z : GenericArgumentLayer) (a b : GenericArgument) → out-GenericArgument a ≡ forget_argument (y) → out-GenericArgument b ≡ z → Decides (argument_eq.ghosts.eq a b) (bare_argument (forget_argument (y)) ≡ bare_argument z)
pair (GenericArgument-F.GenericArgument::Lifetime it) = pair-Lifetime it
pair (GenericArgument-F.Ty it) = pair-Ty it
pair (GenericArgument-F.Const it) = pair-Const it
pair (GenericArgument-F.AssocType ident it span) = pair-AssocType ident it span
pair (GenericArgument-F.AssocConst ident value span) = pair-AssocConst ident value span
pair (GenericArgument-F.Constraint ident bounds span) = pair-Constraint ident bounds span

pub argument_at : (y : SureGenericArgumentLayer) → Told argument_eq.ghosts.eq erased_argument (roll-GenericArgument (forget_argument y))
argument_at y = layered roll-GenericArgument out-GenericArgument roll-out-GenericArgument out-roll-GenericArgument argument_eq.ghosts.eq erased_argument bare_argument argument-bare (forget_argument y) (pair y)
