-- Of bounds, level by level.
use Rattle.std.proofs.Common.{◌≡◌, ℕ, map, refl, sym, ap, ◌∙◌}
use Rattle.std.specs.Bool.{Decides}
use Rattle.tok_types.specs.declared.span.Span.TheVariants.{CallSite}
use Rattle.tok_types.specs.declared.ident.Lifetime.{Lifetime}
use Rattle.node_expr.specs.Layers.{TypeParamBoundLayer, TraitBoundLayer}
use Rattle.node_expr.specs.contracts.generics.TypeParamBoundPartialEq.TheImpl as bound_eq
use Rattle.node_expr.specs.contracts.generics.TypeParamBoundPartialEq.TheImpl.Laws as bound_laws
use Rattle.node_expr.specs.contracts.generics.TraitBoundPartialEq.TheImpl as trait_bound_eq
use Rattle.node_expr.specs.contracts.generics.TraitBoundPartialEq.TheImpl.Laws as trait_bound_laws
use Rattle.node_expr.specs.declared.expr.Expr.TheOpen.{TypeParamBound-F}
use Rattle.node_expr.specs.declared.generics.TypeParamBound.{roll-TypeParamBound, out-TypeParamBound, roll-out-TypeParamBound, out-roll-TypeParamBound}
use Rattle.node_expr.specs.declared.generics.TypeParamBound.TheVariants as bound
use Rattle.node_expr.specs.declared.generics.TraitBound.{TraitBound, roll-TraitBound, out-TraitBound, roll-out-TraitBound, out-roll-TraitBound}
use Rattle.law_spans.specs.Erased.{erased_lifetime, erased_bound, erased_trait_bound, erased_path}
use Rattle.law_spans.proofs.Made.{bare_bound-Lifetime, bare_bound-Trait, bare_trait_bound-make}
use Rattle.law_equality.proofs.Deciding.{told, both, neither, clash, Told, layered, rolled}
use Rattle.law_equality.proofs.Leaves.{bool_told, lifetime_told, lifetimes_told}
use Rattle.law_equality.proofs.Sures.{SureTypeParamBoundLayer, forget_bound, SureTraitBound, SureTraitBoundLayer, forget_trait_bound}

-- the layer without its places
abbrev pub bare_bound : TypeParamBoundLayer → TypeParamBoundLayer
bare_bound (TypeParamBound-F.Trait it) = TypeParamBound-F.Trait (erased_trait_bound it)
bare_bound (TypeParamBound-F.TypeParamBound::Lifetime it) = TypeParamBound-F.TypeParamBound::Lifetime (erased_lifetime it)

bound-bare : (x : TypeParamBoundLayer) → erased_bound (roll-TypeParamBound x) ≡ roll-TypeParamBound (bare_bound x)
bound-bare (TypeParamBound-F.Trait it) = ap erased_bound (bound.rolls-Trait it) ∙ bare_bound-Trait it ∙ sym (bound.rolls-Trait (erased_trait_bound it))
bound-bare (TypeParamBound-F.TypeParamBound::Lifetime it) = ap erased_bound (bound.rolls-Lifetime it) ∙ bare_bound-Lifetime it ∙ sym (bound.rolls-Lifetime (erased_lifetime it))

-- the number of the variant
abbrev tag : TypeParamBoundLayer → ℕ
tag (TypeParamBound-F.Trait _) = 0
tag (TypeParamBound-F.TypeParamBound::Lifetime _) = 1

same_Trait : {it it' : TraitBound} → ◌≡◌ {A = TypeParamBoundLayer} (TypeParamBound-F.Trait it) (TypeParamBound-F.Trait it') → it ≡ it'
same_Trait e = cc

same_Lifetime : {it it' : Lifetime} → ◌≡◌ {A = TypeParamBoundLayer} (TypeParamBound-F.TypeParamBound::Lifetime it) (TypeParamBound-F.TypeParamBound::Lifetime it') → it ≡ it'
same_Lifetime e = cc

pair-Trait : (it : SureTraitBound) (z : TypeParamBoundLayer) → Decides (bound_eq.ghosts.eq (roll-TypeParamBound (forget_bound (TypeParamBound-F.Trait it))) (roll-TypeParamBound z)) (bare_bound (forget_bound (TypeParamBound-F.Trait it)) ≡ bare_bound z)
unfolding roll-TypeParamBound denote.Hole.Carrier.roll
pair-Trait it (TypeParamBound-F.Trait it') = told (bound_laws.is (roll-TypeParamBound (forget_bound (TypeParamBound-F.Trait it))) (roll-TypeParamBound (TypeParamBound-F.Trait it'))) (it.1 it') (λ p. λ i. TypeParamBound-F.Trait (p i)) (λ e. same_Trait e)
pair-Trait it z = neither (bound_laws.is (roll-TypeParamBound (forget_bound (TypeParamBound-F.Trait it))) (roll-TypeParamBound (z))) (λ e. clash (ap tag e) refl)

pair-Lifetime : (it : Lifetime) (z : TypeParamBoundLayer) → Decides (bound_eq.ghosts.eq (roll-TypeParamBound (forget_bound (TypeParamBound-F.TypeParamBound::Lifetime it))) (roll-TypeParamBound z)) (bare_bound (forget_bound (TypeParamBound-F.TypeParamBound::Lifetime it)) ≡ bare_bound z)
unfolding roll-TypeParamBound denote.Hole.Carrier.roll
pair-Lifetime it (TypeParamBound-F.TypeParamBound::Lifetime it') = told (bound_laws.is (roll-TypeParamBound (forget_bound (TypeParamBound-F.TypeParamBound::Lifetime it))) (roll-TypeParamBound (TypeParamBound-F.TypeParamBound::Lifetime it'))) (lifetime_told it it') (λ p. λ i. TypeParamBound-F.TypeParamBound::Lifetime (p i)) (λ e. same_Lifetime e)
pair-Lifetime it z = neither (bound_laws.is (roll-TypeParamBound (forget_bound (TypeParamBound-F.TypeParamBound::Lifetime it))) (roll-TypeParamBound (z))) (λ e. clash (ap tag e) refl)

pair : (y : SureTypeParamBoundLayer) (z : TypeParamBoundLayer) → Decides (bound_eq.ghosts.eq (roll-TypeParamBound (forget_bound (y))) (roll-TypeParamBound z)) (bare_bound (forget_bound (y)) ≡ bare_bound z)
unfolding roll-TypeParamBound denote.Hole.Carrier.roll
pair (TypeParamBound-F.Trait it) = pair-Trait it
pair (TypeParamBound-F.TypeParamBound::Lifetime it) = pair-Lifetime it

pub bound_at : (y : SureTypeParamBoundLayer) → Told bound_eq.ghosts.eq erased_bound (roll-TypeParamBound (forget_bound y))
bound_at y = rolled roll-TypeParamBound out-TypeParamBound roll-out-TypeParamBound out-roll-TypeParamBound bound_eq.ghosts.eq erased_bound bare_bound bound-bare (forget_bound y) (pair y)

abbrev pub bare_trait_bound : TraitBoundLayer → TraitBoundLayer
bare_trait_bound it = record { maybe = it.maybe; lifetimes = map erased_lifetime it.lifetimes; path = erased_path it.path; span = CallSite }

trait_bound-bare : (x : TraitBoundLayer) → erased_trait_bound (roll-TraitBound x) ≡ roll-TraitBound (bare_trait_bound x)
trait_bound-bare x = bare_trait_bound-make x.maybe x.lifetimes x.path x.span

trait_bound_pair : (y : SureTraitBoundLayer) (z : TraitBoundLayer) (a b : TraitBound) → out-TraitBound a ≡ forget_trait_bound y → out-TraitBound b ≡ z → Decides (trait_bound_eq.ghosts.eq a b) (bare_trait_bound (forget_trait_bound y) ≡ bare_trait_bound z)
trait_bound_pair y z a b ha hb = told (rw (ha, hb) at (trait_bound_laws.is a b)) (both (bool_told y.maybe z.maybe) (both (lifetimes_told y.lifetimes z.lifetimes) (y.path.1 z.path)))
    (λ p. λ i. record { maybe = p.0 i; lifetimes = p.1.0 i; path = p.1.1 i; span = CallSite }) (λ e. (ap (λ (it : TraitBoundLayer). it.maybe) e, (ap (λ (it : TraitBoundLayer). it.lifetimes) e, ap (λ (it : TraitBoundLayer). it.path) e)))

pub trait_bound_at : (y : SureTraitBoundLayer) → Told trait_bound_eq.ghosts.eq erased_trait_bound (roll-TraitBound (forget_trait_bound y))
trait_bound_at y = layered roll-TraitBound out-TraitBound roll-out-TraitBound out-roll-TraitBound trait_bound_eq.ghosts.eq erased_trait_bound bare_trait_bound trait_bound-bare (forget_trait_bound y) (trait_bound_pair y)
