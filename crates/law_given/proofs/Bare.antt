-- Declarations without attributes have none.
use Rattle.std.proofs.Common.{◌≡◌, List, [], ◌∷◌, map, refl, ap, ap₂}
use Rattle.node_core.specs.declared.data.«Data».{«Data»}
use Rattle.node_core.specs.declared.data.«Data».TheVariants as body
use Rattle.node_core.specs.declared.data.Fields.{Fields}
use Rattle.node_core.specs.declared.data.Fields.TheVariants as fields
use Rattle.node_core.specs.declared.data.Variant.{Variant}
use Rattle.node_core.specs.declared.derive.DeriveInput.{DeriveInput}
use Rattle.node_core.specs.declared.generics.GenericParam.{GenericParam}
use Rattle.node_core.specs.declared.generics.GenericParam.TheVariants as param
use Rattle.node_core.specs.declared.generics.Generics.{Generics}
use Rattle.run_accepted.specs.Attributes.{body_without, field_without, fields_without, generics_without, param_without, variant_without, without_attributes}
use Rattle.law_given.specs.Given.{IsBare}

module _ {A : Type 0} (change : A → A) (once : (x : A) → change (change x) ≡ change x) where
  map-once : (xs : List A) → map change (map change xs) ≡ map change xs
  map-once [] = refl
  map-once (x ∷ xs) = ap₂ ◌∷◌ (once x) (map-once xs)

fields_once : (it : Fields) → fields_without (fields_without it) ≡ fields_without it
fields_once (fields.Named it) = ap (λ its. fields.Named (record it { named = its })) (map-once field_without (λ field. refl) it.named)
fields_once (fields.Unnamed it) = ap (λ its. fields.Unnamed (record it { unnamed = its })) (map-once field_without (λ field. refl) it.unnamed)
fields_once fields.Unit = refl

variant_once : (it : Variant) → variant_without (variant_without it) ≡ variant_without it
variant_once it = ap (λ its. record it { attrs = []; fields = its }) (fields_once it.fields)

body_once : (it : «Data») → body_without (body_without it) ≡ body_without it
body_once (body.Struct it) = ap (λ its. body.Struct (record it { fields = its })) (fields_once it.fields)
body_once (body.Enum it) = ap (λ its. body.Enum (record it { variants = its })) (map-once variant_without variant_once it.variants)
body_once (body.Union it) =
    ap (λ its. body.Union (record it { fields = record it.fields { named = its } })) (map-once field_without (λ field. refl) it.fields.named)

param_once : (it : GenericParam) → param_without (param_without it) ≡ param_without it
param_once (param.Lifetime it) = refl
param_once (param.Ty it) = refl
param_once (param.Const it) = refl

generics_once : (it : Generics) → generics_without (generics_without it) ≡ generics_without it
generics_once it = ap (λ its. record it { params = its }) (map-once param_without param_once it.params)

-- a declaration that is made without attributes has none
pub is_bare : (decl : DeriveInput) → IsBare (without_attributes decl)
is_bare decl =
    ap₂ (λ generics members. record decl { attrs = []; generics = generics; body = members }) (generics_once decl.generics) (body_once decl.body)
