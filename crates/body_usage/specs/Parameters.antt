-- The type parameters and lifetimes that parameters declare, in their order.
use Rattle.std.specs.Prelude.{List, [], ◌∷◌, flat_map}
use Rattle.tok_types.specs.declared.ident.Ident.{Ident}
use Rattle.tok_types.specs.declared.ident.Lifetime.{Lifetime}
use Rattle.node_core.specs.declared.generics.GenericParam.{GenericParam}
use Rattle.node_core.specs.declared.generics.GenericParam.TheVariants as param
use Rattle.node_core.specs.declared.generics.Generics.{Generics}

abbrev pub declared_ident : GenericParam → List Ident
declared_ident (param.Ty it) = it.ident ∷ []
declared_ident (param.Lifetime it) = []
declared_ident (param.Const it) = []

abbrev pub declared_lifetime : GenericParam → List Lifetime
declared_lifetime (param.Lifetime it) = it.lifetime ∷ []
declared_lifetime (param.Ty it) = []
declared_lifetime (param.Const it) = []

abbrev pub type_params_of : Generics → List Ident
type_params_of generics = flat_map declared_ident generics.params

abbrev pub lifetimes_of : Generics → List Lifetime
lifetimes_of generics = flat_map declared_lifetime generics.params
