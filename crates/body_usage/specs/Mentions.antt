-- The names that a node mentions: identifiers where a type parameter's may stand, and lifetimes.
use Rattle.std.specs.Prelude.{Bool, List, [], ◌∷◌, flat_map, Option, Some, None}
use Rattle.tok_types.specs.declared.ident.Ident.{Ident}
use Rattle.tok_types.specs.declared.ident.Lifetime.{Lifetime}
use Rattle.body_usage.specs.declared.mentions.Found.{Found}
use Rattle.body_usage.specs.declared.mentions.Found.TheVariants as found

-- a name, and whether it stands in a qualified self
pub data Mention : Type 0 where
  -- the first identifier of a path
  type_param : Ident → Bool → Mention
  lifetime : Lifetime → Bool → Mention

-- a reference as the name that it shows
abbrev pub seen : Found → Mention
seen (found.TypeParam ident in_qself) = type_param ident.now in_qself
seen (found.Lifetime it in_qself) = lifetime it.now in_qself

-- what a node mentions from left to right, by whether it stands in a qualified self
abbrev pub Mentioned : Type 0
Mentioned = Bool → List Mention

abbrev pub nothing : Mentioned
nothing in_qself = []

abbrev pub the_type_param : Ident → Mentioned
the_type_param ident in_qself = type_param ident in_qself ∷ []

abbrev pub the_lifetime : Lifetime → Mentioned
the_lifetime it in_qself = lifetime it in_qself ∷ []

abbrev pub under : Bool → Mentioned → List Mention
under in_qself part = part in_qself

-- what the parts mention
abbrev pub all_of : List Mentioned → Mentioned
all_of parts in_qself = flat_map (under in_qself) parts

-- what the part mentions, where it is there
abbrev pub optional : Option Mentioned → Mentioned
optional None = nothing
optional (Some part) = part
