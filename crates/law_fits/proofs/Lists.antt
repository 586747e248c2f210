-- What a list that is read as a whole holds names no declaration.
use Rattle.std.proofs.Common.{◌≡◌, List, Option, Some, None, refl, sym, subst, ℕ, suc}
use Rattle.std.proofs.lemmas.Option.{none-some}
use Rattle.node_expr.specs.declared.ty.«Type».{«Type» as Type'}
use Rattle.tok_types.specs.declared.ident.Ident.{Ident}
use Rattle.machine_rows.specs.Heads.{bare_name, head_of, named_head}
use Rattle.machine_rows.specs.Items.{vec_item}
use Rattle.machine_rows.specs.declared.arguments.Arguments.TheVariants as arguments
use Rattle.machine_rows.specs.declared.leaf.VecItem.{VecItem}
use Rattle.machine_rows.specs.declared.name.Name.{Name}
use Rattle.machine_rows.specs.declared.name.Name.TheVariants as name
use Rattle.machine_rows.specs.declared.path.Meant.TheVariants as meants
use Rattle.law_fits.proofs.Numbers.{InHead, NamesSuch}
use Rattle.law_fits.proofs.VecRows.{bare_head}

module _ (IsSuch : ℕ → Type 0) (Inside : Type' → Type 0) where
  table_in_head : (names : List Ident) (found : Name) → InHead IsSuch Inside (named_head names (meants.Table found) arguments.Bare)
  table_in_head names (name.Leaf it) = tt
  table_in_head names _ = tt

  name_in_head : (names : List Ident) (type : Type') (found : Name) → bare_name names type ≡ Some found → InHead IsSuch Inside (head_of names type)
  name_in_head names type found e = subst (InHead IsSuch Inside) (sym (bare_head names type found e)) (table_in_head names found)

  -- an item of a list that is read as a whole names no declaration
  pub item_in_head : (names : List Ident) (type : Type') (item : VecItem) → vec_item (bare_name names type) ≡ Some item → InHead IsSuch Inside (head_of names type)
  item_in_head names type item e = by (bare_name names type) refl e
    where
      by : (found : Option Name) → bare_name names type ≡ found → vec_item found ≡ Some item → InHead IsSuch Inside (head_of names type)
      by None is e = absurd (none-some item e)
      by (Some found) is e = name_in_head names type found is

pub item_names : (IsSuch : ℕ → Type 0) (names : List Ident) (level : ℕ) (type : Type') (item : VecItem) → vec_item (bare_name names type) ≡ Some item → NamesSuch IsSuch names (suc level) type
item_names IsSuch names level type item e = item_in_head IsSuch (NamesSuch IsSuch names level) names type item e
