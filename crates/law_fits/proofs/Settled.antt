-- Types that are no deeper than the table looks leave no type of the table to the host.
use Rattle.std.proofs.Common.{◌≡◌, ◌≤◌, arith, ℕ, zero, suc, Bool, true, false, if◌then◌else◌, List, Option, Some, None}
use Rattle.tok_types.specs.declared.ident.Ident.{Ident}
use Rattle.node_expr.specs.declared.ty.«Type».{«Type» as Type'}
use Rattle.syn_grammar.specs.Depth.{type_depth}
use Rattle.machine_rows.specs.Arguments.{last_arguments}
use Rattle.machine_rows.specs.Heads.{bare_name, beside_meta, hash_map_of, head_of, head_of_one, head_of_two, is_unit, list_of, named_head, punctuated_of, set_of, tree_map_of}
use Rattle.machine_rows.specs.Items.{hash_key, punctuated_item, set_item, tree_key, vec_item}
use Rattle.machine_rows.specs.Paths.{meant_by, segments_in}
use Rattle.machine_rows.specs.declared.arguments.Arguments.{Arguments}
use Rattle.machine_rows.specs.declared.arguments.Arguments.TheVariants as arguments
use Rattle.machine_rows.specs.declared.head.Head.{Head}
use Rattle.machine_rows.specs.declared.head.Head.TheVariants as head
use Rattle.machine_rows.specs.declared.leaf.Leaf.TheVariants as leaf
use Rattle.machine_rows.specs.declared.leaf.PunctuatedItem.{PunctuatedItem}
use Rattle.machine_rows.specs.declared.leaf.SetItem.{SetItem}
use Rattle.machine_rows.specs.declared.leaf.VecItem.{VecItem}
use Rattle.machine_rows.specs.declared.name.Name.{Name}
use Rattle.machine_rows.specs.declared.name.Name.TheVariants as name
use Rattle.machine_rows.specs.declared.path.Meant.{Meant}
use Rattle.machine_rows.specs.declared.path.Meant.TheVariants as meants
use Rattle.machine_rows.specs.declared.wrapper.HashKey.{HashKey}
use Rattle.machine_rows.specs.declared.wrapper.TreeKey.{TreeKey}
use Rattle.machine_rows.specs.declared.wrapper.Wrapper.{Wrapper}
use Rattle.machine_rows.specs.declared.wrapper.Wrapper.TheVariants as wrapper
use Rattle.law_fits.proofs.Depths.{AreSuch, arguments_less_deep, type_deep}

-- a type that holds one type has the default of that, or a default of its own
abbrev pub OfInside : Wrapper → Type 0 → Type 0
OfInside wrapper.Box Inside = Inside
OfInside wrapper.SpannedValue Inside = Inside
OfInside _ Inside = Unit {0}

abbrev pub SettledHead : (Type' → Type 0) → Head Type' → Type 0
SettledHead Inside (head.Around it inner) = OfInside it (Inside inner)
SettledHead Inside _ = Unit {0}

-- Where the default of a type is that of a type at the last level, which the row leaves to the host, that one is the host's:
-- neither of the table nor a declaration.
abbrev pub IsSettled : List Ident → ℕ → Type' → Type 0
IsSettled names zero type = head_of names type ≡ head.Host
IsSettled names (suc level) type = SettledHead (IsSettled names level) (head_of names type)

-- the type that a type of this head holds is such
abbrev AroundSuch : (Type' → Type 0) → Head Type' → Type 0
AroundSuch IsSuch (head.Around it inner) = IsSuch inner
AroundSuch IsSuch head.Unit = Unit {0}
AroundSuch IsSuch (head.Leaf it) = Unit {0}
AroundSuch IsSuch (head.Declared place) = Unit {0}
AroundSuch IsSuch head.Host = Unit {0}

-- what a type holds stands among its arguments
module _ (IsSuch : Type' → Type 0) where
  list_such : (item : Option VecItem) (inner : Type') → IsSuch inner → AroundSuch IsSuch (list_of item inner)
  list_such (Some item) inner h = tt
  list_such None inner h = h

  set_such : (item : Option SetItem) → AroundSuch IsSuch (set_of item)
  set_such (Some item) = tt
  set_such None = tt

  hash_map_such : (key : Option HashKey) (inner : Type') → IsSuch inner → AroundSuch IsSuch (hash_map_of key inner)
  hash_map_such (Some key) inner h = h
  hash_map_such None inner h = tt

  tree_map_such : (key : Option TreeKey) (inner : Type') → IsSuch inner → AroundSuch IsSuch (tree_map_of key inner)
  tree_map_such (Some key) inner h = h
  tree_map_such None inner h = tt

  punctuated_such : (item : Option PunctuatedItem) (mark : Option Name) → AroundSuch IsSuch (punctuated_of item mark)
  punctuated_such None mark = tt
  punctuated_such (Some item) None = tt
  punctuated_such (Some item) (Some name.Comma) = tt
  punctuated_such (Some item) (Some _) = tt

  beside_such : (it : Wrapper) (inner : Type') (other : Option Name) → IsSuch inner → AroundSuch IsSuch (beside_meta it inner other)
  beside_such it inner (Some (name.Leaf leaf.Meta)) h = h
  beside_such it inner _ h = tt

  one_such : (bare : Option Name) (it : Name) (inner : Type') → IsSuch inner → AroundSuch IsSuch (head_of_one bare it inner)
  one_such bare name.Vec inner h = list_such (vec_item bare) inner h
  one_such bare name.HashSet inner h = set_such (set_item bare)
  one_such bare name.Option inner h = h
  one_such bare name.Box inner h = h
  one_such bare name.Result inner h = h
  one_such bare name.Override inner h = h
  one_such bare name.SpannedValue inner h = h
  one_such bare _ inner h = tt

  two_such : (bare other : Option Name) (it : Name) (first second : Type') → IsSuch first → IsSuch second → AroundSuch IsSuch (head_of_two bare other it first second)
  two_such bare other name.Punctuated first second h g = punctuated_such (punctuated_item bare) other
  two_such bare other name.Result first second h g = beside_such wrapper.ResultMeta first other h
  two_such bare other name.WithOriginal first second h g = beside_such wrapper.WithOriginal first other h
  two_such bare other name.HashMap first second h g = hash_map_such (hash_key bare) second g
  two_such bare other name.BTreeMap first second h g = tree_map_such (tree_key bare) second g
  two_such bare other _ first second h g = tt

  named_such : (names : List Ident) (meant : Meant) (them : Arguments Type') → AreSuch IsSuch them → AroundSuch IsSuch (named_head names meant them)
  named_such names (meants.Declared place) arguments.Bare h = tt
  named_such names (meants.Table (name.Leaf it)) arguments.Bare h = tt
  named_such names (meants.Table it) (arguments.One inner) h = one_such (bare_name names inner) it inner h
  named_such names (meants.Table it) (arguments.Two first second) h = two_such (bare_name names first) (bare_name names second) it first second h.0 h.1
  named_such names _ _ h = tt

  unit_or_such : (unit : Bool) (other : Head Type') → AroundSuch IsSuch other → AroundSuch IsSuch (if unit then head.Unit else other)
  unit_or_such true other h = tt
  unit_or_such false other h = h

  head_such : (names : List Ident) (type : Type') → AreSuch IsSuch (last_arguments (segments_in type)) → AroundSuch IsSuch (head_of names type)
  head_such names type h =
      unit_or_such (is_unit type) (named_head names (meant_by names (segments_in type)) (last_arguments (segments_in type)))
      (named_such names (meant_by names (segments_in type)) (last_arguments (segments_in type)) h)

  module _ (Inside : Type' → Type 0) (inside : (inner : Type') → IsSuch inner → Inside inner) where
    of_inside : (it : Wrapper) (inner : Type') → IsSuch inner → OfInside it (Inside inner)
    of_inside wrapper.Box inner h = inside inner h
    of_inside wrapper.SpannedValue inner h = inside inner h
    of_inside _ inner h = tt

    settled_head : (it : Head Type') → AroundSuch IsSuch it → SettledHead Inside it
    settled_head (head.Around it inner) h = of_inside it inner h
    settled_head head.Unit h = tt
    settled_head (head.Leaf it) h = tt
    settled_head (head.Declared place) h = tt
    settled_head head.Host h = tt

-- a type no deeper than the level is so
pub shallow_settled : (names : List Ident) (level : ℕ) (type : Type') → type_depth type ≤ level → IsSettled names level type
shallow_settled names zero type h = let deep = type_deep type in absurd (omega (arith, deep, h))
shallow_settled names (suc level) type h =
    settled_head (λ inner. type_depth inner ≤ level) (IsSettled names level) (shallow_settled names level) (head_of names type)
    (head_such (λ inner. type_depth inner ≤ level) names type (arguments_less_deep level type h))
