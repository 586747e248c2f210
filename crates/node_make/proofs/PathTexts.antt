-- Texts of paths.
use Rattle.std.proofs.Common.{◌≡◌, ℕ, List, [], ◌∷◌, ◌++◌, map, refl, sym, ap, ◌∙◌, codes}
use Rattle.std.specs.Prelude.{flat_map}
use Rattle.std.specs.List.{join_by}
use Rattle.tok_types.specs.Ident.{ident_text}
use Rattle.node_make.specs.PathText.{idents_of, path_text}
use Rattle.node_expr.specs.declared.path.Path.{Path, out-Path}
use Rattle.node_expr.specs.declared.path.PathSegment.{out-PathSegment}

module _ {A B : Type 0} (f : A → B) (g : B → List ℕ) (sep : List ℕ) where
  flat_map-map : (xs : List A) → flat_map (λ x. sep ++ g (f x)) xs ≡ flat_map (λ y. sep ++ g y) (map f xs)
  flat_map-map [] = refl
  flat_map-map (x ∷ xs) = ap (λ zs. (sep ++ g (f x)) ++ zs) (flat_map-map xs)

  pub join_by-map : (xs : List A) → join_by (λ x. g (f x)) sep xs ≡ join_by g sep (map f xs)
  join_by-map [] = refl
  join_by-map (x ∷ xs) = ap (λ zs. g (f x) ++ zs) (flat_map-map xs)

-- the text is that of the identifiers
pub path_text-idents : (path : Path) → path_text path ≡ join_by ident_text (codes "::") (idents_of path)
path_text-idents path = join_by-map (λ segment. (out-PathSegment segment).ident) ident_text (codes "::") (out-Path path).segments

pub same_text : (a b : Path) → idents_of a ≡ idents_of b → path_text a ≡ path_text b
same_text a b same = path_text-idents a ∙ ap (join_by ident_text (codes "::")) same ∙ sym (path_text-idents b)
