-- The members of a default, one field after another.
use Rattle.std.proofs.Common.{◌≡◌, ◌∙◌, ℕ, suc, ◌+◌, ◌<◌, ◌≤◌, ◌&&◌, List, [], ◌∷◌, ◌++◌, length, drop, map, get_or, Option, Some, None, option_map, is_some, refl, ap, sym, append_assoc, add-one, drop-cons}
use Rattle.std.specs.List.{list_all}
use Rattle.std.proofs.lemmas.List.{append-nil, drop_all}
use Rattle.base_core.specs.declared.text.Text.{Text}
use Rattle.tok_types.specs.Ident.{ident_text}
use Rattle.tok_types.specs.declared.ident.Ident.{Ident}
use Rattle.node_expr.specs.declared.ty.«Type».{«Type» as Type'}
use Rattle.node_core.specs.declared.data.Field.{Field}
use Rattle.machine_value.specs.declared.value.Value.{Value}
use Rattle.machine_value.specs.declared.value.Value.TheVariants as value
use Rattle.node_core.specs.declared.style.Style.TheVariants as style
use Rattle.machine_host.specs.Decls.{member_name}
use Rattle.machine_std.specs.Defaults.{each_of, member_default, struct_default, with_first}

-- the members, and then these
abbrev pub followed_by : {A : Type 0} → List A → Option (List A) → Option (List A)
followed_by members found = option_map (λ rest. members ++ rest) found

pub followed_by-nothing : {A : Type 0} (found : Option (List A)) → followed_by [] found ≡ found
followed_by-nothing None = refl
followed_by-nothing (Some rest) = refl

followed_by-one : {A : Type 0} (members : List A) (member : A) (found : Option (List A)) → followed_by members (with_first (Some member) found) ≡ followed_by (members ++ (member ∷ [])) found
followed_by-one members member None = refl
followed_by-one members member (Some rest) = ap Some (sym (append_assoc members (member ∷ []) rest))

-- whether there is a value does not change where a function is put on it
pub is_some-map : {A B : Type 0} (f : A → B) (it : Option A) → is_some (option_map f it) ≡ is_some it
is_some-map f None = refl
is_some-map f (Some it) = refl

module _ (default_of : Type' → Option Value) where
  abbrev pub members_of : List Field → Option (List (Text × Value))
  members_of fields = each_of (map (member_default default_of) fields)

  opened : (fields : List Field) (at : ℕ) (field : Field) → at < length fields → field ≡ get_or fields at field → drop at fields ≡ field ∷ drop (at + 1) fields
  opened fields at field lt is = drop-cons fields at field lt ∙ ap (λ first. first ∷ drop (suc at) fields) (sym is) ∙ ap (λ n. field ∷ drop n fields) (sym (add-one at))

  pub followed_by-more : (members : List (Text × Value)) (fields : List Field) (at : ℕ) (field : Field) → at < length fields → field ≡ get_or fields at field → (made : Value) → Some made ≡ default_of field.ty
      → followed_by members (members_of (drop at fields)) ≡ followed_by (members ++ ((member_name field, made) ∷ [])) (members_of (drop (at + 1) fields))
  followed_by-more members fields at field lt is made e =
      let member : Text × Value = (member_name field, made) in
      ap (λ rest. followed_by members (members_of rest)) (opened fields at field lt is)
      ∙ ap (λ found. followed_by members (with_first (option_map (λ (it : Value). let one : Text × Value = (member_name field, it) in one) found) (members_of (drop (at + 1) fields)))) (sym e)
      ∙ followed_by-one members member (members_of (drop (at + 1) fields))

  pub followed_by-none : (members : List (Text × Value)) (fields : List Field) (at : ℕ) (field : Field) → at < length fields → field ≡ get_or fields at field → None ≡ default_of field.ty
      → followed_by members (members_of (drop at fields)) ≡ None
  followed_by-none members fields at field lt is e =
      ap (λ rest. followed_by members (members_of rest)) (opened fields at field lt is)
      ∙ ap (λ found. followed_by members (with_first (option_map (λ (it : Value). let one : Text × Value = (member_name field, it) in one) found) (members_of (drop (at + 1) fields)))) (sym e)

  pub followed_by-end : (members : List (Text × Value)) (fields : List Field) (at : ℕ) → length fields ≤ at → followed_by members (members_of (drop at fields)) ≡ Some members
  followed_by-end members fields at le = ap (λ rest. followed_by members (members_of rest)) (drop_all at fields le) ∙ ap Some (append-nil members)

  -- ---- whether there is a default

  with_first-some : {A : Type 0} (first : Option A) (more : Option (List A)) → is_some (with_first first more) ≡ (is_some first && is_some more)
  with_first-some None more = refl
  with_first-some (Some first) None = refl
  with_first-some (Some first) (Some more) = refl

  members-some : (fields : List Field) → is_some (members_of fields) ≡ list_all (λ field. is_some (default_of field.ty)) fields
  members-some [] = refl
  members-some (field ∷ fields) =
      with_first-some (member_default default_of field) (members_of fields)
      ∙ ap (λ b. b && is_some (members_of fields)) (is_some-map (λ (it : Value). let one : Text × Value = (member_name field, it) in one) (default_of field.ty))
      ∙ ap (λ b. is_some (default_of field.ty) && b) (members-some fields)

  pub struct-some : (ident : Ident) (fields : List Field) → is_some (struct_default default_of ident fields) ≡ list_all (λ field. is_some (default_of field.ty)) fields
  struct-some ident fields = is_some-map (value.Struct (ident_text ident) style.Struct) (members_of fields) ∙ members-some fields
