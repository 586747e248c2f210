-- The name of a type whose path names the predicate of the table: the table has it once, at `syn`.
use Rattle.std.proofs.Common.{◌≡◌, ◌∙◌, arith, ℕ, suc, ◌-◌, Bool, true, false, ◌&&◌, not, ◌++◌, List, [], ◌∷◌, length, take, slice_get, Option, Some, None, ◌⊎◌, inl, inr, refl, ap, ap₂, subst, codes, append-nil, is_none, if◌then◌else◌}
use Rattle.std.specs.Str.{bytes_eq}
use Rattle.std.specs.List.{join_by, list_all}
use Rattle.std.proofs.lemmas.Bool.{and_parts, false≢true}
use Rattle.std.proofs.lemmas.Option.{none-some, same_Some}
use Rattle.std.proofs.lemmas.Slice.Eq.{bytes_eq-Decides}
use Rattle.base_core.specs.declared.text.Text.{Text}
use Rattle.tok_types.specs.declared.ident.Ident.{Ident}
use Rattle.node_expr.specs.declared.expr.Expr.TheOpen.{Type-F}
use Rattle.node_expr.specs.declared.path.Path.{out-Path}
use Rattle.node_expr.specs.declared.path.PathArguments.{out-PathArguments}
use Rattle.node_expr.specs.declared.path.PathSegment.{PathSegment, out-PathSegment}
use Rattle.node_expr.specs.declared.path.QSelf.{QSelf}
use Rattle.node_expr.specs.declared.ty.«Type».{«Type» as Type', out-Type}
use Rattle.node_expr.specs.declared.ty.TypePath.{TypePath, out-TypePath}
use Rattle.node_expr.specs.Layers.{TypeLayer}
use Rattle.node_make.specs.PathText.{path_text, segment_text}
use Rattle.machine_rows.specs.declared.name.Home.{Home}
use Rattle.machine_rows.specs.declared.name.Home.TheVariants as home
use Rattle.machine_rows.specs.declared.name.Name.{Name}
use Rattle.machine_rows.specs.declared.name.Name.TheVariants as name
use Rattle.machine_rows.specs.declared.path.Meant.{Meant}
use Rattle.machine_rows.specs.declared.path.Meant.TheVariants as meants
use Rattle.machine_rows.specs.Paths.{by_row, declared_or, in_table, is_bare, layer_is_none, layer_segments, meant_at, meant_by, segments_in, stands_after}
use Rattle.machine_rows.specs.Table.{looked_up, names}
use Rattle.law_cells.specs.Fits.{layer_name, type_name}

-- ---- rows of the table

abbrev Entry : Type 0
Entry = List ℕ × Home × Name

-- the first row whose text is this one, or what the rows behind it give
entry_is : (check : List ℕ → Home → Name → Bool) (row : Entry) (rows : List Entry) (text : List ℕ) (found : Home × Name) → check row.0 row.1 row.2 ≡ true
    → (looked_up rows text ≡ Some found → check text found.0 found.1 ≡ true)
    → (same : Bool) → bytes_eq row.0 text ≡ same → (if same then Some (row.1, row.2) else looked_up rows text) ≡ Some found → check text found.0 found.1 ≡ true
entry_is check row rows text found here behind true is e =
    let pair : Home × Name = (row.1, row.2) in
    subst (λ it. check text it.0 it.1 ≡ true) (same_Some pair found e) (subst (λ it. check it row.1 row.2 ≡ true) ((bytes_eq-Decides row.0 text).0 is) here)
entry_is check row rows text found here behind false is e = behind e

-- what is found at a text passes what each row of the table passes
looked_at : (check : List ℕ → Home → Name → Bool) (rows : List Entry) (text : List ℕ) (found : Home × Name) → list_all (λ row. check row.0 row.1 row.2) rows ≡ true
    → looked_up rows text ≡ Some found → check text found.0 found.1 ≡ true
looked_at check [] text found all e = absurd (none-some found e)
looked_at check (row ∷ rows) text found all e =
    let parts = and_parts (check row.0 row.1 row.2) (list_all (λ row. check row.0 row.1 row.2) rows) all in
    entry_is check row rows text found parts.0 (looked_at check rows text found parts.1) (bytes_eq row.0 text) refl e

-- the predicate has its name, and stands at `syn`
abbrev predicate_entry : List ℕ → Home → Name → Bool
predicate_entry text home.Syn name.WherePredicate = bytes_eq text (codes "WherePredicate")
predicate_entry text _ name.WherePredicate = false
predicate_entry text _ _ = true

entries_pass : list_all (λ row. predicate_entry row.0 row.1 row.2) names ≡ true
unfolding names
entries_pass = refl

-- ---- one name of the table

stands_is : (stands : Bool) (it n : Name) → (if stands then meants.Table it else meants.Nothing) ≡ meants.Table n → (stands ≡ true) × (it ≡ n)
stands_is true it n e = (refl, cc)
stands_is false it n e = absurd cc

by_row-is : (before : List PathSegment) (found : Option (Home × Name)) (n : Name) → by_row before found ≡ meants.Table n → (home : Home) × (found ≡ Some (home, n)) × (stands_after home before ≡ true)
by_row-is before None n e = absurd cc
by_row-is before (Some row) n e =
    let parts = stands_is (stands_after row.0 before) row.1 n e in
    (row.0, ap (λ it. Some (row.0, it)) parts.1, parts.0)

raw_is : (raw : Bool) (it : Meant) (n : Name) → (if raw then meants.Nothing else it) ≡ meants.Table n → (raw ≡ false) × (it ≡ meants.Table n)
raw_is true it n e = absurd cc
raw_is false it n e = (refl, e)

declared_or-is : (otherwise : Meant) (place : Option ℕ) (n : Name) → declared_or otherwise place ≡ meants.Table n → otherwise ≡ meants.Table n
declared_or-is otherwise (Some place) n e = absurd cc
declared_or-is otherwise None n e = e

-- ---- the type of one predicate

home_is : (text : List ℕ) (it : Home) → predicate_entry text it name.WherePredicate ≡ true → (text ≡ codes "WherePredicate") × (it ≡ home.Syn)
home_is text home.Syn h = ((bytes_eq-Decides text (codes "WherePredicate")).0 h, refl)
home_is text _ h = absurd (false≢true h)

-- An identifier behind these segments that names a predicate.
record IsPredicateAt (before : List PathSegment) (ident : Ident) : Type 0 where
  plain : ident.raw ≡ false
  text : ident.text ≡ codes "WherePredicate"
  stands : stands_after home.Syn before ≡ true

in_table-is : (before : List PathSegment) (ident : Ident) → in_table before ident ≡ meants.Table name.WherePredicate → IsPredicateAt before ident
in_table-is before ident e =
    let parts = raw_is ident.raw (by_row before (looked_up names ident.text)) name.WherePredicate e in
    let found = by_row-is before (looked_up names ident.text) name.WherePredicate parts.1 in
    let entry = home_is ident.text found.0 (looked_at predicate_entry names ident.text (found.0, name.WherePredicate) entries_pass found.1) in
    record { plain = parts.0; text = entry.0; stands = subst (λ it. stands_after it before ≡ true) entry.1 found.2 }

never : (b : Bool) → b && false ≡ true → ⊥
never true h = false≢true h
never false h = false≢true h

-- the predicate doesn't stand behind two segments or more
long_is_none : (decls : List Ident) (first second : PathSegment) (rest : List PathSegment) (last : Option PathSegment) → meant_at decls (first ∷ second ∷ rest) last ≡ meants.Table name.WherePredicate → ⊥
long_is_none decls first second rest None e = absurd cc
long_is_none decls first second rest (Some last) e = never (is_bare (codes "syn") first) (in_table-is (first ∷ second ∷ rest) (out-PathSegment last).ident e).stands

written : (raw : Bool) (text wanted : Text) → raw ≡ false → text ≡ wanted → (if raw then codes "r#" else []) ++ text ≡ wanted
written true text wanted r e = absurd cc
written false text wanted r e = e

last_text : (before : List PathSegment) (it : PathSegment) → IsPredicateAt before (out-PathSegment it).ident → segment_text it ≡ codes "WherePredicate"
last_text before it h = let ident : Ident = (out-PathSegment it).ident in written ident.raw ident.text (codes "WherePredicate") h.plain h.text

bare_text : (raw same bare : Bool) (text wanted : Text) → (same ≡ true → text ≡ wanted) → (not raw && same && bare) && true ≡ true → (if raw then codes "r#" else []) ++ text ≡ wanted
bare_text true same bare text wanted e h = absurd (false≢true h)
bare_text false true bare text wanted e h = e refl
bare_text false false bare text wanted e h = absurd (false≢true h)

first_text : (it : PathSegment) → stands_after home.Syn (it ∷ []) ≡ true → segment_text it ≡ codes "syn"
first_text it h =
    let ident : Ident = (out-PathSegment it).ident in
    bare_text ident.raw (bytes_eq ident.text (codes "syn")) (layer_is_none (out-PathArguments (out-PathSegment it).arguments)) ident.text (codes "syn") (bytes_eq-Decides ident.text (codes "syn")).0 h

-- the name of the type of a predicate
abbrev pub IsPredicateName : Text → Type 0
IsPredicateName text = (text ≡ codes "WherePredicate") ⊎ (text ≡ codes "syn::WherePredicate")

segments_name : (decls : List Ident) (segments : List PathSegment) → meant_by decls segments ≡ meants.Table name.WherePredicate → IsPredicateName (join_by segment_text (codes "::") segments)
segments_name decls [] e = absurd cc
segments_name decls (last ∷ []) e =
    let at = in_table-is [] (out-PathSegment last).ident (declared_or-is (in_table [] (out-PathSegment last).ident) _ name.WherePredicate e) in
    inl (append-nil (segment_text last) ∙ last_text [] last at)
segments_name decls (first ∷ last ∷ []) e =
    let at = in_table-is (first ∷ []) (out-PathSegment last).ident e in
    inr (ap₂ (λ a b. a ++ ((codes "::" ++ b) ++ [])) (first_text first at.stands) (last_text (first ∷ []) last at))
segments_name decls (first ∷ second ∷ third ∷ more) e =
    let segments : List PathSegment = first ∷ second ∷ third ∷ more in
    let long : length segments - 1 ≡ suc (suc (length more)) = omega arith in
    let behind = subst (λ n. meant_at decls (take n segments) (slice_get segments n) ≡ meants.Table name.WherePredicate) long e in
    absurd (long_is_none decls first second (take (length more) (third ∷ more)) (slice_get (third ∷ more) (length more)) behind)

path_name : (decls : List Ident) (it : TypePath) (qself : Option (QSelf Type')) → meant_by decls (if is_none qself then (out-Path (out-TypePath it).path).segments else []) ≡ meants.Table name.WherePredicate
    → IsPredicateName (path_text (out-TypePath it).path)
path_name decls it None e = segments_name decls (out-Path (out-TypePath it).path).segments e
path_name decls it (Some qself) e = absurd cc

layer_is_predicate : (decls : List Ident) (layer : TypeLayer) → meant_by decls (layer_segments layer) ≡ meants.Table name.WherePredicate → IsPredicateName (layer_name layer)
layer_is_predicate decls (Type-F.«Type::Path» it) e = path_name decls it (out-TypePath it).qself e
layer_is_predicate decls _ e = absurd cc

-- a type whose path is that of a predicate of the table has its name, bare or at `syn`
pub predicate_name : (decls : List Ident) (type : Type') → meant_by decls (segments_in type) ≡ meants.Table name.WherePredicate → IsPredicateName (type_name type)
predicate_name decls type e = layer_is_predicate decls (out-Type type) e
