-- Flags that are pushed one after another.
use Rattle.std.proofs.Common.{◌≡◌, ◌∙◌, ◌+◌, ◌&&◌, drop, get_or, ℕ, zero, suc, ◌<◌, ◌≤◌, Bool, true, false, if◌then◌else◌, List, [], ◌∷◌, ◌++◌, length, Option, Some, is_some, refl, ap, sym, arith, nat_eq, ⊎_elim}
use Rattle.std.specs.Prelude.{option_and_then, slice_get}
use Rattle.std.specs.List.{list_all}
use Rattle.std.proofs.Math.Dec.{eqb-suc-suc, eqb-suc-zero, eqb-zero-suc}
use Rattle.std.proofs.lemmas.Bool.Decides.{leb_tells}
use Rattle.std.proofs.lemmas.List.{drop_more}
use Rattle.std.proofs.lemmas.Option.{slice_get_past}
use Rattle.node_expr.specs.declared.ty.«Type».{«Type» as Type'}
use Rattle.node_core.specs.declared.data.Field.{Field}
use Rattle.node_core.specs.declared.derive.DeriveInput.{DeriveInput}
use Rattle.law_spans.specs.Erased.{erased_type}
use Rattle.machine_host.specs.Decls.{decl_names}
use Rattle.machine_host.specs.HostSays.{erased_decls}
use Rattle.machine_rows.specs.Heads.{head_of}
use Rattle.machine_std.specs.Defaulted.{AreFlags, is_flagged}
use Rattle.machine_std.specs.Defaults.{decl_default, declared_in, default_among, default_below, default_in, type_default}
use Rattle.machine_std.proofs.Belows.{among-is, at_bound, below-among, below-none, made_at}
use Rattle.machine_std.proofs.Erased.{default_in-bare}

-- one flag more is that of the number of flags
flagged-push : (flags : List Bool) (flag : Bool) (number : ℕ) → is_flagged (flags ++ (flag ∷ [])) number ≡ (if nat_eq number (length flags) then flag else is_flagged flags number)
flagged-push [] flag zero = refl
flagged-push [] flag (suc number) = sym (ap (λ b. if b then flag else is_flagged [] (suc number)) (eqb-suc-zero number))
flagged-push (first ∷ flags) flag zero = sym (ap (λ b. if b then flag else is_flagged (first ∷ flags) zero) (eqb-zero-suc (length flags)))
flagged-push (first ∷ flags) flag (suc number) =
    flagged-push flags flag number ∙ sym (ap (λ b. if b then flag else is_flagged flags number) (eqb-suc-suc number (length flags)))

-- one more field, by its test
module _ (test : Field → Bool) (fields : List Field) (at : ℕ) (field : Field) (lt : at < length fields) (is : field ≡ get_or fields at field) where
  opened : list_all test (drop at fields) ≡ (test field && list_all test (drop (at + 1) fields))
  opened = ap (list_all test) (drop_more fields at field lt) ∙ ap (λ first. list_all test (first ∷ drop (at + 1) fields)) (sym is)

  pub all-more : test field ≡ true → list_all test (drop (at + 1) fields) ≡ list_all test (drop at fields)
  all-more passes = sym (opened ∙ ap (λ b. b && list_all test (drop (at + 1) fields)) passes)

  pub all-stop : test field ≡ false → list_all test (drop at fields) ≡ false
  all-stop fails = opened ∙ ap (λ b. b && list_all test (drop (at + 1) fields)) fails

module _ (decls : List DeriveInput) where
  -- no declaration of the bound or above it has a default where the bound is their count
  pub all-below : (bound number : ℕ) → length decls ≤ bound → default_below decls bound number ≡ default_among decls number
  all-below bound number le =
      ⊎_elim
      (λ within. below-among decls bound number within.1)
      (λ past.
      let after : bound ≤ number = omega (arith, past.1) in
      below-none decls bound number after
      ∙ sym (ap (decl_default (type_default decls (default_below decls number))) (slice_get_past decls number (omega (arith, le, after))))
      ∙ sym (among-is decls number))
      (leb_tells (suc number) bound)

  pub flags-more : (flags : List Bool) (flag : Bool) (at : ℕ) (decl : DeriveInput) → length flags ≡ at → AreFlags flags (default_below decls at) → slice_get decls at ≡ Some decl
      → flag ≡ is_some (decl_default (type_default decls (default_below decls at)) (Some decl)) → AreFlags (flags ++ (flag ∷ [])) (default_below decls (suc at))
  flags-more flags flag at decl count are stands says = λ number.
      let has : flag ≡ is_some (made_at decls at) = says ∙ ap (λ it. is_some (decl_default (type_default decls (default_below decls at)) it)) (sym stands) in
      flagged-push flags flag number
      ∙ ap (λ n. if nat_eq number n then flag else is_flagged flags number) count
      ∙ by number (nat_eq number at) has
      ∙ sym (ap is_some (at_bound decls at number (nat_eq number at) refl))
    where
      by : (number : ℕ) (b : Bool) → flag ≡ is_some (made_at decls at) → (if b then flag else is_flagged flags number) ≡ is_some (if b then made_at decls at else default_below decls at number)
      by number true has = has
      by number false has = are number

  -- the type of a name has the default of the declaration that it is
  pub name-flagged : (ty : Type') (found : Option ℕ) → found ≡ declared_in (head_of (decl_names decls) ty)
      → is_some (option_and_then (default_among decls) found) ≡ is_some (default_in (erased_decls decls) (erased_type ty))
  name-flagged ty found is = ap (λ number. is_some (option_and_then (default_among decls) number)) is ∙ ap is_some (sym (default_in-bare decls ty))
