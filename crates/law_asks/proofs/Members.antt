-- What the unit of a declaration asks for its fields is there.
use Rattle.std.proofs.Common.{◌≡◌, ◌∙◌, ℕ, suc, ◌+◌, ◌≤◌, Bool, true, false, ◌&&◌, ◌||◌, not, List, [], ◌∷◌, slice_get, Option, Some, None, option_map, is_some, All, IfSome, Contains, if◌then◌else◌, refl, ap, subst, subst₂, arith, eq-eqb}
use Rattle.std.specs.List.{AllZip}
use Rattle.std.proofs.lemmas.Bool.{and_parts, cond-true, false≢true}
use Rattle.std.proofs.lemmas.List.Elements.{All-cons, All-nil}
use Rattle.node_expr.specs.declared.ty.«Type».{«Type» as Type'}
use Rattle.node_span.specs.Spanned.{expr_span, path_span}
use Rattle.syn_grammar.specs.Depth.{type_depth}
use Rattle.syn_grammar.specs.Grammar.{max_depth}
use Rattle.node_core.specs.declared.data.Field.{Field}
use Rattle.node_core.specs.declared.data.«Data».{«Data»}
use Rattle.codegen_program.specs.declared.callable.Callable.{Callable}
use Rattle.codegen_program.specs.declared.arm.Arm.{Arm}
use Rattle.codegen_program.specs.declared.arm.PostfixTransform.{PostfixTransform}
use Rattle.codegen_program.specs.declared.init.Fallback.{Fallback as Falls}
use Rattle.codegen_program.specs.declared.init.Fallback.TheVariants as fallbacks
use Rattle.codegen_program.specs.declared.init.Init.{Init}
use Rattle.codegen_program.specs.declared.program.Derive.{Derive}
use Rattle.codegen_program.specs.declared.program.Program.{Program}
use Rattle.codegen_core.specs.Fields.{at_slots, declaration, fallback_of, init}
use Rattle.codegen_core.specs.declared.field.Field.{Field as Left}
use Rattle.law_spans.specs.Erased.{erased_path}
use Rattle.law_fits.specs.HostSays.{HostSays}
use Rattle.law_fits.specs.Use.{Use}
use Rattle.law_fits.specs.Use.TheVariants as use_at
use Rattle.law_fits.specs.Machine.{setting_of}
use Rattle.law_fits.specs.Reading.{transform_use}
use Rattle.law_fits.specs.Setting.{called}
use Rattle.machine_forms.specs.Asks.{Ask, Read, Member, all_asks, asked_slot, is_asked, is_slot, is_trait, slot_asks}
use Rattle.machine_forms.specs.Forms.{fallback_call}
use Rattle.machine_forms.specs.declared.ask.Asked.TheVariants as asked
use Rattle.law_fits.specs.Callables.{converted, offers, taken, unknown_post, unoffered, unoffered_arm, unoffered_ask, unoffered_member, unoffered_read, value_type}
use Rattle.law_fits.specs.Fits.{field_fits, has_default, type_fits}
use Rattle.law_fits.specs.Types.{fits_asks, unfit_ask, unfit_post, unfit_taken}
use Rattle.law_fits.specs.Decl.{Decl, FieldDecl, Shape, Single, Many, Flat, is_many, is_named}
use Rattle.law_fits.specs.EntryFaults.{element_by}
use Rattle.law_fits.specs.EntrySteps.{arm, arms_from}
use Rattle.law_fits.proofs.Clean.{nil_left, nil_right}
use Rattle.law_machine.specs.Compiles.{IsField, meant_fallback}
use Rattle.law_machine.proofs.Arms.{next}
use Rattle.law_fits.specs.Sound.{IsFallback, IsFieldOf, IsOffered, IsPost, IsRead, IsSoundField, IsTransform}
use Rattle.law_asks.proofs.Found.{some_passes, unless_none}
use Rattle.law_asks.proofs.Narrower.{field_narrower, type_narrower}
use Rattle.law_asks.proofs.Several.{first-takes, later-takes, takes}
use Rattle.law_asks.proofs.Units.{contains-head, contains-tail}

-- ---- one thing that is asked

asked_has : (wanted has : Bool) → wanted ≡ true → (not wanted || has) ≡ true → has ≡ true
asked_has true has e holds = holds
asked_has false has e holds = absurd (false≢true e)

module _ (host : HostSays) (program : Program) where
  pub is_offered : (at : Use) (type : Type') (it : Option Callable) → unoffered host program at type it ≡ [] → IfSome it (IsOffered host program at type)
  is_offered at type None none = tt
  is_offered at type (Some callable) none = unless_none (offers host program (Some callable) at type) (expr_span callable.call) none

  falls_by : (type : Type') (it : Option Falls) → (is_trait it ≡ true → has_default host program type ≡ true)
      → unoffered host program use_at.Default type (fallback_call it) ≡ [] → IfSome (option_map meant_fallback it) (IsFallback host program type)
  falls_by type None has none = tt
  falls_by type (Some (fallbacks.Inherit ident)) has none = tt
  falls_by type (Some (fallbacks.Explicit callable)) has none = is_offered use_at.Default type (Some callable) none
  falls_by type (Some fallbacks.Trait) has none = has refl

  value_by : (shape : Shape) (type : Type') → value_type host program (is_many shape) type ≡ element_by (setting_of host program) shape type
  value_by Single type = refl
  value_by Many type = refl
  value_by Flat type = refl

  module _ (here : ℕ) where
    post_by : (type : Type') (post : PostfixTransform) (found : Option Type') → host.takes (erased_path post.function) ≡ found → is_some found ≡ true
        → unfit_taken host program here post found ≡ [] → IsTransform host program type post → IsPost host program here type post
    post_by type post None e is none offered = absurd (false≢true is)
    post_by type post (Some found) e is none offered = record {
      taken = found;
      takes = e;
      fits = type_narrower host program here found (unless_none (type_fits host program here true found) (path_span post.function) none);
      offered = offered;
    }

    is_post : (type : Type') (it : Option PostfixTransform) → unknown_post host program type it ≡ [] → unfit_post host program here it ≡ []
        → IfSome it (IsPost host program here type)
    is_post type None unknown unfit = tt
    is_post type (Some post) unknown unfit =
        let called_there = offers host program (Some (called post.function)) (transform_use post) type in
        let both = and_parts (is_some (taken host program post)) called_there (unless_none (is_some (taken host program post) && called_there) (path_span post.function) unknown) in
        post_by type post (taken host program post) refl both.0 unfit both.1

    is_read : (number : ℕ) (field : FieldDecl) (type : Type') → unoffered_arm host program (arm number field) type ≡ [] → unfit_post host program here field.transform ≡ []
        → IsRead host program here type field
    is_read number field type none unfit =
        let with_places = unoffered host program use_at.With (converted host program field.transform type) field.with in
        let post_places = unknown_post host program type field.transform in record {
          by = is_offered use_at.With (converted host program field.transform type) field.with (nil_left with_places post_places none);
          post = is_post type field.transform (nil_right with_places post_places none) unfit;
        }

-- ---- fields

abbrev pub one_init : ℕ → Left → List Init
one_init slot left = init slot left ∷ []

first_arm : (named : Bool) (it : Arm) (arms : List Arm) → named ≡ true → Contains (if named then it ∷ arms else arms) it
first_arm true it arms e = contains-head it arms
first_arm false it arms e = absurd (false≢true e)

later_arm : (named : Bool) (first : Arm) (arms : List Arm) (it : Arm) → Contains arms it → Contains (if named then first ∷ arms else arms) it
later_arm true first arms it among = contains-tail first arms it among
later_arm false first arms it among = among

-- of the fields `whole` of a receiver of this type, which is so declared; `asks` is what its unit asks
module _ (host : HostSays) (program : Program) (decl : Decl) (reads : Bool) (derive : Derive) (type : Type') (that : «Data») (whole : List Field) (asks : List Ask)
    (fits : (slot : ℕ) (field : Field) → slice_get whole slot ≡ Some field → fits_asks host program decl.number slot field.ty (slot_asks asks) ≡ true)
    (offered : (ask : Ask) → Contains asks ask → unoffered_ask host program derive type that whole ask ≡ [])
    (fitting : (ask : Ask) → Contains asks ask → unfit_ask host program decl.number ask ≡ []) where
  module _ (slot : ℕ) (left : Left) (declared : Field) (field : FieldDecl) (is : IsField decl.body left field) (of : IsFieldOf declared field)
      (found : slice_get whole slot ≡ Some declared) (many : takes asks slot ≡ left.multiple) (member : Contains asks (Member (init slot left)))
      (arms : reads ≡ true → is_named field ≡ true → Contains asks (Read (arm slot field))) where
    abbrev reads_there : Bool
    reads_there = is_asked asked.Read asks slot

    abbrev defaults_there : Bool
    defaults_there = is_asked asked.Default asks slot

    slot_fits : (field_fits host program decl.number reads_there (takes asks slot) declared.ty ≡ true) × ((not defaults_there || has_default host program declared.ty) ≡ true)
    slot_fits =
        and_parts (field_fits host program decl.number reads_there (takes asks slot) declared.ty) (not defaults_there || has_default host program declared.ty)
        (fits slot declared found)

    -- the default of the type is asked where the field falls back on it
    default_asked : is_trait (fallback_of left) ≡ true → defaults_there ≡ true
    default_asked e =
        some_passes (λ ask. is_slot slot (asked_slot asked.Default ask)) asks (Member (init slot left)) member
        (ap (is_slot slot) (cond-true (is_trait (fallback_of left)) (Some slot) None e) ∙ eq-eqb slot slot refl)

    falls : IfSome (option_map meant_fallback (fallback_of left)) (IsFallback host program declared.ty)
    falls =
        falls_by host program declared.ty (fallback_of left)
        (λ e. asked_has defaults_there (has_default host program declared.ty) (default_asked e) slot_fits.1)
        (subst (λ it. unoffered_member host program (init slot left) it ≡ []) found (offered (Member (init slot left)) member))

    arm_offered : reads ≡ true → is_named field ≡ true → unoffered_arm host program (arm slot field) (element_by (setting_of host program) field.shape field.type) ≡ []
    arm_offered reading named =
        let none : unoffered_arm host program (arm slot field) (value_type host program (is_many field.shape) declared.ty) ≡ [] =
        subst (λ it. unoffered_read host program (arm slot field) it ≡ []) found (offered (Read (arm slot field)) (arms reading named)) in
        subst (λ ty. unoffered_arm host program (arm slot field) ty ≡ [])
        (ap (value_type host program (is_many field.shape)) of.1 ∙ value_by host program field.shape field.type)
        none

    pub field_is_sound : IsSoundField host program decl reads field
    field_is_sound = record {
      shallow = subst (λ ty. type_depth ty ≤ max_depth) of.1 of.2;
      fits =
          subst₂ (λ many ty. field_fits host program decl.number false many ty ≡ true) (many ∙ is.many) of.1
          (field_narrower host program decl.number reads_there (takes asks slot) declared.ty slot_fits.0);
      falls = subst₂ (λ it ty. IfSome it (IsFallback host program ty)) is.fallback of.1 falls;
      read = λ reading named.
          is_read host program decl.number slot field (element_by (setting_of host program) field.shape field.type) (arm_offered reading named)
          (fitting (Read (arm slot field)) (arms reading named));
    }

  -- from this slot on
  pub fields_are_sound : (slot : ℕ) (lefts : List Left) (declared : List Field) (fields : List FieldDecl) → AllZip (IsField decl.body) lefts fields → AllZip IsFieldOf declared fields
      → ((at : ℕ) → slice_get whole (slot + at) ≡ slice_get declared at)
      → ((at : ℕ) → slot ≤ at → takes asks at ≡ takes (all_asks (at_slots declaration slot lefts)) at)
      → ((it : Init) → Contains (at_slots one_init slot lefts) it → Contains asks (Member it))
      → ((it : Arm) → reads ≡ true → Contains (arms_from slot fields) it → Contains asks (Read it))
      → All (IsSoundField host program decl reads) fields
  fields_are_sound slot [] declared [] are of found many members arms = All-nil (IsSoundField host program decl reads)
  fields_are_sound slot [] declared (field ∷ fields) are of found many members arms = absurd are
  fields_are_sound slot (left ∷ lefts) declared [] are of found many members arms = absurd are
  fields_are_sound slot (left ∷ lefts) [] (field ∷ fields) are of found many members arms = absurd of
  fields_are_sound slot (left ∷ lefts) (one ∷ declared) (field ∷ fields) are of found many members arms =
      All-cons (IsSoundField host program decl reads) field fields
      (field_is_sound slot left one field are.0 of.0
      (let same : slot ≡ slot + 0 = omega arith in ap (slice_get whole) same ∙ found 0)
      (many slot (omega arith) ∙ first-takes slot left lefts)
      (members (init slot left) (contains-head (init slot left) (at_slots one_init (slot + 1) lefts)))
      (λ reading named. arms (arm slot field) reading (first_arm (is_named field) (arm slot field) (arms_from (suc slot) fields) named)))
      (fields_are_sound (slot + 1) lefts declared fields are.1 of.1
      (λ at. let same : (slot + 1) + at ≡ slot + suc at = omega arith in ap (slice_get whole) same ∙ found (suc at))
      (λ at le. many at (omega (arith, le)) ∙ later-takes slot at left lefts (omega (arith, le)))
      (λ it among. members it (contains-tail (init slot left) (at_slots one_init (slot + 1) lefts) it among))
      (λ it reading among.
      arms it reading
      (later_arm (is_named field) (arm slot field) (arms_from (suc slot) fields) it (subst (λ n. Contains (arms_from n fields) it) (next slot) among))))
