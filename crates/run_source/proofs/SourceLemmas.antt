-- Two texts have a report or are refused, in one way.
use Rattle.std.proofs.Common.{◌≡◌, ◌⊎◌, ◌∙◌, ℕ, List, Option, Some, None, refl, sym, ap, subst, inl, inr}
use Rattle.tok_types.specs.declared.span.Span.{Span}
use Rattle.node_core.specs.declared.derive.DeriveInput.{DeriveInput}
use Rattle.codegen_program.specs.declared.program.Program.{Program}
use Rattle.codegen_core.specs.declared.form.Unsupported.{Unsupported}
use Rattle.law_options.specs.HostSays.{HostSays}
use Rattle.law_options.specs.Unfit.{Unfit}
use Rattle.law_options.specs.Unfit.TheVariants as unfit
use Rattle.law_options.specs.Values.{Rules}
use Rattle.run_accepted.specs.Pairs.{pairs_from, rejected}
use Rattle.run_accepted.specs.declared.rejected.Rejected.{Rejected}
use Rattle.run_accepted.specs.Accepted as accepted
use Rattle.run_accepted.specs.Accepted.{IsAccepted, IsUnfit, ShowsForm, duplicate, unfitness}
use Rattle.run_accepted.specs.Forms.{first_form}
use Rattle.run_accepted.specs.declared.error.RunError.{RunError}
use Rattle.run_accepted.specs.declared.error.RunError.TheVariants as error
use Rattle.law_options.proofs.OneProgram.{program_is_one}
use Rattle.run_source.specs.Source.{AreItems, AreNoItems, AreRefused, AreRunnable, IsProgramOf, IsRefused, first_unbuilt, told}
use Rattle.run_source.specs.declared.part.Part.{Part}
use Rattle.run_source.specs.declared.part.Part.TheVariants as part
use Rattle.run_source.proofs.PartLemmas.{IsPart-unique}

some_same : {A : Type 0} {x y : A} → Some x ≡ Some y → x ≡ y
some_same e = cc

pub not_none : {A : Type 0} (it : Option A) (x : A) → it ≡ None → it ≡ Some x → ⊥
not_none it x none some = let clash : None ≡ Some x = sym none ∙ some in cc

pub two_values : {A : Type 0} (it : Option A) (x y : A) → it ≡ Some x → it ≡ Some y → x ≡ y
two_values it x y one other = some_same (sym one ∙ other)

items_same : (one other : List DeriveInput) → ◌≡◌ {A = Part} (part.Items one) (part.Items other) → one ≡ other
items_same one other e = cc

-- ---- texts

decls_same : (first second : List ℕ) (decls subjects ds ss : List DeriveInput) → AreItems first second decls subjects → AreItems first second ds ss → decls ≡ ds
decls_same first second decls subjects ds ss a b = items_same decls ds (IsPart-unique 0 first (part.Items decls) (part.Items ds) a.is_first b.is_first)

-- texts that are items are not refused as none
items_are_items : (first second : List ℕ) (decls subjects : List DeriveInput) (it : RunError) → AreItems first second decls subjects → AreNoItems first second it → ⊥
items_are_items first second decls subjects it a b =
    let one = IsPart-unique 0 first b.first_part (part.Items decls) b.is_first a.is_first in
    let other = IsPart-unique 1 second b.second_part (part.Items subjects) b.is_second a.is_second in
    not_none (told (part.Items decls) (part.Items subjects)) it refl (ap (λ p. told p (part.Items subjects)) (sym one) ∙ ap (λ p. told b.first_part p) (sym other) ∙ b.is_told)

no_items_same : (first second : List ℕ) (one other : RunError) → AreNoItems first second one → AreNoItems first second other → one ≡ other
no_items_same first second one other a b =
    let e = IsPart-unique 0 first a.first_part b.first_part a.is_first b.is_first in
    let f = IsPart-unique 1 second a.second_part b.second_part a.is_second b.is_second in
    two_values (told a.first_part a.second_part) one other a.is_told
    (ap (λ p. told p a.second_part) e ∙ ap (λ p. told b.first_part p) f ∙ b.is_told)

-- ---- declarations

module _ (host : HostSays) (rules : Rules) (decls : List DeriveInput) where
  -- one thing stands first against the program
  unfit_same : (one other : Unfit) → IsUnfit host rules decls one → IsUnfit host rules decls other → one ≡ other
  unfit_same one other a b =
      two_values (unfitness host a.program) one other a.unfit
      (ap (unfitness host) (program_is_one rules decls a.program b.program a.sound.compiled b.sound.compiled) ∙ b.unfit)

  -- a program that can be run has nothing against it
  not_unfit : (program : Program) (it : Unfit) → IsAccepted host rules decls program → IsUnfit host rules decls it → ⊥
  not_unfit program it a b =
      not_none (unfitness host program) it a.fits
      (ap (unfitness host) (program_is_one rules decls program b.program a.sound.compiled b.sound.compiled) ∙ b.unfit)

  -- why declarations are not accepted: a name, options, or the program
  data Cause (it : RunError) : Type 0 where
    by_name : (span : Span) → duplicate decls ≡ Some span → it ≡ error.DuplicateName span → Cause it
    by_options : (found : Rejected) → duplicate decls ≡ None → rejected rules (pairs_from 0 decls) ≡ Some found → it ≡ error.Rejected found → Cause it
    by_shown : (found : Unsupported) → ShowsForm rules decls found → it ≡ error.Unsupported found.form found.span → Cause it
    by_program : (found : Unfit) → IsUnfit host rules decls found → it ≡ accepted.error_of found → Cause it

  cause_of : (it : RunError) → accepted.IsRefused host rules decls it → Cause it
  cause_of (error.DuplicateName span) is = by_name span is refl
  cause_of (error.Rejected found) is = by_options found is.0 is.1 refl
  cause_of (error.Unsupported form span) (inl shown) = by_shown (record { form = form; span = span }) shown refl
  cause_of (error.Unsupported form span) (inr is) = by_program (unfit.Unsupported form span) is refl
  cause_of (error.UnknownType span) is = by_program (unfit.UnknownType span) is refl
  cause_of (error.UnknownCallable span) is = by_program (unfit.UnknownCallable span) is refl
  cause_of error.NoReceiver is = by_program unfit.NoReceiver is refl
  cause_of (error.TooDeep number at) is = absurd is
  cause_of (error.Syntax number at) is = absurd is
  cause_of (error.Unbuilt span) is = absurd is
  cause_of error.NoMemory is = absurd is

  cause_same : (one other : RunError) → Cause one → Cause other → one ≡ other
  cause_same one other (by_name span name e) (by_name at same f) = e ∙ ap error.DuplicateName (two_values (duplicate decls) span at name same) ∙ sym f
  cause_same one other (by_name span name e) (by_options found none options f) = absurd (not_none (duplicate decls) span none name)
  cause_same one other (by_name span name e) (by_shown found shown f) = absurd (not_none (duplicate decls) span shown.single name)
  cause_same one other (by_name span name e) (by_program found is f) = absurd (not_none (duplicate decls) span is.sound.single name)
  cause_same one other (by_options found none options e) (by_name span name f) = absurd (not_none (duplicate decls) span none name)
  cause_same one other (by_options found none options e) (by_options more too same f) = e ∙ ap error.Rejected (two_values (rejected rules (pairs_from 0 decls)) found more options same) ∙ sym f
  cause_same one other (by_options found none options e) (by_shown more shown f) =
      absurd (not_none (rejected rules (pairs_from 0 decls)) found shown.options options)
  cause_same one other (by_options found none options e) (by_program more is f) = absurd (not_none (rejected rules (pairs_from 0 decls)) found is.sound.options options)
  cause_same one other (by_shown found shown e) (by_name span name f) = absurd (not_none (duplicate decls) span shown.single name)
  cause_same one other (by_shown found shown e) (by_options more none options f) =
      absurd (not_none (rejected rules (pairs_from 0 decls)) more shown.options options)
  cause_same one other (by_shown found shown e) (by_shown more also f) =
      e ∙ ap (λ (it : Unsupported). error.Unsupported it.form it.span) (two_values (first_form rules decls) found more shown.first also.first) ∙ sym f
  cause_same one other (by_shown found shown e) (by_program more is f) = absurd (not_none (first_form rules decls) found is.sound.supported shown.first)
  cause_same one other (by_program found is e) (by_shown more shown f) = absurd (not_none (first_form rules decls) more is.sound.supported shown.first)
  cause_same one other (by_program found is e) (by_name span name f) = absurd (not_none (duplicate decls) span is.sound.single name)
  cause_same one other (by_program found is e) (by_options more none options f) = absurd (not_none (rejected rules (pairs_from 0 decls)) more is.sound.options options)
  cause_same one other (by_program found is e) (by_program more are f) = e ∙ ap accepted.error_of (unfit_same found more is are) ∙ sym f

  -- accepted declarations have no cause to be refused
  no_cause : (program : Program) (it : RunError) → IsAccepted host rules decls program → Cause it → ⊥
  no_cause program it is (by_name span name e) = not_none (duplicate decls) span is.sound.single name
  no_cause program it is (by_options found none options e) = not_none (rejected rules (pairs_from 0 decls)) found is.sound.options options
  no_cause program it is (by_shown found shown e) = not_none (first_form rules decls) found is.sound.supported shown.first
  no_cause program it is (by_program found are e) = not_unfit program found is are

  -- a form that no run reads is told, or the declarations are not accepted
  by_form : (it : RunError) → IsRefused host rules decls it
      → ((span : Span) × (first_unbuilt decls ≡ Some span) × (it ≡ error.Unbuilt span)) ⊎ ((first_unbuilt decls ≡ None) × accepted.IsRefused host rules decls it)
  by_form (error.Unbuilt span) is = inl (span, is, refl)
  by_form (error.DuplicateName span) is = inr is
  by_form (error.Rejected found) is = inr is
  by_form (error.Unsupported form span) is = inr is
  by_form (error.UnknownType span) is = inr is
  by_form (error.UnknownCallable span) is = inr is
  by_form error.NoReceiver is = inr is
  by_form (error.TooDeep number at) is = inr is
  by_form (error.Syntax number at) is = inr is
  by_form error.NoMemory is = inr is

  refused_same : (one other : RunError) → IsRefused host rules decls one → IsRefused host rules decls other → one ≡ other
  refused_same one other a b = by_forms (by_form one a) (by_form other b)
    where
      by_forms : ((span : Span) × (first_unbuilt decls ≡ Some span) × (one ≡ error.Unbuilt span)) ⊎ ((first_unbuilt decls ≡ None) × accepted.IsRefused host rules decls one)
          → ((span : Span) × (first_unbuilt decls ≡ Some span) × (other ≡ error.Unbuilt span)) ⊎ ((first_unbuilt decls ≡ None) × accepted.IsRefused host rules decls other)
          → one ≡ other
      by_forms (inl (span, is, e)) (inl (at, are, f)) = e ∙ ap error.Unbuilt (two_values (first_unbuilt decls) span at is are) ∙ sym f
      by_forms (inl (span, is, e)) (inr (none, are)) = absurd (not_none (first_unbuilt decls) span none is)
      by_forms (inr (none, is)) (inl (span, are, f)) = absurd (not_none (first_unbuilt decls) span none are)
      by_forms (inr (none, is)) (inr (too, are)) = cause_same one other (cause_of one is) (cause_of other are)

  -- declarations of a program that can be run are not refused
  program_is_not_refused : (program : Program) (it : RunError) → IsProgramOf host rules decls program → IsRefused host rules decls it → ⊥
  program_is_not_refused program it is refused = by_cause (by_form it refused)
    where
      by_cause : ((span : Span) × (first_unbuilt decls ≡ Some span) × (it ≡ error.Unbuilt span)) ⊎ ((first_unbuilt decls ≡ None) × accepted.IsRefused host rules decls it) → ⊥
      by_cause (inl (span, are, e)) = not_none (first_unbuilt decls) span is.built are
      by_cause (inr (none, are)) = no_cause program it is.accepted (cause_of it are)

-- ---- runs

module _ (host : HostSays) (rules : Rules) (first second : List ℕ) where
  -- two texts are refused in one way
  pub AreRefused-unique : (one other : RunError) → AreRefused host rules first second one → AreRefused host rules first second other → one ≡ other
  AreRefused-unique one other (inl a) (inl b) = no_items_same first second one other a b
  AreRefused-unique one other (inl a) (inr b) = absurd (items_are_items first second b.decls b.subjects one b.read a)
  AreRefused-unique one other (inr a) (inl b) = absurd (items_are_items first second a.decls a.subjects other a.read b)
  AreRefused-unique one other (inr a) (inr b) =
      let P : List DeriveInput → Type 0 = λ decls. IsRefused host rules decls one in
      refused_same host rules b.decls one other (subst P (decls_same first second a.decls a.subjects b.decls b.subjects a.read b.read) a.refused) b.refused

  -- texts that have a report are not refused
  pub runnable_is_not_refused : (it : RunError) → AreRunnable host rules first second → AreRefused host rules first second it → ⊥
  runnable_is_not_refused it is (inl missing) = items_are_items first second is.decls is.subjects it is.read missing
  runnable_is_not_refused it is (inr stopped) =
      let P : List DeriveInput → Type 0 = λ decls. IsRefused host rules decls it in
      program_is_not_refused host rules is.decls is.program it is.is_program
      (subst P (sym (decls_same first second is.decls is.subjects stopped.decls stopped.subjects is.read stopped.read)) stopped.refused)
