-- Where nothing stands first in the text against a program, nothing stands against it.
use Rattle.std.proofs.Common.{◌≡◌, ◌∙◌, Bool, true, false, List, Option, Some, None, refl, sym, ap}
use Rattle.std.specs.Prelude.{slice_get}
use Rattle.tok_types.specs.declared.span.Span.{Span}
use Rattle.machine_forms.specs.Places.{earliest, earliest_of}
use Rattle.machine_forms.specs.Refusals.{first, first_in_text, first_row}
use Rattle.machine_forms.specs.declared.refusals.Refusals.{Refusals}
use Rattle.codegen_core.specs.declared.form.Unsupported.{Unsupported}
use Rattle.run_accepted.proofs.PlaceLemmas.{none_first}

-- where no row is first, none has a place
pub no_rows : (name : Option Span) (form : Option Unsupported) (type callable : Option Span) (has_receiver : Bool)
    → first_row name form type callable has_receiver ≡ None → (name ≡ None) × (form ≡ None) × (type ≡ None) × (callable ≡ None)
no_rows (Some name) form type callable has_receiver none = absurd (cc)
no_rows None (Some form) type callable has_receiver none = absurd (cc)
no_rows None None (Some type) callable has_receiver none = absurd (cc)
no_rows None None None (Some callable) has_receiver none = absurd (cc)
no_rows None None None None has_receiver none = (refl, refl, refl, refl)

-- the thing that is listed first, where none starts first
listed : {A : Type 0} (span_of : A → Span) (things : List A) → earliest_of span_of things ≡ None → slice_get things 0 ≡ earliest_of span_of things
listed span_of things none = ap (λ its. slice_get its 0) (none_first span_of things none) ∙ sym none

pub none_listed : (it : Refusals) → first_in_text it ≡ None → first it ≡ None
none_listed it none =
    let rows = no_rows _ _ _ _ _ none in
    let place = λ (span : Span). span in
    let names = listed place it.duplicate_names rows.0 in
    let forms = listed (λ (it : Unsupported). it.span) it.unsupported rows.1 in
    let types = listed place it.unknown_types rows.2 in
    let callables = listed place it.unknown_callables rows.3 in
    (λ k. first_row (names k) (forms k) (types k) (callables k) it.has_receiver) ∙ none

-- where nothing stands against a program, it has a receiver
row_receives : (name : Option Span) (form : Option Unsupported) (type callable : Option Span) (has : Bool)
    → first_row name form type callable has ≡ None → has ≡ true
row_receives (Some it) form type callable has none = cc
row_receives None (Some it) type callable has none = cc
row_receives None None (Some it) callable has none = cc
row_receives None None None (Some it) has none = cc
row_receives None None None None true none = refl
row_receives None None None None false none = cc

pub has_receiver : (it : Refusals) → first_in_text it ≡ None → it.has_receiver ≡ true
has_receiver it none =
    row_receives (earliest it.duplicate_names) (earliest_of (λ it. it.span) it.unsupported) (earliest it.unknown_types) (earliest it.unknown_callables)
    it.has_receiver none
