-- Bytes have a report or are refused, in one way.
use Rattle.std.proofs.Common.{◌≡◌, ◌+◌, ◌⊎◌, ◌∙◌, ℕ, suc, List, [], ◌∷◌, Option, Some, None, IfSome, refl, sym, ap, subst, inl, inr, arith}
use Rattle.std.specs.Option.{option_to_list}
use Rattle.run_source.specs.HostSays.{HostSays}
use Rattle.run_parts.specs.Parts.{divider_count}
use Rattle.run_parts.proofs.Division.{IsDivision-unique, length-IsDivision}
use Rattle.run_source.specs.Source.{AreRefused, AreRunnable}
use Rattle.run_source.proofs.SourceLemmas as texts
use Rattle.run_source.proofs.SourceLemmas.{AreRefused-unique, not_none, two_values}
use Rattle.run_source.specs.Values.{Rules}
use Rattle.darling_run.specs.declared.status.Status.{Status}
use Rattle.darling_run.specs.declared.status.Status.TheVariants.{Done, Usage, ReadFault, TooLong, NotText, NoParts, BadTable, TooDeep, Syntax, Unbuilt, DuplicateName, Rejected, Unsupported, UnknownType, UnknownCallable, NoReceiver, WriteFault, NoMemory}
use Rattle.run_source.specs.declared.report.Report.{Report}
use Rattle.darling_run.specs.Input.{AreParts, AreTexts, IsBadTable, IsRefused, IsReport, IsRunnable, IsStopped, bad_line_in, rows_in}
use Rattle.darling_run.specs.Status.{status_of}

-- a fact of the value of an option that there is
pub IfSome-at : {A : Type 0} (o : Option A) (x : A) (P : A → Type 0) → o ≡ Some x → IfSome o P → P x
IfSome-at o x P e h = let Q : Option _ → Type 0 = λ p. IfSome p P in subst Q e h

first_same : {A : Type 0} {x y : A} {xs ys : List A} → x ∷ xs ≡ y ∷ ys → x ≡ y
first_same e = cc

rest_same : {A : Type 0} {x y : A} {xs ys : List A} → x ∷ xs ≡ y ∷ ys → xs ≡ ys
rest_same e = cc

third_same : (one other : Option (List ℕ)) → option_to_list one ≡ option_to_list other → one ≡ other
third_same None None e = refl
third_same None (Some third) e = cc
third_same (Some third) None e = cc
third_same (Some third) (Some more) e = ap Some (first_same e)

-- ---- bytes have their parts in one way

-- two parts have one divider between them, and three have two
dividers : (bytes first second : List ℕ) (third : Option (List ℕ)) → AreParts bytes first second third → (divider_count bytes ≡ 1) ⊎ (divider_count bytes ≡ 2)
dividers bytes first second None it =
    let count : suc (suc 0) ≡ divider_count bytes + 1 = length-IsDivision bytes (first ∷ second ∷ []) it.division in
    inl (omega (arith, count))
dividers bytes first second (Some third) it =
    let count : suc (suc (suc 0)) ≡ divider_count bytes + 1 = length-IsDivision bytes (first ∷ second ∷ third ∷ []) it.division in
    inr (omega (arith, count))

module _ (bytes first second : List ℕ) (third : Option (List ℕ)) (a b : List ℕ) (c : Option (List ℕ)) (one : AreParts bytes first second third) (other : AreParts bytes a b c) where
  parts_same : first ∷ second ∷ option_to_list third ≡ a ∷ b ∷ option_to_list c
  parts_same = IsDivision-unique bytes (first ∷ second ∷ option_to_list third) (a ∷ b ∷ option_to_list c) one.division other.division

  same_first : first ≡ a
  same_first = first_same parts_same

  same_second : second ≡ b
  same_second = first_same (rest_same parts_same)

  same_third : third ≡ c
  same_third = third_same third c (rest_same (rest_same parts_same))

module _ (bytes first second : List ℕ) (rules : Rules) (a b : List ℕ) (rows : Rules) (one : AreTexts bytes first second rules) (other : AreTexts bytes a b rows) where
  text_first : first ≡ a
  text_first = same_first bytes first second one.third a b other.third one.parts other.parts

  text_second : second ≡ b
  text_second = same_second bytes first second one.third a b other.third one.parts other.parts

  text_rules : rules ≡ rows
  text_rules = one.rows ∙ ap rows_in (same_third bytes first second one.third a b other.third one.parts other.parts) ∙ sym other.rows

  -- what is so of the one texts is so of the other
  moved : (P : Rules → List ℕ → List ℕ → Type 0) → P rules first second → P rows a b
  moved P is =
      let on_rules : Rules → Type 0 = λ it. P it first second in
      let on_first : List ℕ → Type 0 = λ it. P rows it second in
      let on_second : List ℕ → Type 0 = λ it. P rows a it in
      subst on_second text_second (subst on_first text_first (subst on_rules text_rules is))

-- ---- bytes are refused in one way

module _ (host : HostSays) (bytes : List ℕ) where
  -- why bytes are refused: they are no text, have no parts, a bad table, or texts that can't be run
  data Refusal (status : Status) : Type 0 where
    by_text : (at : ℕ) → IsRefused host bytes (NotText at) → status ≡ NotText at → Refusal status
    by_parts : IsRefused host bytes NoParts → status ≡ NoParts → Refusal status
    by_table : (line : ℕ) → IsBadTable bytes line → status ≡ BadTable line → Refusal status
    by_texts : IsStopped host bytes status → Refusal status

  refusal_of : (status : Status) → IsRefused host bytes status → Refusal status
  refusal_of (NotText at) is = by_text at is refl
  refusal_of NoParts is = by_parts is refl
  refusal_of (BadTable line) is = by_table line is refl
  refusal_of (TooDeep number at) is = by_texts is
  refusal_of (Syntax number at) is = by_texts is
  refusal_of (Unbuilt span) is = by_texts is
  refusal_of (DuplicateName span) is = by_texts is
  refusal_of (Rejected it) is = by_texts is
  refusal_of (Unsupported form span) is = by_texts is
  refusal_of (UnknownType span) is = by_texts is
  refusal_of (UnknownCallable span) is = by_texts is
  refusal_of NoReceiver is = by_texts is
  refusal_of Done is = absurd is
  refusal_of Usage is = absurd is
  refusal_of ReadFault is = absurd is
  refusal_of TooLong is = absurd is
  refusal_of WriteFault is = absurd is
  refusal_of NoMemory is = absurd is

  -- a table that is bad is not good
  bad_or_good : (line : ℕ) (first second : List ℕ) (rules : Rules) → IsBadTable bytes line → AreTexts bytes first second rules → ⊥
  bad_or_good line first second rules a b =
      not_none (bad_line_in a.third) line (ap bad_line_in (same_third bytes a.first a.second a.third first second b.third a.parts b.parts) ∙ b.good) a.bad

  bad_same : (line more : ℕ) → IsBadTable bytes line → IsBadTable bytes more → line ≡ more
  bad_same line more a b =
      two_values (bad_line_in a.third) line more a.bad
      (ap bad_line_in (same_third bytes a.first a.second a.third b.first b.second b.third a.parts b.parts) ∙ b.bad)

  stopped_same : (one other : Status) → IsStopped host bytes one → IsStopped host bytes other → one ≡ other
  stopped_same one other a b =
      let P : Rules → List ℕ → List ℕ → Type 0 = λ rules first second. AreRefused host rules first second a.error in
      let refused = moved bytes a.first a.second a.rules b.first b.second b.rules a.texts b.texts P a.refused in
      a.told ∙ ap status_of (AreRefused-unique host b.rules b.first b.second a.error b.error refused b.refused) ∙ sym b.told

  refusal_same : (one other : Status) → Refusal one → Refusal other → one ≡ other
  refusal_same one other (by_text at is e) (by_text to are f) = e ∙ ap NotText (is.1 ∙ sym are.1) ∙ sym f
  refusal_same one other (by_text at is e) (by_parts are f) = absurd (is.0 are.0)
  refusal_same one other (by_text at is e) (by_table line are f) = absurd (is.0 are.parts.utf8)
  refusal_same one other (by_text at is e) (by_texts are) = absurd (is.0 are.texts.parts.utf8)
  refusal_same one other (by_parts is e) (by_text at are f) = absurd (are.0 is.0)
  refusal_same one other (by_parts is e) (by_parts are f) = e ∙ sym f
  refusal_same one other (by_parts is e) (by_table line are f) = absurd (is.1 (dividers bytes are.first are.second are.third are.parts))
  refusal_same one other (by_parts is e) (by_texts are) = absurd (is.1 (dividers bytes are.first are.second are.texts.third are.texts.parts))
  refusal_same one other (by_table line is e) (by_text at are f) = absurd (are.0 is.parts.utf8)
  refusal_same one other (by_table line is e) (by_parts are f) = absurd (are.1 (dividers bytes is.first is.second is.third is.parts))
  refusal_same one other (by_table line is e) (by_table more are f) = e ∙ ap BadTable (bad_same line more is are) ∙ sym f
  refusal_same one other (by_table line is e) (by_texts are) = absurd (bad_or_good line are.first are.second are.rules is are.texts)
  refusal_same one other (by_texts is) (by_text at are f) = absurd (are.0 is.texts.parts.utf8)
  refusal_same one other (by_texts is) (by_parts are f) = absurd (are.1 (dividers bytes is.first is.second is.texts.third is.texts.parts))
  refusal_same one other (by_texts is) (by_table line are f) = absurd (bad_or_good line is.first is.second is.rules are is.texts)
  refusal_same one other (by_texts is) (by_texts are) = stopped_same one other is are

  pub IsRefused-unique : (one other : Status) → IsRefused host bytes one → IsRefused host bytes other → one ≡ other
  IsRefused-unique one other a b = refusal_same one other (refusal_of one a) (refusal_of other b)

  -- bytes that have a report are not refused
  not_both : (status : Status) → IsRunnable host bytes → Refusal status → ⊥
  not_both status is (by_text at are e) = are.0 is.texts.parts.utf8
  not_both status is (by_parts are e) = are.1 (dividers bytes is.first is.second is.texts.third is.texts.parts)
  not_both status is (by_table line are e) = bad_or_good line is.first is.second is.rules are is.texts
  not_both status is (by_texts are) =
      let P : Rules → List ℕ → List ℕ → Type 0 = λ rules first second. AreRunnable host rules first second in
      texts.runnable_is_not_refused host are.rules are.first are.second are.error
      (moved bytes is.first is.second is.rules are.first are.second are.rules is.texts are.texts P is.runnable) are.refused

  pub runnable_is_not_refused : (status : Status) → IsRunnable host bytes → IsRefused host bytes status → ⊥
  runnable_is_not_refused status is refused = not_both status is (refusal_of status refused)

  -- a report is one of bytes that have one
  pub report_is_runnable : (report : Report) → IsReport host bytes report → IsRunnable host bytes
  report_is_runnable report is =
      record {
        first = is.first;
        second = is.second;
        rules = is.rules;
        texts = is.texts;
        runnable = record { decls = report.declarations; subjects = report.subjects; program = report.program; read = is.is_report.read; is_program = is.is_report.run.is_program };
      }
