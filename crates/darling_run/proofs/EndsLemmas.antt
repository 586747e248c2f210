-- How a run ends, from its answer and from how that was written.
use Rattle.std.proofs.Common.{◌≡◌, ◌<◌, ◌≤◌, ◌⊎◌, ℕ, List, [], length, Option, Some, None, IfSome, Result, Ok, Err, refl, sym, ap, ◌∙◌, subst, inl, inr, arith}
use Rattle.edge_core.specs.Faults.{HasRisen}
use Rattle.run_source.specs.HostSays.{HostSays}
use Rattle.darling_run.specs.declared.status.Status.{Status}
use Rattle.darling_run.specs.declared.status.Status.TheVariants.{Done, Usage, ReadFault, TooLong, NotText, NoParts, BadTable, TooDeep, Syntax, Unbuilt, DuplicateName, Rejected, Unsupported, UnknownType, UnknownCallable, NoReceiver, WriteFault, NoMemory}
use Rattle.run_source.specs.declared.report.Report.{Report}
use Rattle.darling_run.specs.declared.tool.Ended.{Ended}
use Rattle.darling_run.specs.Status.{refusal_text}
use Rattle.darling_run.specs.Report.{report_text}
use Rattle.darling_run.specs.Input.{IsRefused, IsRunnable}
use Rattle.darling_run.specs.Ended.{limit, IsRunCommand, Reading, Writing, WereRead, Causes, Reports, Answered, text_of, status_of, report_of, Wrote, WrotePrefix, IsWritten, in_full, in_part, not_at_all, EndsAs, Ends}
use Rattle.darling_run.proofs.InputLemmas.{IfSome-at, IsRefused-unique, report_is_runnable, runnable_is_not_refused}

-- a fact of the value of an option, from a fact of each value that it may have
IfSome-from : {A : Type 0} (o : Option A) (P : A → Type 0) → ((x : A) → o ≡ Some x → P x) → IfSome o P
IfSome-from (Some x) P f = f x refl
IfSome-from None P f = tt

module _ (host : HostSays) (words : List (List ℕ)) (reading : Reading) where
  -- the answer is this status, or memory ran out, or the source failed
  abbrev AnswersAs : Result Report Status → Status → Type 0
  AnswersAs answer status =
      (status_of answer ≡ status)
      ⊎ ((status_of answer ≡ NoMemory)
      ⊎ ((status_of answer ≡ ReadFault) × HasRisen reading.faults reading.faults_after))

  -- why there is no report
  data Cause (status : Status) : Type 0 where
    by_words : status ≡ Usage → ¬ IsRunCommand words → Cause status
    by_source : IsRunCommand words → status ≡ ReadFault → HasRisen reading.faults reading.faults_after → Cause status
    by_length : IsRunCommand words → status ≡ TooLong → IfSome reading.left (λ told. limit < length told) → Cause status
    by_bytes : IsRunCommand words → (bytes : List ℕ) → WereRead reading bytes → IsRefused host bytes status → Cause status
    by_memory : status ≡ NoMemory → Cause status

  cause_of : (status : Status) → Causes host words reading status → Cause status
  cause_of Usage is = by_words refl is.0
  cause_of ReadFault is = by_source is.0 refl is.1
  cause_of TooLong is = by_length is.0 refl is.1
  cause_of NoMemory is = by_memory refl
  cause_of (NotText at) is = by_bytes is.0 is.1.0 is.1.1 is.1.2
  cause_of NoParts is = by_bytes is.0 is.1.0 is.1.1 is.1.2
  cause_of (BadTable line) is = by_bytes is.0 is.1.0 is.1.1 is.1.2
  cause_of (TooDeep number at) is = by_bytes is.0 is.1.0 is.1.1 is.1.2
  cause_of (Syntax number at) is = by_bytes is.0 is.1.0 is.1.1 is.1.2
  cause_of (Unbuilt span) is = by_bytes is.0 is.1.0 is.1.1 is.1.2
  cause_of (DuplicateName span) is = by_bytes is.0 is.1.0 is.1.1 is.1.2
  cause_of (Rejected it) is = by_bytes is.0 is.1.0 is.1.1 is.1.2
  cause_of (Unsupported form span) is = by_bytes is.0 is.1.0 is.1.1 is.1.2
  cause_of (UnknownType span) is = by_bytes is.0 is.1.0 is.1.1 is.1.2
  cause_of (UnknownCallable span) is = by_bytes is.0 is.1.0 is.1.1 is.1.2
  cause_of NoReceiver is = by_bytes is.0 is.1.0 is.1.1 is.1.2
  cause_of Done is = absurd is.1.2
  cause_of WriteFault is = absurd is.1.2

  told_is_read : (told bytes : List ℕ) → reading.left ≡ Some told → WereRead reading bytes → told ≡ bytes
  told_is_read told bytes e read =
      (IfSome-at reading.left told (λ left. (left ≡ bytes) × (reading.left_after ≡ Some [])) e read.1).0

  not_long : (told bytes : List ℕ) → reading.left ≡ Some told → WereRead reading bytes → limit < length told → ⊥
  not_long told bytes e read long =
      let P : List ℕ → Type 0 = λ xs. limit < length xs in
      let longer : limit < length bytes = subst P (told_is_read told bytes e read) long in
      omega (arith, longer, read.0)

  refused_as : (told bytes : List ℕ) (status : Status) → reading.left ≡ Some told → WereRead reading bytes → IsRefused host bytes status → IsRefused host told status
  refused_as told bytes status e read r =
      let P : List ℕ → Type 0 = λ xs. IsRefused host xs status in subst P (sym (told_is_read told bytes e read)) r

  runnable_as : (told bytes : List ℕ) → reading.left ≡ Some told → WereRead reading bytes → IsRunnable host told → IsRunnable host bytes
  runnable_as told bytes e read r =
      let P : List ℕ → Type 0 = λ xs. IsRunnable host xs in subst P (told_is_read told bytes e read) r

  -- the words are another command
  usage_by : (status : Status) → ¬ IsRunCommand words → Cause status → AnswersAs (Err status) Usage
  usage_by status words_differ (by_words e other) = inl e
  usage_by status words_differ (by_source also e risen) = absurd (words_differ also)
  usage_by status words_differ (by_length also e is) = absurd (words_differ also)
  usage_by status words_differ (by_bytes also bytes read r) = absurd (words_differ also)
  usage_by status words_differ (by_memory e) = inr (inl e)

  usage_of : (answer : Result Report Status) → Answered host words reading answer → ¬ IsRunCommand words → AnswersAs answer Usage
  usage_of (Ok report) a words_differ = absurd (words_differ a.0)
  usage_of (Err status) a words_differ = usage_by status words_differ (cause_of status a)

  module _ (run : IsRunCommand words) (told : List ℕ) (left : reading.left ≡ Some told) where
    short : length told ≤ limit → IfSome reading.left (λ it. limit < length it) → ⊥
    short within long =
        let longer : limit < length told = IfSome-at reading.left told (λ it. limit < length it) left long in
        omega (arith, longer, within)

    too_long_by : (status : Status) → limit < length told → Cause status → AnswersAs (Err status) TooLong
    too_long_by status long (by_words e words_differ) = absurd (words_differ run)
    too_long_by status long (by_source also e risen) = inr (inr (e, risen))
    too_long_by status long (by_length also e is) = inl e
    too_long_by status long (by_bytes also bytes read r) = absurd (not_long told bytes left read long)
    too_long_by status long (by_memory e) = inr (inl e)

    too_long_of : (answer : Result Report Status) → Answered host words reading answer → limit < length told → AnswersAs answer TooLong
    too_long_of (Ok report) a long = absurd (not_long told a.1.0 left a.1.1 long)
    too_long_of (Err status) a long = too_long_by status long (cause_of status a)

    refuses_by : (status other : Status) → length told ≤ limit → IsRefused host told other → Cause status → AnswersAs (Err status) other
    refuses_by status other within r (by_words e words_differ) = absurd (words_differ run)
    refuses_by status other within r (by_source also e risen) = inr (inr (e, risen))
    refuses_by status other within r (by_length also e long) = absurd (short within long)
    refuses_by status other within r (by_bytes also bytes read is) = inl (IsRefused-unique host told status other (refused_as told bytes status left read is) r)
    refuses_by status other within r (by_memory e) = inr (inl e)

    refuses_of : (answer : Result Report Status) → Answered host words reading answer → length told ≤ limit
        → (status : Status) → IsRefused host told status → AnswersAs answer status
    refuses_of (Ok report) a within status r =
        let P : List ℕ → Type 0 = λ xs. IsRefused host xs status in
        absurd (runnable_is_not_refused host a.1.0 status (report_is_runnable host a.1.0 report a.1.2) (subst P (told_is_read told a.1.0 left a.1.1) r))
    refuses_of (Err it) a within status r = refuses_by it status within r (cause_of it a)

    complete_by : (status : Status) → length told ≤ limit → IsRunnable host told → Cause status → AnswersAs (Err status) Done
    complete_by status within is (by_words e words_differ) = absurd (words_differ run)
    complete_by status within is (by_source also e risen) = inr (inr (e, risen))
    complete_by status within is (by_length also e long) = absurd (short within long)
    complete_by status within is (by_bytes also bytes read r) = absurd (runnable_is_not_refused host bytes status (runnable_as told bytes left read is) r)
    complete_by status within is (by_memory e) = inr (inl e)

    complete_of : (answer : Result Report Status) → Answered host words reading answer → length told ≤ limit → IsRunnable host told → AnswersAs answer Done
    complete_of (Ok report) a within is = inl refl
    complete_of (Err status) a within is = complete_by status within is (cause_of status a)

  module _ (writing : Writing) (ended : Ended) where
    status_is : (status : Status) (report : Option Report) → ended ≡ record { status = status; report = report } → ended.status ≡ status
    status_is status report e = ap (λ (it : Ended). it.status) e

    report_is : (status : Status) (report : Option Report) → ended ≡ record { status = status; report = report } → ended.report ≡ report
    report_is status report e = ap (λ (it : Ended). it.report) e

    -- two statuses of one end
    clash : (one other : Status) → ended.status ≡ one → ended.status ≡ other → one ≡ other
    clash one other p q = sym p ∙ q

    ends_as : (answer : Result Report Status) (status : Status) → AnswersAs answer status → IsWritten writing answer ended → EndsAs reading writing ended status
    ends_as answer status (inl p) (in_full e n w) = inl (status_is (status_of answer) (report_of answer) e ∙ p)
    ends_as answer status (inr (inl p)) (in_full e n w) = inr (inl (status_is (status_of answer) (report_of answer) e ∙ p))
    ends_as answer status (inr (inr p)) (in_full e n w) = inr (inr (inl (status_is (status_of answer) (report_of answer) e ∙ p.0, p.1)))
    ends_as answer status a (in_part e r w) = inr (inr (inr (status_is WriteFault (report_of answer) e, r)))
    ends_as answer status a (not_at_all e s) = inr (inl (status_is NoMemory None e))

    done_of : (answer : Result Report Status) → Answered host words reading answer → IsWritten writing answer ended → ended.status ≡ Done
        → (report : Report) × (ended.report ≡ Some report) × Reports host words reading report × Wrote writing (report_text report.subjects report.outcomes)
    done_of (Ok report) a (in_full e n w) p = (report, report_is Done (Some report) e, a, w)
    done_of (Err status) a (in_full e n w) p = absurd ((subst (Causes host words reading) (clash status Done (status_is status None e) p) a).1.2)
    done_of answer a (in_part e r w) p = let h : WriteFault ≡ Done = clash WriteFault Done (status_is WriteFault (report_of answer) e) p in cc
    done_of answer a (not_at_all e s) p = let h : NoMemory ≡ Done = clash NoMemory Done (status_is NoMemory None e) p in cc

    refused_of : (answer : Result Report Status) → Answered host words reading answer → IsWritten writing answer ended
        → (ended.status ≡ Done → ⊥) → (ended.status ≡ WriteFault → ⊥) → (ended.status ≡ NoMemory → ⊥)
        → (ended.report ≡ None) × Causes host words reading ended.status × Wrote writing (refusal_text ended.status)
    refused_of (Ok report) a (in_full e n w) nd nw nm = absurd (nd (status_is Done (Some report) e))
    refused_of (Err status) a (in_full e n w) nd nw nm =
        let q = sym (status_is status None e) in
        let P : Status → Type 0 = λ it. Wrote writing (refusal_text it) in
        (report_is status None e, subst (Causes host words reading) q a, subst P q w)
    refused_of answer a (in_part e r w) nd nw nm = absurd (nw (status_is WriteFault (report_of answer) e))
    refused_of answer a (not_at_all e s) nd nw nm = absurd (nm (status_is NoMemory None e))

    write_fault_of : (answer : Result Report Status) → Answered host words reading answer → IsWritten writing answer ended → ended.status ≡ WriteFault
        → HasRisen writing.faults writing.faults_after × ((it : Result Report Status) × Answered host words reading it × (ended.report ≡ report_of it) × WrotePrefix writing (text_of it))
    write_fault_of (Ok report) a (in_full e n w) p = let h : Done ≡ WriteFault = clash Done WriteFault (status_is Done (Some report) e) p in cc
    write_fault_of (Err status) a (in_full e n w) p = absurd ((subst (Causes host words reading) (clash status WriteFault (status_is status None e) p) a).1.2)
    write_fault_of answer a (in_part e r w) p = (r, (answer, a, report_is WriteFault (report_of answer) e, w))
    write_fault_of answer a (not_at_all e s) p = let h : NoMemory ≡ WriteFault = clash NoMemory WriteFault (status_is NoMemory None e) p in cc

    no_memory_of : (answer : Result Report Status) → IsWritten writing answer ended → ended.status ≡ NoMemory
        → (ended.report ≡ None) × (writing.taken_after ≡ writing.taken)
    no_memory_of answer (in_full e n w) p = absurd (n (clash (status_of answer) NoMemory (status_is (status_of answer) (report_of answer) e) p))
    no_memory_of answer (in_part e r w) p = let h : WriteFault ≡ NoMemory = clash WriteFault NoMemory (status_is WriteFault (report_of answer) e) p in cc
    no_memory_of answer (not_at_all e s) p = (report_is NoMemory None e, s)

    pub Ends-from : (answer : Result Report Status) → Answered host words reading answer → IsWritten writing answer ended → Ends host words reading writing ended
    Ends-from answer a w = record {
      done = done_of answer a w;
      refused = refused_of answer a w;
      write_fault = write_fault_of answer a w;
      no_memory = no_memory_of answer w;
      usage = λ n. ends_as answer Usage (usage_of answer a n) w;
      too_long = λ run. IfSome-from reading.left _ (λ told e long. ends_as answer TooLong (too_long_of run told e answer a long) w);
      refuses = λ run. IfSome-from reading.left _ (λ told e within status r. ends_as answer status (refuses_of run told e answer a within status r) w);
      complete = λ run. IfSome-from reading.left _ (λ told e within is. ends_as answer Done (complete_of run told e answer a within is) w);
    }
