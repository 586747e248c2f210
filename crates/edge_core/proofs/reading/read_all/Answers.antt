use Rattle.std.proofs.Common.{◌≡◌, ◌∙◌, [], ◌++◌, take, length, arith, append-nil, refl, sym, ap}
use Rattle.edge_core.specs.Source.{none}
use Rattle.edge_core.proofs.Told.{Consumes-nil, Consumes-append, Consumes-leaves, Consumes-end}
use Rattle.edge_core.proofs.Runs.{SomeReads-more, SomeReads-weaken}
use Rattle.edge_core.proofs.Pieces.{length-append-take}
use Rattle.edge_core.proofs.Answered.{Answers-no_memory}
use Rattle.edge_core.proofs.reading.read_all.Goals as goal

pub loop-bytes-init : goal.loop-bytes-init
loop-bytes-init g c = rw c.new-bytes.ensures.items (record {
  within = omega arith;
  given = Consumes-nil _;
  never_falls = omega arith;
  reads = (0, [], omega arith, none _, refl);
})

pub returns-in-Ok-eq0-clause-reads : goal.returns-in-Ok-eq0-clause-reads
returns-in-Ok-eq0-clause-reads g c =
    SomeReads-weaken _ _ _ _ _ _ _ (omega arith)
    (λ given e. let all : c.loop-bytes.bytes.items ≡ given = sym (e ∙ ap (λ n. c.loop-bytes.bytes.items ++ take n c.read.new.buf) c.in-Ok-eq0.field-0-test ∙ append-nil _) in
    (all, rw (← all) c.loop-bytes.invariant.within))
    (SomeReads-more _ _ _ _ _ _ _ _ c.loop-bytes.invariant.reads c.in-Ok-eq0.ensures.gives)

pub returns-in-Ok-eq0-clause-nothing_left : goal.returns-in-Ok-eq0-clause-nothing_left
returns-in-Ok-eq0-clause-nothing_left g c =
    Consumes-end _ _ _ (Consumes-append _ _ _ _ _ c.loop-bytes.invariant.given c.in-Ok-eq0.ensures.given)
    (c.in-Ok-eq0.ensures.end c.in-Ok-eq0.field-0-test)

pub returns-in-Err-clause-reads : goal.returns-in-Err-clause-reads
returns-in-Err-clause-reads g c =
    SomeReads-weaken _ _ _ _ _ _ _ (omega arith)
    (λ given e. omega (arith, ap length (e ∙ append-nil c.loop-bytes.bytes.items)))
    (SomeReads-more _ _ _ _ _ _ _ _ c.loop-bytes.invariant.reads c.in-Err.ensures.gives)

pub returns-then-count-limit-clause-left : goal.returns-then-count-limit-clause-left
returns-then-count-limit-clause-left g c =
    Consumes-leaves _ _ _ (Consumes-append _ _ _ _ _ c.loop-bytes.invariant.given c.in-Ok.ensures.given)

pub returns-then-count-limit-clause-reads : goal.returns-then-count-limit-clause-reads
returns-then-count-limit-clause-reads g c =
    SomeReads-weaken _ _ _ _ _ _ _ (omega arith)
    (λ given e. omega (arith, length-append-take _ _ _ _ c.in-Ok.ensures.within e))
    (SomeReads-more _ _ _ _ _ _ _ _ c.loop-bytes.invariant.reads c.in-Ok.ensures.gives)

pub loop-bytes-preserved : goal.loop-bytes-preserved
loop-bytes-preserved g c =
    let grown = length-append-take c.loop-bytes.bytes.items c.read.new.buf _ c.in-Ok.count c.in-Ok.ensures.within c.in_ok-extend_from_slice.ensures.items in
    record {
      within = omega (arith, grown);
      given = rw c.in_ok-extend_from_slice.ensures.items (Consumes-append _ _ _ _ _ c.loop-bytes.invariant.given c.in-Ok.ensures.given);
      never_falls = omega (arith, c.in-Ok.ensures.never_falls);
      reads = SomeReads-weaken _ _ _ _ _ _ _ (omega (arith, grown)) (λ given e. rw c.in_ok-extend_from_slice.ensures.items e)
          (SomeReads-more _ _ _ _ _ _ _ _ c.loop-bytes.invariant.reads c.in-Ok.ensures.gives);
    }

pub returns-in_err-extend_from_slice-clause-reads : goal.returns-in_err-extend_from_slice-clause-reads
returns-in_err-extend_from_slice-clause-reads g c =
    SomeReads-weaken _ _ _ _ _ _ _ (omega arith)
    (λ given e. Answers-no_memory given _ _ c.from_residual.ensures.1
    (omega (arith, length-append-take _ _ _ _ c.in-Ok.ensures.within e)))
    (SomeReads-more _ _ _ _ _ _ _ _ c.loop-bytes.invariant.reads c.in-Ok.ensures.gives)
