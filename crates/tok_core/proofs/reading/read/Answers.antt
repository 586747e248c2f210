use Rattle.std.proofs.Common.{◌≡◌, ◌+◌, ◌≤◌, length, drop, sym, ap, ◌∙◌, subst, arith, length-append}
use Rattle.std.proofs.lemmas.List.{length-drop, drop-drop}
use Rattle.std.specs.Str.{encode_utf8_all}
use Rattle.tok_scan.specs.Characters.{Characters}
use Rattle.tok_scan.specs.Closings.{AreClosings}
use Rattle.tok_core.specs.Spells.{kept}
use Rattle.tok_core.proofs.Before.{Before, Before-step, Before-fits, Spells-finish, piece_there}
use Rattle.tok_core.proofs.Bytes.{IsPlain, IsPlain-parts, IsUtf8-after, IsCharBoundary-behind, bytes-front, bytes-after, AreBytes-kept}
use Rattle.tok_core.proofs.Known.{AreClosings-made, AreClosings-moved, AreClosings-passed}
use Rattle.tok_core.proofs.reading.read.Goals as goal
use Rattle.tok_core.proofs.reading.read.Goals.{then-is_empty+then-may_be_open+in_ok-known, else-is_empty}

pub split_at-requires-in-loop-start : goal.split_at-requires-in-loop-start
split_at-requires-in-loop-start c =
    let i = piece_there _ _ _ _ _ _ _ c.in-Some.ensures.found (c.rest-rest.ensures ∙ ap (drop c.loop-start.start) c.as_slice.ensures.value) c.split_at.ensures.front c.split_at.ensures.back in
    IsCharBoundary-behind _ _ _ _ _ c.loop-start.invariant.utf8 c.loop-start.invariant.bytes i.split c.bytes_of.ensures

pub bytes_of-requires : goal.bytes_of-requires
bytes_of-requires c h =
    let i = piece_there _ _ _ _ _ _ _ c.in-Some.ensures.found (c.rest-rest.ensures ∙ ap (drop c.loop-start.start) c.as_slice.ensures.value) c.split_at.ensures.front c.split_at.ensures.back in
    (IsPlain-parts _ _ _ i.split (c.loop-start.invariant.plain h)).0

pub overflow_cast-end : goal.overflow_cast-end
overflow_cast-end c =
    let i = piece_there _ _ _ _ _ _ _ c.in-Some.ensures.found (c.rest-rest.ensures ∙ ap (drop c.loop-start.start) c.as_slice.ensures.value) c.split_at.ensures.front c.split_at.ensures.back in
    let few : length (encode_utf8_all c.args.characters.items) ≤ 16777216 = omega (arith, ap length c.requires.same, c.requires.few) in
    omega (arith, c.bytes_of.ensures, c.split_at-in-loop-start.ensures.front_len, Before-fits _ _ _ _ c.split_at.result.0.now c.split_at.result.1.now _ c.loop-start.invariant.before few i.split)

pub step-requires : goal.step-requires
step-requires c =
    let i = piece_there _ _ _ _ _ _ _ c.in-Some.ensures.found (c.rest-rest.ensures ∙ ap (drop c.loop-start.start) c.as_slice.ensures.value) c.split_at.ensures.front c.split_at.ensures.back in
    AreBytes-kept _ _ _ _ _ (bytes-front _ _ _ _ _ _ c.loop-start.invariant.bytes i.split c.bytes_of.ensures c.split_at-in-loop-start.ensures.front) c.kept-text.ensures

pub loop-start-preserved : goal.loop-start-preserved
loop-start-preserved c =
    let items = c.loop-start.unread.items in
    let n = c.in-Some.found.length in
    let front : Characters = c.split_at.result.0.now in
    let after : Characters = c.split_at.result.1.now in
    let i = piece_there _ _ _ _ _ _ _ c.in-Some.ensures.found (c.rest-rest.ensures ∙ ap (drop c.loop-start.start) c.as_slice.ensures.value) c.split_at.ensures.front c.split_at.ensures.back in
    let end : c.loop-start.at + length c.split_at-in-loop-start.result.0.now ≡ c.loop-start.at + length (encode_utf8_all front) = omega (arith, c.bytes_of.ensures, c.split_at-in-loop-start.ensures.front_len) in
    let same : c.kept-text.result.now ≡ kept c.in-Some.found.kind front after = c.kept-text.ensures in
    let step = c.in_ok-step.ensures in
    let before = Before-step c.args.source c.loop-start.at _ _ _ _ _ _ _ _ _ c.loop-start.invariant.before i end same step.flat step.matched in
    let bytes = bytes-after _ _ _ _ _ _ c.loop-start.invariant.bytes i.split c.bytes_of.ensures c.split_at-in-loop-start.ensures.back in
    let behind : after ≡ drop n (drop c.loop-start.start items) = c.split_at.ensures.back ∙ ap (drop n) (c.rest-rest.ensures ∙ ap (drop c.loop-start.start) c.as_slice.ensures.value) in
    let left : after ≡ drop c.give_back-start.result c.give_back-start.new.characters.items = behind ∙ drop-drop n c.loop-start.start items ∙ sym c.give_back-start.ensures.rest in
    let sum : c.loop-start.passed + n + length after ≤ length c.args.characters.items =
    omega (arith, c.loop-start.invariant.passed, ap length i.split, length-append front after, c.split_at.ensures.front_len) in
    let known : AreClosings (drop c.if-is_empty.passed c.if-is_empty.known.items) after × (c.if-is_empty.passed + length after ≤ length c.args.characters.items) = elim c.if-is_empty.branch [
      | then-is_empty+then-may_be_open+in_ok-known w ↦ (AreClosings-made _ _ _ w.passed-is (ap (λ v. v.items) w.known-is ∙ w.in_ok-known.ensures), omega (arith, w.passed-is, sum))
      | else-is_empty w ↦ (AreClosings-moved _ _ _ _ _ w.passed-is (ap (λ v. v.items) w.known-is) (AreClosings-passed _ _ _ _ _ c.loop-start.invariant.closed behind), omega (arith, w.passed-is, sum))
    ] in
    let P : Characters → Type 0 = λ rest. Before c.args.source c.args.characters.items rest (c.loop-start.at + length c.split_at-in-loop-start.result.0.now) c.step.new.self in
    let Q : Characters → Type 0 = λ rest. AreClosings (drop c.if-is_empty.passed c.if-is_empty.known.items) rest in
    record {
      before = subst P left before;
      closed = subst Q left known.0;
      within = c.give_back-start.ensures.within;
      passed = omega (arith, known.1, ap length left);
      bytes = ap encode_utf8_all (sym left) ∙ bytes;
      plain = λ h. subst IsPlain left ((IsPlain-parts _ _ _ i.split (c.loop-start.invariant.plain h)).1);
      utf8 = IsUtf8-after _ _ _ _ _ c.loop-start.invariant.utf8 c.loop-start.invariant.bytes i.split bytes;
    }

pub returns-clause-spelled : goal.returns-clause-spelled
returns-clause-spelled c =
    let l : length (drop c.loop-start.start c.loop-start.unread.items) ≡ 0 = omega (arith, length-drop c.loop-start.start c.loop-start.unread.items) in
    Spells-finish _ _ _ _ _ c.finish.result c.loop-start.invariant.before l c.finish.ensures.flat
