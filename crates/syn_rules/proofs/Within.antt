-- A level of the grammar, by the rules of one level less.
use Rattle.std.proofs.Common.{◌≡◌, ◌≤◌, ◌<◌, ◌+◌, ◌-◌, ℕ, zero, suc, Bool, true, List, Some, Result, Ok, Err, refl, arith}
use Rattle.std.proofs.lemmas.Grind.{common_steps}
use Rattle.syn_grammar.specs.Depth.{expr_depth, type_depth}
use Rattle.node_expr.specs.declared.expr.Expr.{Expr}
use Rattle.node_expr.specs.declared.generics.TypeParamBound.{TypeParamBound}
use Rattle.node_expr.specs.declared.ty.«Type».{«Type» as Ty}
use Rattle.syn_grammar.specs.declared.fail.ReadFail.{ReadFail}
use Rattle.syn_grammar.specs.declared.fail.ReadFail.TheVariants.{Syntax, NoMemory}
use Rattle.syn_grammar.specs.Expressions.{expr_step}
use Rattle.syn_grammar.specs.Grammar.{within, kept, bounds_depth}
use Rattle.syn_grammar.specs.Input.{Input, Outcome}
use Rattle.syn_grammar.specs.Paths.{bounds}
use Rattle.syn_grammar.specs.Reads.{Reads, ReadsKept}
use Rattle.syn_grammar.specs.Types.{type_step}

kept-Some : {A : Type 0} (size : A → ℕ) (limit : ℕ) (outcome : Outcome A) (found : A) (rest : Input) → outcome ≡ Some (found, rest) → size found ≤ limit → kept size limit outcome ≡ Some (found, rest)
kept-Some size limit outcome found rest is fits = rw is (grind (arith, common_steps))

-- what is no deeper than the limit is kept
pub Reads-kept : {A : Type 0} (size : A → ℕ) (limit : ℕ) (outcome : Outcome A) (result : Result (A × ℕ) ReadFail) (new : Input)
    → ReadsKept size limit outcome result new → Reads size limit (kept size limit outcome) result new
Reads-kept size limit outcome (Ok found) new reads = (kept-Some size limit outcome found.0 new reads.0 (omega (arith, reads)), reads.1, reads.2)
Reads-kept size limit outcome (Err NoMemory) new reads = tt
Reads-kept size limit outcome (Err Syntax) new reads = reads

-- a refusal is one at any depth
pub ReadsKept-of : {A : Type 0} (size : A → ℕ) (limit : ℕ) (outcome : Outcome A) (result : Result (A × ℕ) ReadFail) (new : Input)
    → Reads size limit outcome result new → ReadsKept size limit outcome result new
ReadsKept-of size limit outcome (Ok found) new reads = reads
ReadsKept-of size limit outcome (Err NoMemory) new reads = tt
ReadsKept-of size limit outcome (Err Syntax) new reads = rw reads refl

pub ty-within : (depth : ℕ) (allow_plus : Bool) (old new : Input) (result : Result (Ty × ℕ) ReadFail) → 0 < depth
    → Reads type_depth ((depth - 1) + 1) (type_step (within (depth - 1)) allow_plus old) result new → Reads type_depth depth ((within depth).ty allow_plus old) result new
unfolding within
ty-within zero allow_plus old new result some reads = absurd (omega arith)
ty-within (suc below) allow_plus old new result some reads =
    let one : (suc below - 1) + 1 ≡ suc below = omega arith in
    let less : suc below - 1 ≡ below = omega arith in
    let step = rw (one, less) at reads in
    Reads-kept type_depth (suc below) (type_step (within below) allow_plus old) result new (ReadsKept-of type_depth (suc below) (type_step (within below) allow_plus old) result new step)

pub expr-within : (depth level : ℕ) (old new : Input) (result : Result (Expr × ℕ) ReadFail) → 0 < depth
    → ReadsKept expr_depth ((depth - 1) + 1) (expr_step (within (depth - 1)) level old) result new → Reads expr_depth depth ((within depth).expr level old) result new
unfolding within
expr-within zero level old new result some reads = absurd (omega arith)
expr-within (suc below) level old new result some reads =
    let one : (suc below - 1) + 1 ≡ suc below = omega arith in
    let less : suc below - 1 ≡ below = omega arith in
    let step = rw (one, less) at reads in
    Reads-kept expr_depth (suc below) (expr_step (within below) level old) result new step

pub bounds-within : (depth : ℕ) (old new : Input) (result : Result (List TypeParamBound × ℕ) ReadFail) → 0 < depth
    → Reads bounds_depth ((depth - 1) + 1) (bounds (within (depth - 1)) true old) result new → Reads bounds_depth depth ((within depth).bounds old) result new
unfolding within
bounds-within zero old new result some reads = absurd (omega arith)
bounds-within (suc below) old new result some reads =
    let one : (suc below - 1) + 1 ≡ suc below = omega arith in
    let less : suc below - 1 ≡ below = omega arith in
    let step = rw (one, less) at reads in
    Reads-kept bounds_depth (suc below) (bounds (within below) true old) result new (ReadsKept-of bounds_depth (suc below) (bounds (within below) true old) result new step)
