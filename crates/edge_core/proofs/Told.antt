-- What several reads or writes in a row do to the bytes that are told.
use Rattle.std.proofs.Common.{◌≡◌, ℕ, ◌+◌, List, [], ◌++◌, take, drop, Option, Some, None, IsSome, Bool, sym, ◌∙◌, ap, refl, append_assoc, append-nil}
use Rattle.std.specs.Io.KnownBytes.{Consumes, IsAtEnd}
use Rattle.edge_core.specs.Source.{LeavesEnd}
use Rattle.edge_core.specs.Sink.{Takes}
use Rattle.edge_core.proofs.Pieces.{take-add}

-- a source that gave nothing
pub Consumes-nil : (left : Option (List ℕ)) → Consumes left left []
Consumes-nil (Some bytes) = refl
Consumes-nil None = tt

-- a read after others
pub Consumes-append : (old mid new : Option (List ℕ)) (first second : List ℕ) → Consumes old mid first → Consumes mid new second → Consumes old new (first ++ second)
Consumes-append None mid new first second p q = tt
Consumes-append (Some a) None new first second p q = absurd p
Consumes-append (Some a) (Some b) None first second p q = q
Consumes-append (Some a) (Some b) (Some c) first second p q = rw append_assoc (rw (← q) p)

-- what is left after reads is an end
pub Consumes-leaves : (old new : Option (List ℕ)) (given : List ℕ) → Consumes old new given → LeavesEnd old new
Consumes-leaves None new given p = tt
Consumes-leaves (Some a) None given p = tt
Consumes-leaves (Some a) (Some b) given p = (given, p)

-- a source that told, and is at its end
pub Consumes-end : (old new : Option (List ℕ)) (given : List ℕ) → Consumes old new given → IsAtEnd new → IsSome old → new ≡ Some []
Consumes-end None new given p at_end told = cc
Consumes-end (Some a) None given p at_end told = absurd p
Consumes-end (Some a) (Some b) given p at_end told = ap Some at_end

-- a sink that took nothing
pub Takes-nil : (silent : Bool) (taken : Option (List ℕ)) → Takes silent taken taken []
Takes-nil silent (Some bytes) = sym (append-nil bytes)
Takes-nil silent None = tt

-- a write after others
pub Takes-append : (silent : Bool) (old mid new : Option (List ℕ)) (first second : List ℕ) → Takes silent old mid first → Takes silent mid new second → Takes silent old new (first ++ second)
Takes-append silent (Some a) (Some b) (Some c) first second p q = q ∙ ap (λ x. x ++ second) p ∙ append_assoc a first second
Takes-append silent (Some a) (Some b) None first second p q = q
Takes-append silent (Some a) None None first second p q = p
Takes-append silent (Some a) None (Some c) first second p q = cc
Takes-append silent None mid None first second p q = tt
Takes-append silent None None (Some c) first second p q = q
Takes-append silent None (Some b) (Some c) first second p q = p

-- a write that was handed all bytes not yet taken, after others
pub Takes-more : (silent : Bool) (old mid new : Option (List ℕ)) (sent count : ℕ) (bytes piece : List ℕ) → piece ≡ drop sent bytes →
    Takes silent old mid (take sent bytes) → Takes silent mid new (take count piece) →
    Takes silent old new (take (sent + count) bytes)
Takes-more silent old mid new sent count bytes piece rest before step =
    rw take-add (Takes-append silent old mid new (take sent bytes) (take count (drop sent bytes)) before (rw rest at step))
