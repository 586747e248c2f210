-- What an answer is: a kind and a length, and what makes it a right one.
use Rattle.std.proofs.Common.{◌≡◌, ℕ, ◌≤◌, [], ◌∷◌, ◌++◌, length, Some, ap, sym, refl, subst, arith}
use Rattle.tok_scan.specs.Characters.{Characters}
use Rattle.tok_scan.specs.Pieces.{IsPiece}
use Rattle.tok_scan.specs.Scan.{found, head_of, headed, front}
use Rattle.tok_scan.specs.declared.kind.Found.{Found}
use Rattle.tok_scan.specs.declared.kind.Kind.{Kind}
use Rattle.tok_scan.specs.declared.scan.Head.{Head}

pub found-same : (p q : Found) → Some p ≡ Some q → p ≡ q
found-same p q h = cc

pub found-kind : (k l : Kind) (m n : ℕ) → found k m ≡ found l n → k ≡ l
found-kind k l m n h = ap (λ (p : Found). p.kind) (found-same (record { kind = k; length = m }) (record { kind = l; length = n }) h)

pub found-length : (k l : Kind) (m n : ℕ) → found k m ≡ found l n → m ≡ n
found-length k l m n h = ap (λ (p : Found). p.length) (found-same (record { kind = k; length = m }) (record { kind = l; length = n }) h)

pub front-head : (c : ℕ) (cs : Characters) (h : Head) → head_of c ≡ h → front (c ∷ cs) ≡ headed h (c ∷ cs)
unfolding front
front-head c cs h e = ap (λ h. headed h (c ∷ cs)) e

-- `front` is found as a piece of this kind where `after` follows
abbrev pub Finds : Kind → Characters → Characters → Type 0
Finds k text after = front (text ++ after) ≡ found k (length text)

-- one character is found
pub Finds-one : (k : Kind) (c : ℕ) (text after : Characters) → text ≡ c ∷ [] → front (c ∷ after) ≡ found k 1 → Finds k text after
Finds-one k c text after e h = subst (λ (f : Characters). Finds k f after) (sym e) h

-- where a piece of this kind begins the text, a piece at least as long is found, and where it is as long, one of this kind
pub record Reaches (k : Kind) (text after : Characters) : Type 0 where
  pub kind : Kind
  pub size : ℕ
  pub is : front (text ++ after) ≡ found kind size
  pub far : length text ≤ size
  pub same : size ≡ length text → kind ≡ k

pub Reaches-found : (k : Kind) (text after : Characters) → Finds k text after → Reaches k text after
Reaches-found k text after h = record { kind = k; size = length text; is = h; far = omega arith; same = λ _. refl }

-- what is found is a piece of its kind that begins the text
pub record Sound (text : Characters) (p : Found) : Type 0 where
  pub front : Characters
  pub after : Characters
  pub split : text ≡ front ++ after
  pub size : p.length ≡ length front
  pub piece : IsPiece p.kind front after

pub Sound-same : (text : Characters) (p q : Found) → Some p ≡ Some q → Sound text p → Sound text q
Sound-same text p q h s = subst (Sound text) (found-same p q h) s
