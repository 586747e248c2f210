-- Trees and open groups, as flat tokens.
use Rattle.std.proofs.Common.{◌≡◌, ℕ, ◌+◌, true, List, [], ◌∷◌, ◌++◌, length, Some, refl, sym, ap, ◌∙◌, arith, append_assoc}
use Rattle.std.proofs.lemmas.List.{append-nil}
use Rattle.tok_types.specs.declared.tree.Delimiter.{Delimiter}
use Rattle.tok_types.specs.declared.tree.Delimiter.TheVariants as delimiter
use Rattle.tok_types.specs.declared.tree.TokenTree.{TokenTree}
use Rattle.tok_types.specs.Delimiter.{same_delimiter}
use Rattle.tok_core.specs.Flat.{Flat, flat_tree, flat_trees, opening, closing}
use Rattle.tok_core.specs.Nests.{flat_frame, flat_frames, open_over}
use Rattle.tok_core.specs.declared.nest.Frame.{Frame}

pub flat_trees-push : (ts : List TokenTree) (t : TokenTree) → flat_trees (ts ++ t ∷ []) ≡ flat_trees ts ++ flat_tree t
flat_trees-push [] t = append-nil (flat_tree t)
flat_trees-push (u ∷ ts) t =
    ap (λ r. flat_tree u ++ r) (flat_trees-push ts t) ∙ sym (append_assoc (flat_tree u) (flat_trees ts) (flat_tree t))

pub flat_frames-push : (source : ℕ) (fs : List Frame) (f : Frame) → flat_frames source (fs ++ f ∷ []) ≡ flat_frames source fs ++ flat_frame source f
flat_frames-push source [] f = append-nil (flat_frame source f)
flat_frames-push source (g ∷ fs) f =
    ap (λ r. flat_frame source g ++ r) (flat_frames-push source fs f)
    ∙ sym (append_assoc (flat_frame source g) (flat_frames source fs) (flat_frame source f))

pub open_over-push : (stack : List Delimiter) (fs : List Frame) (f : Frame) → open_over stack (fs ++ f ∷ []) ≡ f.delimiter ∷ open_over stack fs
open_over-push stack [] f = refl
open_over-push stack (g ∷ fs) f = open_over-push (g.delimiter ∷ stack) fs f

pub length-open_over : (stack : List Delimiter) (fs : List Frame) → length (open_over stack fs) ≡ length fs + length stack
length-open_over stack [] = omega arith
length-open_over stack (g ∷ fs) = length-open_over (g.delimiter ∷ stack) fs ∙ omega arith

-- a tree more
pub flat_nest-push : (source : ℕ) (fs : List Frame) (ts us : List TokenTree) (t : TokenTree) → us ≡ ts ++ t ∷ []
    → flat_frames source fs ++ flat_trees us ≡ (flat_frames source fs ++ flat_trees ts) ++ flat_tree t
flat_nest-push source fs ts us t e =
    ap (λ us. flat_frames source fs ++ flat_trees us) e
    ∙ ap (λ r. flat_frames source fs ++ r) (flat_trees-push ts t)
    ∙ sym (append_assoc (flat_frames source fs) (flat_trees ts) (flat_tree t))

-- a group more is open
pub flat_nest-open : (source : ℕ) (old new : List Frame) (f : Frame) (none : List TokenTree) → new ≡ old ++ f ∷ [] → none ≡ []
    → flat_frames source new ++ flat_trees none ≡ (flat_frames source old ++ flat_trees f.trees) ++ opening f.delimiter (Some (source, f.start)) ∷ []
flat_nest-open source old new f none e g =
    ap (λ fs. flat_frames source fs ++ flat_trees none) e
    ∙ ap (λ us. flat_frames source (old ++ f ∷ []) ++ flat_trees us) g
    ∙ append-nil (flat_frames source (old ++ f ∷ []))
    ∙ flat_frames-push source old f
    ∙ sym (append_assoc (flat_frames source old) (flat_trees f.trees) (opening f.delimiter (Some (source, f.start)) ∷ []))

-- the innermost group is closed
pub flat_nest-close : (source end : ℕ) (old new : List Frame) (f : Frame) (ts us : List TokenTree) (t : TokenTree) → old ≡ new ++ f ∷ [] → us ≡ f.trees ++ t ∷ []
    → flat_tree t ≡ opening f.delimiter (Some (source, f.start)) ∷ (flat_trees ts ++ closing f.delimiter (Some (source, end)) ∷ [])
    → flat_frames source new ++ flat_trees us ≡ (flat_frames source old ++ flat_trees ts) ++ closing f.delimiter (Some (source, end)) ∷ []
flat_nest-close source end old new f ts us t e g h =
    let opened : List Flat = opening f.delimiter (Some (source, f.start)) ∷ [] in
    let closed : List Flat = closing f.delimiter (Some (source, end)) ∷ [] in
    let a = flat_frames source new in
    let b = flat_trees f.trees in
    ap (λ us. a ++ flat_trees us) g
    ∙ ap (λ r. a ++ r) (flat_trees-push f.trees t ∙ ap (λ r. b ++ r) h)
    ∙ ap (λ r. a ++ r) (sym (append_assoc b opened (flat_trees ts ++ closed)) ∙ sym (append_assoc (b ++ opened) (flat_trees ts) closed))
    ∙ sym (append_assoc a ((b ++ opened) ++ flat_trees ts) closed)
    ∙ ap (λ r. r ++ closed) (sym (append_assoc a (b ++ opened) (flat_trees ts)) ∙ ap (λ r. r ++ flat_trees ts) (sym (flat_frames-push source new f) ∙ ap (flat_frames source) (sym e)))

pub open_over-close : (old new : List Frame) (f : Frame) → old ≡ new ++ f ∷ [] → open_over [] old ≡ f.delimiter ∷ open_over [] new
open_over-close old new f e = ap (open_over []) e ∙ open_over-push [] new f

pub same_delimiter-self : (d : Delimiter) → same_delimiter d d ≡ true
same_delimiter-self delimiter.Parenthesis = refl
same_delimiter-self delimiter.Bracket = refl
same_delimiter-self delimiter.Brace = refl
same_delimiter-self delimiter.None = refl

pub same_delimiter-true : (d e : Delimiter) → same_delimiter d e ≡ true → d ≡ e
same_delimiter-true delimiter.Parenthesis delimiter.Parenthesis h = refl
same_delimiter-true delimiter.Bracket delimiter.Bracket h = refl
same_delimiter-true delimiter.Brace delimiter.Brace h = refl
same_delimiter-true delimiter.None delimiter.None h = refl
same_delimiter-true d e h = absurd (cc)
