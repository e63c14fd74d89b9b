-- What a reader has read, with a piece or a group more.
use Rattle.std.proofs.Common.{◌≡◌, List, [], ◌∷◌, ◌++◌, map, refl, ap, ◌∙◌, length, sym}
use Rattle.std.specs.Prelude.{reverse}
use Rattle.std.proofs.lemmas.List.{length-map, length-reverse, reverse-append, map-append}
use Rattle.es_pattern.specs.declared.piece.Piece.{Piece}
use Rattle.es_pattern.specs.declared.reader.Group.{Group}
use Rattle.es_pattern.specs.Tree.{Tree}
use Rattle.es_pattern.specs.Pieces.{with_piece, with_pieces}

pub push_piece : (ps : List Piece) (p : Piece) (ts : List Tree)
    → with_pieces (ps ++ p ∷ []) ts ≡ with_piece p (with_pieces ps ts)
push_piece [] p ts = refl
push_piece (q ∷ ps) p ts = push_piece ps p (with_piece q ts)

pub push_group : (gs : List Group) (g : Group)
    → reverse (map (λ (h : Group). h.kind) (gs ++ g ∷ [])) ≡ g.kind ∷ reverse (map (λ (h : Group). h.kind) gs)
push_group gs g = ap reverse (map-append (λ (h : Group). h.kind) gs (g ∷ []))
    ∙ reverse-append (map (λ (h : Group). h.kind) gs) (g.kind ∷ [])

pub push_product : (gs : List Group) (g : Group)
    → reverse (map (λ (h : Group). h.product) (gs ++ g ∷ [])) ≡ g.product ∷ reverse (map (λ (h : Group). h.product) gs)
push_product gs g = ap reverse (map-append (λ (h : Group). h.product) gs (g ∷ []))
    ∙ reverse-append (map (λ (h : Group). h.product) gs) (g.product ∷ [])

pub same_depth : (gs : List Group) → length gs ≡ length (reverse (map (λ (h : Group). h.kind) gs))
same_depth gs = sym (length-reverse (map (λ (h : Group). h.kind) gs) ∙ length-map gs (λ (h : Group). h.kind))
