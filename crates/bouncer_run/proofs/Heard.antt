-- What is read goes on, one read after the other.
use Rattle.std.proofs.Common.{◌≡◌, ◌∙◌, ℕ, List, [], ◌∷◌, ◌++◌, Option, refl, sym, ap, subst}
use Rattle.std.proofs.lemmas.List.{append-nil}
use Rattle.std.proofs.lemmas.Grind.{flat_map-append}
use Rattle.std.proofs.KnownBytes.{Consumes-nil, Consumes-trans}
use Rattle.std.specs.Io.KnownBytes.{Consumes}
use Rattle.bouncer_run.specs.Hearing.{AreTaken, HasHeard, joined_pieces}

module _ {D : Type 0} (takes : List ℕ → D → D → Type 0) where
  all_taken : (pieces more : List (List ℕ)) (old mid new : D) → AreTaken takes pieces old mid → AreTaken takes more mid new → AreTaken takes (pieces ++ more) old new
  all_taken [] more old mid new first second = subst (λ (d : D). AreTaken takes more d new) first second
  all_taken (piece ∷ pieces) more old mid new (next, one, first) second = (next, one, all_taken pieces more next mid new first second)

  -- nothing is read at first
  pub heard_none : (a : Option (List ℕ)) (old : D) → HasHeard takes a a old old
  heard_none a old = record { pieces = []; read = Consumes-nil a; taken = refl }

  joined_more : (pieces : List (List ℕ)) (piece : List ℕ) → joined_pieces (pieces ++ piece ∷ []) ≡ joined_pieces pieces ++ piece
  joined_more pieces piece = flat_map-append (λ (piece : List ℕ). piece) pieces (piece ∷ []) ∙ ap (λ (l : List ℕ). joined_pieces pieces ++ l) (append-nil piece)

  -- and then a piece that is taken
  pub heard_more : (a b c : Option (List ℕ)) (piece : List ℕ) (old mid new : D) → HasHeard takes a b old mid → Consumes b c piece → takes piece mid new → HasHeard takes a c old new
  heard_more a b c piece old mid new h read one = record {
    pieces = h.pieces ++ piece ∷ [];
    read = subst (Consumes a c) (sym (joined_more h.pieces piece)) (Consumes-trans a b c (joined_pieces h.pieces) piece h.read read);
    taken = all_taken h.pieces (piece ∷ []) old mid new h.taken (new, one, refl);
  }
