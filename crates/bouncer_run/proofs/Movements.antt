-- Bytes that leave the front of what waits, one write after the other.
use Rattle.std.proofs.Common.{◌≡◌, ℕ, List, [], ◌++◌, take, drop, refl, sym, ap, ◌∙◌, subst, append_assoc, Option, Some, None}
use Rattle.std.proofs.lemmas.List.{append-nil, take-append-drop}
use Rattle.std.specs.Io.KnownBytes.{Appends}
use Rattle.bouncer_run.specs.Moving.{Moves}

nothing_given : (before : Option (List ℕ)) → Appends before before []
nothing_given None = tt
nothing_given (Some xs) = sym (append-nil xs)

-- if nothing is taken, nothing leaves
pub stays : (waiting : List ℕ) (before : Option (List ℕ)) → Moves waiting waiting before before
stays waiting before = record { taken = []; front = refl; given = nothing_given before }

given_both : (a b c : Option (List ℕ)) (s t : List ℕ) → Appends a b s → Appends b c t → Appends a c (s ++ t)
given_both None b c s t g h = tt
given_both (Some x) None c s t g h = absurd g
given_both (Some x) (Some y) None s t g h = absurd h
given_both (Some x) (Some y) (Some z) s t g h = h ∙ (ap (λ (l : List ℕ). l ++ t) g ∙ append_assoc x s t)

-- what was taken first left first
pub moves_both : (old mid new : List ℕ) (a b c : Option (List ℕ)) → Moves old mid a b → Moves mid new b c → Moves old new a c
moves_both old mid new a b c first second = record {
  taken = first.taken ++ second.taken;
  front = first.front ∙ (ap (λ (l : List ℕ). first.taken ++ l) second.front ∙ sym (append_assoc first.taken second.taken new));
  given = given_both a b c first.taken second.taken first.given second.given;
}

-- what a writer took of what waits left the front
pub moves_taken : (old new : List ℕ) (count : ℕ) (before after : Option (List ℕ)) → Appends before after (take count old) → new ≡ drop count old → Moves old new before after
moves_taken old new count before after given left =
    subst (λ (l : List ℕ). Moves old l before after) (sym left) (record { taken = take count old; front = sym (take-append-drop count old); given = given })
