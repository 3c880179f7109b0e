-- What a list begins with.
use Rattle.std.proofs.Common.{◌≡◌, ℕ, List, ◌++◌, length, take, drop, ap, sym, ◌∙◌, append_assoc}
use Rattle.std.specs.Prelude.{Result, Ok, Err, OnErr}
use Rattle.std.proofs.lemmas.List.{take-append-drop}
use Rattle.std.proofs.Math.Seq.{take-append_seam}

-- a list that begins with another begins with that list's front
front : (x y a b : List ℕ) → take (length y) x ≡ y → y ≡ a ++ b → take (length a) x ≡ a
front x y a b h e =
    let whole : x ≡ a ++ (b ++ drop (length y) x) =
    sym (take-append-drop (length y) x) ∙ ap (λ t. t ++ drop (length y) x) (h ∙ e) ∙ append_assoc a b (drop (length y) x) in
    ap (λ t. take (length a) t) whole ∙ take-append_seam a (b ++ drop (length y) x)

-- what is there after a refusal begins with what was there before the last two appends, if it begins with what these
-- made
pub front_on_err : {T E : Type 0} (r : Result T E) (a b c middle whole rest : List ℕ) → middle ≡ a ++ b → whole ≡ middle ++ c → OnErr r (take (length whole) rest ≡ whole)
    → OnErr r (take (length a) rest ≡ a)
front_on_err (Ok v) a b c middle whole rest e f h = tt
front_on_err (Err v) a b c middle whole rest e f h = front rest whole a (b ++ c) h (f ∙ ap (λ t. t ++ c) e ∙ append_assoc a b c)
