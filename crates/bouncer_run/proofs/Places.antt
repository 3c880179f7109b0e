-- Whose turn it is, and who goes on to wait.
use Rattle.std.proofs.Common.{◌≡◌, ℕ, suc, true, List, ◌++◌, ◌∷◌, take, drop, get_or, refl, sym, ap, ◌∙◌, subst, drop-cons}
use Rattle.std.proofs.lemmas.List.{take-append-drop, get_or_default}
use Rattle.std.specs.List.{remove}
use Rattle.driver.specs.declared.driver.Driver.{Driver}
use Rattle.bouncer_run.specs.Turns.{IsTurn, TakesFirst, MayBeRead}

-- the first that may be read leaves all others in their places
pub takes_first : (driver : Driver) (old : List ℕ) (index token : ℕ) → IsTurn driver index old → token ≡ get_or old index token → TakesFirst driver token old (remove old index)
takes_first driver old index token turn is = record {
  before = take index old;
  behind = drop (suc index) old;
  stood = sym (take-append-drop index old) ∙ ap (λ (l : List ℕ). take index old ++ l) (drop-cons old index token turn.within ∙ ap (λ (t : ℕ). t ∷ drop (suc index) old) (sym is));
  others = refl;
  reads = subst (λ (t : ℕ). MayBeRead driver t true) (get_or_default old index 0 token turn.within ∙ sym is) turn.reads;
  none_before = turn.none_before;
}
