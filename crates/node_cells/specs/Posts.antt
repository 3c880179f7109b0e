-- The results of posts.
use Rattle.std.specs.Prelude.{◌≡◌, ◌⊎◌, ℕ, zero, suc, List, [], ◌∷◌, Option, None, Some}
use Rattle.world_views.specs.declared.envelope.Envelope.{Envelope}
use Rattle.world_views.specs.Views.{View}
use Rattle.ether.specs.Passes.{IsSent}
use Rattle.ether.specs.Plays.{after_post}

module _ {B L T : Type 0} where
  -- the view after posts of the k messages after the first n
  abbrev pub posts_from : View B L T → ℕ → ℕ → View B L T
  posts_from v n zero = v
  posts_from v n (suc k) = posts_from (after_post v (suc n)) (suc n) k

  -- an older message of the node with this view, to that node: it had sent it
  abbrev pub IsGivenBack : View B L T → ℕ → Envelope B → Type 0
  IsGivenBack v to e = IsSent v e × (e.message.to ≡ to)

  -- so is the message that a post to that node gives back, if there is one
  abbrev pub MayGiveBack : View B L T → ℕ → Option (Envelope B) → Type 0
  MayGiveBack v to None = Unit {0}
  MayGiveBack v to (Some e) = IsGivenBack v to e

  -- What posts to these nodes gave back, in order: at most one older message each.
  abbrev pub GaveBack : View B L T → List ℕ → List (Envelope B) → Type 0
  GaveBack v [] [] = Unit {0}
  GaveBack v [] (e ∷ es) = ⊥
  GaveBack v (to ∷ more) [] = Unit {0}
  GaveBack v (to ∷ more) (e ∷ es) = (IsGivenBack v to e × GaveBack v more es) ⊎ GaveBack v more (e ∷ es)
