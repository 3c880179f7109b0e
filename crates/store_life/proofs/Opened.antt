-- Stores that were begun anew are openings of a run.
use Rattle.std.proofs.Common.{◌≡◌, ℕ, zero, suc, ◌<◌, List, [], ◌∷◌, ◌++◌, map, length, slice_get, Option, Some, None, refl, sym, ap, subst, ◌∙◌, arith}
use Rattle.buffer_commands.specs.Settings.{Settings}
use Rattle.bouncer_tower.specs.Bodies.{TowerBody}
use Rattle.raft_log.specs.Lists.{item, item_or}
use Rattle.raft_log.specs.Node.{Node}
use Rattle.stable_store.specs.declared.saved.Saved.{Saved}
use Rattle.raft_node.specs.Parts.{saved_by}
use Rattle.raft_node.specs.Raft.{started}
use Rattle.world_run.specs.World.{Event}
use Rattle.world_views.specs.Own.{ViewOf}
use Rattle.world_views.specs.Openings.{HeldAfter, IsOpenedOver, OpenedAfter, restarts, started_over, world_after, whole}
use Rattle.world_views.proofs.Handing.{handed_apart}
use Rattle.world_views.proofs.Openings.{held_stores, history, world_length}
use Rattle.world_views.proofs.Places.{below}
use Rattle.headline.specs.Running.{KeepThePromises}
use Rattle.headline.specs.Tower.{tower}
use Rattle.headline.proofs.Hands.{handed_once}
use Rattle.headline.proofs.Promised.{headline_of}
use Rattle.store_life.specs.Renewed.{Leaves, all_begun_anew, begun_anew, entries}
use Rattle.store_life.specs.Openings.{AnewIsOpened, AnewKeepsThePromises, IsBefore, IsOpenedAnew, WereAnew}
use Rattle.store_life.proofs.Left.{left, run_at}

-- an item of a list that was made of another list
pub made_at : {X S : Type 0} (f : X → S) (xs : List X) (k : ℕ) (y : S) → slice_get (map f xs) k ≡ Some y → (x : X) × (slice_get xs k ≡ Some x) × (f x ≡ y)
made_at f [] k y e = absurd (cc e)
made_at f (x ∷ xs) zero y e = (x, refl, cc e)
made_at f (x ∷ xs) (suc k) y e = made_at f xs k y e

pub make_at : {X S : Type 0} (f : X → S) (xs : List X) (k : ℕ) (x : X) → slice_get xs k ≡ Some x → slice_get (map f xs) k ≡ Some (f x)
make_at f [] k x e = absurd (cc e)
make_at f (y ∷ xs) zero x e = let same : y ≡ x = cc e in ap (λ z. Some (f z)) same
make_at f (y ∷ xs) (suc k) x e = make_at f xs k x e

module _ (s : Settings) (boots : List ℕ) (term : ℕ) (bodies : List TowerBody) (es : List (Event (tower s))) (leaves : Leaves s es boots term bodies) where
  -- what a node in that world has saved
  saved_at : (size i boot : ℕ) → size ≡ length boots → item boots (suc i) ≡ Some boot
      → (x : Node TowerBody) × (item (world_after (tower s) size es) (suc i) ≡ Some x) × (saved_by x ≡ begun_anew boot term (entries term bodies))
  saved_at size i boot long at =
      let f : ℕ → Saved TowerBody = λ b. begun_anew b term (entries term bodies) in
      let is : map saved_by (world_after (tower s) size es) ≡ all_begun_anew boots term (entries term bodies) =
      ap (λ (n : ℕ). map saved_by (world_after (tower s) n es)) long ∙ leaves.saved in
      made_at saved_by (world_after (tower s) size es) i (f boot) (ap (λ (l : List (Saved TowerBody)). slice_get l i) is ∙ make_at f boots i boot at)

  over : (size i boot : ℕ) (o : Option (ℕ × Node TowerBody)) → size ≡ length boots → item boots (suc i) ≡ Some boot → IsOpenedAnew size boot term (entries term bodies) o
      → IsOpenedOver (tower s) (world_after (tower s) size es) (suc i) o
  over size i boot None long at h = tt
  over size i boot (Some b) long at h =
      let p = saved_at size i boot long at in (
        p.0,
        p.1,
        h ∙ ap (λ (v : Saved TowerBody). started size (suc v.boot) v.term v.vote v.log []) (sym p.2)
            ∙ ap (λ (n : ℕ). started_over n p.0) (sym (world_length (tower s) size es)),
      )

  held : (views : List (ViewOf (tower s))) → length views ≡ length boots → WereAnew s boots term bodies views → HeldAfter (tower s) es views
  held views long anew i v at =
      let lt : i < length views = below views i v at in
      let is : item boots (suc i) ≡ Some (item_or boots (suc i) 1) = run_at boots (suc i) (omega arith) (omega arith) in
      over (length views) i (item_or boots (suc i) 1) v.opened long is (anew i (item_or boots (suc i) 1) v at is)

  opened_after : (views : List (ViewOf (tower s))) → length views ≡ length boots → WereAnew s boots term bodies views → OpenedAfter (tower s) (es ++ restarts (tower s) (length boots)) views
  opened_after views long anew =
      subst (λ (n : ℕ). OpenedAfter (tower s) (es ++ restarts (tower s) n) views) long (held_stores (tower s) es views (held views long anew))

  pub is_before : IsBefore s boots term bodies es
  is_before = record { leaves = leaves; opened = opened_after }

-- views over such openings keep the promises
pub running_of : (s : Settings) → KeepThePromises s
running_of s size next before views rule honest opening =
    let h = history (tower s) size next before views rule honest opening in (
      h.0,
      record {
        history = h.1;
        headline = headline_of s (length views) (whole (tower s) before views h.0);
        apart = (handed_apart (tower s) size next before views rule honest opening (handed_once s)).1;
      },
    )

module _ (s : Settings) where
  pub opened : AnewIsOpened s
  opened boots term bodies a = let p = left s boots term bodies a in (p.0, is_before s boots term bodies p.0 p.1)

  pub keep_the_promises : AnewKeepsThePromises s
  keep_the_promises boots term bodies a size next views rule honest long anew =
      let p = opened boots term bodies a in
      let before : List (Event (tower s)) = p.0 ++ restarts (tower s) (length boots) in
      let so : OpenedAfter (tower s) before views = p.1.opened views long anew in
      let r = running_of s size next before views rule honest so in (p.0, p.1, r.0, r.1)
