-- At every moment each node is sound.
use Rattle.std.proofs.Common.{◌≡◌, ℕ, List, [], ◌∷◌, ⊎_elim, Option, Some, None, length, refl, sym, subst, ◌∙◌}
use Rattle.std.proofs.Math.ListN.{length-replicate}
use Rattle.raft_log.specs.Lists.{item}
use Rattle.raft_log.specs.Node.{Node}
use Rattle.raft_node.specs.Machine.{Machine}
use Rattle.raft_node.specs.Raft.{newborn}
use Rattle.raft_node.specs.Steps.{own}
use Rattle.raft_node.specs.Sound.{IsSound}
use Rattle.raft_node.proofs.Items.{length-with_item, item_of_with, item_of_replicate}
use Rattle.raft_node.proofs.Keeps.{begins_sound, stays_sound}
use Rattle.agreement.specs.World.{start}
use Rattle.world_run.specs.World.{Event, stepper, own_of, world_by, happens}
use Rattle.world_run.specs.Laws.{OverAll, EachIsSound}
use Rattle.world_run.proofs.Lowers.{Always, always_at}

module _ (M : Machine) (n : ℕ) where
  record SoundNow (w : List (Node M.Body)) : Type 0 where
    long : length w ≡ n
    each : (i : ℕ) (s : Node M.Body) → item w i ≡ Some s → IsSound n s

  sound_happens : (w : List (Node M.Body)) (e : Event M) → SoundNow w → SoundNow (happens M w e)
  sound_happens w e h = by_item (item w (stepper M w e)) refl
    where
      by_item : (o : Option (Node M.Body)) → item w (stepper M w e) ≡ o → SoundNow (world_by M w (stepper M w e) (own_of M w e) o)
      by_item None p = h
      by_item (Some s) p =
          record {
            long = length-with_item w (stepper M w e) (own M (length w) (stepper M w e) (own_of M w e) s).node ∙ h.long;
            each = λ j y at.
                ⊎_elim
                (λ r. subst (IsSound n) r.1 (subst (λ k. IsSound n (own M k (stepper M w e) (own_of M w e) s).node) (sym h.long) (stays_sound M n (stepper M w e) (own_of M w e) s (h.each (stepper M w e) s p))))
                (λ r. h.each j y r.1)
                (item_of_with w (stepper M w e) _ j y s p at);
          }

  sound_always : (es : List (Event M)) (w : List (Node M.Body)) → SoundNow w → Always M SoundNow es w
  sound_always [] w h = h
  sound_always (e ∷ es) w h = (h, sound_always es (happens M w e) (sound_happens w e h))

  sound_start : SoundNow (start n)
  sound_start =
      record {
        long = length-replicate {A = Node M.Body} n (newborn n);
        each = λ i s at. subst (IsSound n) (item_of_replicate n i (newborn n) s at) (begins_sound M.Body n);
      }

module _ (M : Machine) where
  pub each_is_sound : OverAll M EachIsSound
  each_is_sound size es k a s at = (always_at M (SoundNow M size) es (start size) k (sound_always M size es (start size) (sound_start M size))).each a s at
