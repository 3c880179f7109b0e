-- The entries of a log of one term.
use Rattle.std.proofs.Common.{◌≡◌, ℕ, suc, ◌+◌, ◌≤◌, List, [], ◌∷◌, length, map, refl, ap, ◌∙◌, true}
use Rattle.std.proofs.lemmas.List.{length-map}
use Rattle.machine_laws.specs.Runs.{run}
use Rattle.wire_bytes.specs.declared.origin.Origin.{Origin}
use Rattle.buffer_commands.specs.Settings.{Settings}
use Rattle.raft_log.specs.declared.entry.Entry.{Entry}
use Rattle.bouncer_tower.specs.Bodies.{TowerBody}
use Rattle.irc_line.specs.Keys.{is_in}
use Rattle.renewal.specs.Lists.{AreNoted, BegunAnew, IsRenewal, are_known, bodies_of, client_of, entry_of, floors_from, floors_of, most, settled, was_joined}
use Rattle.renewal.proofs.Changes.{begun_was}
use Rattle.renewal.proofs.Settled.{parted}

bodies-are : {B : Type 0} (term : ℕ) (bs : List B) → bodies_of (map (entry_of term) bs) ≡ bs
bodies-are term [] = refl
bodies-are term (b ∷ bs) = ap (λ xs. b ∷ xs) (bodies-are term bs)

floors-count : (node : ℕ) (boots : List ℕ) → length (floors_from node boots) ≡ length boots
floors-count node [] = refl
floors-count node (b ∷ bs) = ap (λ n. suc n) (floors-count (node + 1) bs)

pub is_renewal : (s t : Settings) (forgotten names : List (List ℕ)) (boots : List ℕ) (term next : ℕ) (client : Origin) (floors : List (ℕ × ℕ)) (old new : List (Entry TowerBody)) (bodies : List TowerBody)
    → next ≡ term + 1 → client ≡ client_of boots → floors ≡ floors_of boots → new ≡ map (entry_of next) bodies
    → AreNoted s (run (bodies_of old)) names
    → BegunAnew s t forgotten (λ k. is_in k names) next client (settled floors (run (bodies_of old))) bodies
    → are_known s (settled floors (run (bodies_of old))) forgotten ≡ true
    → length bodies ≤ most s t (settled floors (run (bodies_of old))) (length floors)
    → IsRenewal s t forgotten boots term old new
is_renewal s t forgotten names boots term next client floors old new bodies n c f l noted b k h =
    let there : bodies_of new ≡ bodies = ap bodies_of l ∙ bodies-are next bodies in
    let many : length new ≡ length bodies = ap length l ∙ rw length-map refl in
    record {
      begun = rw (there, ← n, ← c, ← f) (begun_was s t forgotten (λ k. is_in k names) (was_joined s (run (bodies_of old))) next client (settled floors (run (bodies_of old))) bodies noted b);
      known = rw (← f) k;
      parted = parted s (floors_of boots) (run (bodies_of old));
      few = rw (many, ← floors-count 1 boots, ← f) h;
      terms = rw (there, ← n) l;
    }
