-- A store in a journal and a disk in memory obey the laws of their traits. These lemmas need not be trusted.
use Rattle.std.proofs.Common.{◌≡◌, ℕ, Bool, true, false, List, Option, refl, arith}
use Rattle.std.specs.Prelude.{◌↔◌}
use Rattle.wire_bytes.specs.Fields.{Reading}
use Rattle.stable_store.specs.declared.saved.Saved.{Saved}
use Rattle.journal_store.specs.Disks.{DiskState, IsImage, settled_at}
use Rattle.journal_store.specs.Serving.{MayStand}

pub own_image : (bytes : List ℕ) → IsImage (settled_at bytes) bytes
own_image bytes = record { no_shorter = omega arith; no_longer = omega arith; stays = λ i lt below out left. refl }

pub sure_of : {B : Type 0} (body : Reading B) (states : List DiskState) (saved : Saved B) (broken : Bool) (doubt : Option ℕ) (v : Saved B)
    → broken ≡ false → MayStand body states saved broken doubt v ↔ (v ≡ saved)
sure_of body states saved true doubt v h = absurd cc
sure_of body states saved false doubt v h = (λ e. e, λ e. e)
