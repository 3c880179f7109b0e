-- The state found on a disk whose file is synced is the one that the file stands for.
use Rattle.std.proofs.Common.{◌≡◌, ℕ, List, Ok, Err, subst}
use Rattle.wire_bytes.specs.Fields.{Reading}
use Rattle.stable_store.specs.declared.saved.Saved.{Saved}
use Rattle.stable_store.specs.declared.store_fault.StoreFault.{StoreFault}
use Rattle.stable_store.specs.Stores.{nothing_saved}
use Rattle.journal_store.specs.Disks.{DiskState, IsImage, settled_at}
use Rattle.journal_store.specs.Journals.{found}
use Rattle.journal_store.specs.Payloads.{payloads}
use Rattle.journal_store.specs.Serving.{IsFound, IsRefused}
use Rattle.journal_store.proofs.Torn.{settled_image}

module _ {B : Type 0} (taken : Reading B) (bytes : List ℕ) (s : DiskState) (is : s ≡ settled_at bytes) where
  image_is : (file : List ℕ) → IsImage s file → file ≡ bytes
  image_is file image = settled_image bytes file (subst (λ (d : DiskState). IsImage d file) is image)

  pub found_is : (saved : Saved B) → IsFound taken s saved → found (payloads taken) nothing_saved bytes ≡ Ok saved
  found_is saved h = subst (λ (f : List ℕ). found (payloads taken) nothing_saved f ≡ Ok saved) (image_is h.file h.image) h.stands

  pub refused_is : (fault : StoreFault) → IsRefused taken s fault → found (payloads taken) nothing_saved bytes ≡ Err fault
  refused_is fault h = subst (λ (f : List ℕ). found (payloads taken) nothing_saved f ≡ Err fault) (image_is h.file h.image) h.refused
