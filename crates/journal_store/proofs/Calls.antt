-- What each call of a store in a journal preserves.
use Rattle.std.proofs.Common.{◌≡◌, inl, inr, ⊎_elim, ℕ, Bool, true, false, List, refl, ◌∙◌, ap, subst}
use Rattle.std.specs.Prelude.{IsTrue}
use Rattle.wire_bytes.specs.Fields.{Reading}
use Rattle.stable_store.specs.declared.saved.Saved.{Saved}
use Rattle.stable_store.specs.Changes.{ChangeParts}
use Rattle.stable_store.specs.Stores.{MayFollow, MayStandAfter, Serves, changed, nothing_saved}
use Rattle.journal_store.specs.declared.known.Known.{Known}
use Rattle.journal_store.specs.declared.known.Known.TheVariants.{All, ToGate, ButGate}
use Rattle.journal_store.specs.Disks.{DiskState, IsImage, Leaves, now}
use Rattle.journal_store.specs.Journals.{found}
use Rattle.journal_store.specs.Payloads.{payloads}
use Rattle.journal_store.specs.Serving.{IsBeforeOrAfter, condition, doubt_of, doubted, is_broken, IsSettled, IsSound, Journal, MayStand, StandsFor}
use Rattle.journal_store.proofs.Torn.{settled_image}
use Rattle.journal_store.proofs.Saving.{stands}
use Rattle.journal_store.proofs.Standing.{either_found}

module _ {B : Type 0} (body : Reading B) where
  -- whatever a crash leaves of a settled journal stands for what is saved
  pub settled_stands : (states : List DiskState) (s : Saved B) (place : ℕ) → IsSettled body states s place → Leaves (StandsFor body s) (now states)
  settled_stands states s place settled file im =
      let same : file ≡ settled.file = settled_image settled.file file (subst (λ (d : DiskState). IsImage d file) settled.settled im) in
      ap (found (payloads body) nothing_saved) same ∙ stands (payloads body) nothing_saved settled.file s place settled.rest

  -- after a save that was not finished the store may hold what was before it, or the change
  pub saved_stands : (old new : List DiskState) (s : Saved B) (place : ℕ) (known after : Known) (c : ChangeParts B) (end : ℕ) (t : Saved B) → is_broken known ≡ false → is_broken after ≡ true → MayFollow s c
      → Leaves (IsBeforeOrAfter body s c) (doubted (doubt_of after end) (now new))
      → MayStandAfter (MayStand body old s (is_broken known) (doubt_of known place)) c (MayStand body new t (is_broken after) (doubt_of after end))
  saved_stands old new s place All All c end t e broken may each v is = absurd cc
  saved_stands old new s place All ToGate c end t e broken may each v is =
      ⊎_elim (λ a. inl a) (λ b. inr (record { before = s; stands = refl; follows = may; is = b })) (either_found body s (changed s c) v (doubted (doubt_of ToGate end) (now new)) each is)
  saved_stands old new s place All ButGate c end t e broken may each v is =
      ⊎_elim (λ a. inl a) (λ b. inr (record { before = s; stands = refl; follows = may; is = b })) (either_found body s (changed s c) v (doubted (doubt_of ButGate end) (now new)) each is)
  saved_stands old new s place ToGate after c end t e broken may each v is = absurd cc
  saved_stands old new s place ButGate after c end t e broken may each v is = absurd cc

  -- after a save that was done, but not in memory, the store may hold the change
  pub save_done_stands : (old new : List DiskState) (s : Saved B) (place : ℕ) (known : Known) (c : ChangeParts B) (end : ℕ) (t : Saved B) → is_broken known ≡ false → MayFollow s c → IsSettled body new (changed s c) end
      → MayStandAfter (MayStand body old s (is_broken known) (doubt_of known place)) c (MayStand body new t (is_broken ToGate) (doubt_of ToGate end))
  save_done_stands old new s place known c end t e may settled =
      saved_stands old new s place known ToGate c end t e refl may (λ f im. inr (settled_stands new (changed s c) end settled f im))

  -- it is known what a settled journal stands for
  pub settled_of : (states : List DiskState) (s : Saved B) (place : ℕ) (known : Known) → is_broken known ≡ false → IsSound body states s place known → IsSettled body states s place
  settled_of states s place All e sound = sound
  settled_of states s place ToGate e sound = absurd cc
  settled_of states s place ButGate e sound = absurd cc

-- what a store that can be used requires of a change is required of its fields
pub follows_of : {B Disk : Type 0} (honest : Disk → Bool) (failures : Disk → ℕ) (c : ChangeParts B) (i j : Journal B Disk) → i ≡ j → (Serves (condition honest failures j) → MayFollow j.saved c)
    → IsTrue (honest i.disk) → i.broken ≡ false → MayFollow i.saved c
follows_of {B} {Disk} honest failures c i j same asked h whole = subst (λ (k : Journal B Disk). (Serves (condition honest failures k) → MayFollow k.saved c) → MayFollow i.saved c) same (λ asks. asks (h, whole)) asked
