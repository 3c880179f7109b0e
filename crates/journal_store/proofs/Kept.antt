-- What the four calls of a save preserve of a journal.
use Rattle.std.proofs.Common.{◌≡◌, inl, inr, ⊎_elim, ℕ, ◌+◌, ◌<◌, ◌≤◌, List, ◌∷◌, [], length, sym, ap, subst, arith}
use Rattle.wire_bytes.specs.Fields.{Reading}
use Rattle.wire_bytes.specs.Codecs.{IsCodec}
use Rattle.stable_store.specs.declared.saved.Saved.{Saved}
use Rattle.stable_store.specs.Changes.{ChangeParts, spelled_change, FitsChange}
use Rattle.stable_store.specs.Stores.{MayFollow, changed, nothing_saved}
use Rattle.journal_store.specs.declared.known.Known.{Known}
use Rattle.journal_store.specs.declared.known.Known.TheVariants.{All, ToGate, ButGate}
use Rattle.journal_store.specs.Disks.{DiskState, Range, now, settled_at, writing, written_over, Leaves, LeavesOnly, Gated, IsAtRisk, IsGated, IsImage, Runs, Within}
use Rattle.journal_store.specs.Journals.{AtRest, staged}
use Rattle.journal_store.specs.Payloads.{payloads}
use Rattle.journal_store.specs.Serving.{IsBeforeOrAfter, IsReadable, IsSettled, IsSound, doubt_of, doubted}
use Rattle.journal_store.proofs.Changes.{spells}
use Rattle.journal_store.proofs.Moments.{while_writing, within_now}
use Rattle.journal_store.proofs.Scanning.{Spells}
use Rattle.journal_store.proofs.Standing.{after_save}
use Rattle.journal_store.proofs.Saving.{first_rest, first_within, mid_is, place_within, save_moments, save_done, second_long, second_write, written_again}

-- the gate of a settled journal is within its file
pub gate_within : {B : Type 0} (body : Reading B) (states : List DiskState) (s : Saved B) (place : ℕ) → IsSettled body states s place → place < length (now states).bytes
gate_within body states s place settled =
    subst (λ (d : DiskState). place < length d.bytes) (sym settled.settled) (place_within (payloads body) nothing_saved settled.file s place settled.rest)

module _ {B : Type 0} (spelled : B → List ℕ) (fits : B → Type 0) (taken : Reading B) (codec : IsCodec spelled fits taken) (old new : List DiskState) (s : Saved B) (place : ℕ) (settled : IsSettled taken old s place)
    (c : ChangeParts B) (fitting : FitsChange fits spelled c) (may : MayFollow s c) (bytes : List ℕ) (bytes_are : bytes ≡ staged (spelled_change spelled c)) where
  abbrev payload : List ℕ
  payload = spelled_change spelled c

  spell : Spells (payloads taken) s c payload
  spell = spells spelled fits taken codec s c fitting may

  of_staged : (known : Known) → Gated place bytes old new known → Gated place (staged payload) old new known
  of_staged known calls = subst (λ (l : List ℕ). Gated place l old new known) bytes_are calls

  pub moments_of : (known : Known) → Gated place bytes old new known → LeavesOnly (IsBeforeOrAfter taken s c) old new
  moments_of known calls = save_moments (payloads taken) nothing_saved settled.file s place settled.rest c payload spell old new known settled.settled (of_staged known calls)

  -- if the calls stopped before the first sync was done
  staged_now : (calls : Gated place (staged payload) old new ToGate) → new ≡ calls.mid → Within (now new) (writing (place + 1) (length (staged payload)) (settled_at settled.file))
  staged_now calls stopped =
      subst (λ (l : List DiskState). Within (now l) (writing (place + 1) (length (staged payload)) (settled_at settled.file))) (sym stopped)
      (first_within (payloads taken) nothing_saved settled.file s place settled.rest (length (staged payload)) old calls.mid settled.settled calls.first)

  staged_risk : (r : Range) → IsAtRisk r (writing (place + 1) (length (staged payload)) (settled_at settled.file)) → place < r.place
  staged_risk r h = ⊎_elim (λ w. ⊎_elim (λ is. omega (arith, ap (λ (q : Range). q.place) is)) (λ none. absurd none) w) (λ l. absurd l) h

  opening_risk : (d : DiskState) (file : List ℕ) → d ≡ settled_at file → (r : Range) → IsAtRisk r (writing place 1 d) → (place ≤ r.place) × (r.place + r.size ≤ place + 1)
  opening_risk d file is r at =
      let h = subst (λ (b : DiskState). IsAtRisk r (writing place 1 b)) is at in
      ⊎_elim (λ w. ⊎_elim (λ same. (omega (arith, ap (λ (q : Range). q.place) same), omega (arith, ap (λ (q : Range). q.place) same, ap (λ (q : Range). q.size) same))) (λ none. absurd none) w) (λ l. absurd l) h

  -- if they stopped after it
  gate_written : (calls : Gated place (staged payload) old new ButGate) → IsImage (now new) (now new).bytes
      → (now calls.mid ≡ settled_at (written_over (now old).bytes (place + 1) (staged payload))) × Runs (writing place 1 (now calls.mid)) calls.mid new
      → (f : List ℕ) → IsImage (writing place 1 (now new)) f → IsBeforeOrAfter taken s c f × (place < length f)
  gate_written calls own went_on f im =
      let mid = mid_is (payloads taken) nothing_saved settled.file s place settled.rest c payload spell old calls.mid settled.settled went_on.0 in
      let again = written_again (payloads taken) nothing_saved settled.file s place settled.rest c payload spell calls.mid new mid went_on.1 own f im in
      (second_write (payloads taken) nothing_saved settled.file s place settled.rest c payload spell f again, second_long (payloads taken) nothing_saved settled.file s place settled.rest c payload spell f again)

  gate_risk : (calls : Gated place (staged payload) old new ButGate)
      → (now calls.mid ≡ settled_at (written_over (now old).bytes (place + 1) (staged payload))) × Runs (writing place 1 (now calls.mid)) calls.mid new
      → (r : Range) → IsAtRisk r (now new) → (place ≤ r.place) × (r.place + r.size ≤ place + 1)
  gate_risk calls went_on r h =
      let within = within_now (writing place 1 (now calls.mid)) calls.mid new (while_writing place 1 (now calls.mid)) went_on.1 in
      let mid = mid_is (payloads taken) nothing_saved settled.file s place settled.rest c payload spell old calls.mid settled.settled went_on.0 in
      opening_risk (now calls.mid) _ mid r (within.risks r h)

  of_either : (f : List ℕ) → IsBeforeOrAfter taken s c f → IsReadable taken f
  of_either f one = ⊎_elim (λ a. (s, a)) (λ b. (changed s c, b)) one

  sound_staged : (known : Known) → Gated place (staged payload) old new known → IsImage (now new) (now new).bytes → IsSound taken new s place known
  sound_staged All calls own = elim calls.second [
    | inl stopped ↦ absurd cc
    | inr went_on ↦ absurd cc
  ]
  sound_staged ToGate calls own = elim calls.second [
    | inl stopped ↦
        let within = staged_now calls stopped.1 in
        record { closed = λ f im. (s, first_rest (payloads taken) nothing_saved settled.file s place settled.rest (length (staged payload)) f (within.leaves f im)); behind = λ r h. staged_risk r (within.risks r h) }
    | inr went_on ↦ absurd cc
  ]
  sound_staged ButGate calls own = elim calls.second [
    | inl stopped ↦ absurd cc
    | inr went_on ↦ record {
      either = λ f im. let one = gate_written calls own went_on.1 f im in (of_either f one.0, one.1);
      gate = gate_risk calls went_on.1;
    }
  ]

  doubt_staged : (known : Known) → Gated place (staged payload) old new known → IsImage (now new) (now new).bytes → LeavesOnly (IsBeforeOrAfter taken s c) old new
      → Leaves (IsBeforeOrAfter taken s c) (doubted (doubt_of known place) (now new))
  doubt_staged All calls own moments = elim calls.second [
    | inl stopped ↦ absurd cc
    | inr went_on ↦ absurd cc
  ]
  doubt_staged ToGate calls own moments = λ f im. after_save taken old new s (changed s c) place settled moments f im
  doubt_staged ButGate calls own moments = elim calls.second [
    | inl stopped ↦ absurd cc
    | inr went_on ↦ λ f im. (gate_written calls own went_on.1 f im).0
  ]

  -- however far the four calls came, what is known to be on the disk is there
  pub sound_on : (known : Known) → Gated place bytes old new known → IsImage (now new) (now new).bytes → IsSound taken new s place known
  sound_on known calls own = sound_staged known (of_staged known calls) own

  -- and each file that a crash leaves stands for what was before or after, whether the gate is open or closed
  pub doubt_on : (known : Known) → Gated place bytes old new known → IsImage (now new) (now new).bytes → Leaves (IsBeforeOrAfter taken s c) (doubted (doubt_of known place) (now new))
  doubt_on known calls own = doubt_staged known (of_staged known calls) own (moments_of known calls)

  pub settled_on : IsGated place bytes old new → IsSettled taken new (changed s c) (place + length bytes)
  settled_on done =
      let is = subst (λ (l : List ℕ). now new ≡ settled_at (written_over (written_over (now old).bytes (place + 1) l) place (1 ∷ []))) bytes_are done.0 in
      let rest = save_done (payloads taken) nothing_saved settled.file s place settled.rest c (spelled_change spelled c) (spells spelled fits taken codec s c fitting may) old new settled.settled is in
      record { file = rest.0; settled = rest.1; rest = subst (λ (l : List ℕ). AtRest (payloads taken) nothing_saved rest.0 (changed s c) (place + length l)) (sym bytes_are) rest.2; small = omega (arith, done.1) }
