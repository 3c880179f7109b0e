-- What a store preserves while it writes again what may not be on its disk.
use Rattle.std.proofs.Common.{◌≡◌, inl, inr, ⊎_elim, ℕ, ◌+◌, ◌-◌, ◌<◌, List, [], length, Result, Ok, Err, refl, sym, ◌∙◌, ap, subst, arith}
use Rattle.wire_bytes.specs.Fields.{Reading}
use Rattle.stable_store.specs.declared.saved.Saved.{Saved}
use Rattle.stable_store.specs.declared.store_fault.StoreFault.{StoreFault}
use Rattle.stable_store.specs.Stores.{MayStandStill, nothing_saved}
use Rattle.journal_store.specs.declared.known.Known.{Known}
use Rattle.journal_store.specs.declared.known.Known.TheVariants.{All, ToGate, ButGate}
use Rattle.journal_store.specs.Disks.{DiskState, IsAtRisk, IsImage, Leaves, LeavesOnly, Range, Runs, Within, not_covered, now, writing}
use Rattle.journal_store.specs.Journals.{AtRest}
use Rattle.journal_store.specs.Payloads.{payloads}
use Rattle.journal_store.specs.Serving.{IsClosedAt, IsFound, IsOpening, IsReadable, IsRefusedAs, IsSettled, IsSound, IsStaged, MayStand, StandsFor, StandsForAny, after_error, doubt_of, is_broken, rewriting}
use Rattle.journal_store.proofs.Torn.{settled_image}
use Rattle.journal_store.proofs.Moments.{each_through, while_writing, within_now, within_self}
use Rattle.journal_store.proofs.Saving.{place_within, same_to_gate, stands}
use Rattle.journal_store.proofs.Patching.{patch, patch_front, patched_image, rewritten}
use Rattle.journal_store.proofs.Covering.{all_covered, covers}
use Rattle.journal_store.proofs.Calls.{settled_stands}

module _ {B : Type 0} (body : Reading B) where
  one_saved : (a b : Saved B) → ◌≡◌ {A = Result (Saved B) StoreFault} (Ok a) (Ok b) → a ≡ b
  one_saved a b e = cc

  not_both : (a : Saved B) (e : StoreFault) → ◌≡◌ {A = Result (Saved B) StoreFault} (Ok a) (Err e) → ⊥
  not_both a e is = absurd cc

  closed_stands : (place : ℕ) (file : List ℕ) → (closed : IsClosedAt body place file) → StandsFor body closed.0 file
  closed_stands place file closed = stands (payloads body) nothing_saved file closed.0 place closed.1

  -- a settled journal is also one of which less is known
  pub settled_staged : (states : List DiskState) (s : Saved B) (place : ℕ) → IsSettled body states s place → IsStaged body states place
  settled_staged states s place settled = record {
    closed = λ f im.
        let same : f ≡ settled.file = settled_image settled.file f (subst (λ (d : DiskState). IsImage d f) settled.settled im) in
        (s, subst (λ (l : List ℕ). AtRest (payloads body) nothing_saved l s place) (sym same) settled.rest);
    behind = λ r h. ⊎_elim (λ w. absurd w) (λ l. absurd l) (subst (λ (d : DiskState). IsAtRisk r d) settled.settled h);
  }

  -- a crash during the rewriting can leave whatever one before it could
  pub before_rewriting : (known : Known) (place : ℕ) (s : DiskState) → Within s (rewriting known place s)
  before_rewriting All place s = within_self s
  before_rewriting ToGate place s = while_writing (place + 1) (length s.bytes - (place + 1)) s
  before_rewriting ButGate place s = while_writing place 1 s

  -- ---- what a store is known to have

  module _ (old : List DiskState) (s : Saved B) (place : ℕ) (own : IsImage (now old) (now old).bytes) where
    pub gate_within : (known : Known) → IsSound body old s place known → place < length (now old).bytes
    gate_within All sound = let closed = (settled_staged old s place sound).closed (now old).bytes own in place_within (payloads body) nothing_saved (now old).bytes closed.0 place closed.1
    gate_within ToGate sound = let closed = sound.closed (now old).bytes own in place_within (payloads body) nothing_saved (now old).bytes closed.0 place closed.1
    gate_within ButGate sound = (sound.either (now old).bytes ((while_writing place 1 (now old)).leaves (now old).bytes own)).1

    pub readable : (known : Known) → IsSound body old s place known → Leaves (IsReadable body) (now old)
    readable All sound file im = (s, settled_stands body old s place sound file im)
    readable ToGate sound file im = let closed = sound.closed file im in (closed.0, closed_stands place file closed)
    readable ButGate sound file im = (sound.either file ((while_writing place 1 (now old)).leaves file im)).0

    pub not_refused : (known : Known) → IsSound body old s place known → (e : StoreFault) → IsRefusedAs body (now old).bytes e → ⊥
    not_refused known sound e is = let one = readable known sound (now old).bytes own in not_both one.0 e (sym one.1 ∙ is)

    -- the store may hold what is read
    pub read_stands : (known : Known) → IsSound body old s place known → (v : Saved B) → StandsFor body v (now old).bytes → MayStand body old s (is_broken known) (doubt_of known place) v
    read_stands All sound v is = one_saved v s (sym is ∙ settled_stands body old s place sound (now old).bytes own)
    read_stands ToGate sound v is = record { file = (now old).bytes; image = own; stands = is }
    read_stands ButGate sound v is = record { file = (now old).bytes; image = (while_writing place 1 (now old)).leaves (now old).bytes own; stands = is }

    -- for a settled journal nothing is missing on the disk
    pub settled_left : (known : Known) → known ≡ All → IsSound body old s place known → (now old).left ≡ []
    settled_left All e sound = ap (λ (d : DiskState). d.left) sound.settled
    settled_left ToGate e sound = absurd cc
    settled_left ButGate e sound = absurd cc

    pub staged_of : (known : Known) → known ≡ ToGate → IsSound body old s place known → IsStaged body old place
    staged_of All e sound = absurd cc
    staged_of ToGate e sound = sound
    staged_of ButGate e sound = absurd cc

    pub opening_of : (known : Known) → known ≡ ButGate → IsSound body old s place known → IsOpening body old place
    opening_of All e sound = absurd cc
    opening_of ToGate e sound = absurd cc
    opening_of ButGate e sound = sound

    -- what is written again covers what failed syncs left
    pub behind_covered : IsStaged body old place → not_covered (place + 1) (length (now old).bytes - (place + 1)) (length (now old).bytes) (now old).left ≡ []
    behind_covered sound =
        all_covered (place + 1) (length (now old).bytes - (place + 1)) (length (now old).bytes) (now old).left
        (λ r is. covers (place + 1) (length (now old).bytes - (place + 1)) (length (now old).bytes) r (omega (arith, sound.behind r (inr is))) (omega (arith, gate_within ToGate sound)))

    pub gate_covered : IsOpening body old place → not_covered place 1 (length (now old).bytes) (now old).left ≡ []
    gate_covered sound =
        all_covered place 1 (length (now old).bytes) (now old).left
        (λ r is. let at = sound.gate r (inr is) in covers place 1 (length (now old).bytes) r at.0 (omega (arith, at.1)))

    -- ---- while it is written again

    -- behind a closed gate
    behind_image : IsStaged body old place → (f : List ℕ) → IsImage (writing (place + 1) (length (now old).bytes - (place + 1)) (now old)) f
        → IsImage (now old) (patch (place + 1) (length (now old).bytes - (place + 1)) (now old).bytes f)
    behind_image sound f im = patched_image (now old) (place + 1) (length (now old).bytes - (place + 1)) own (omega (arith, gate_within ToGate sound)) f im

    behind_closed : (sound : IsStaged body old place) (f : List ℕ) (im : IsImage (writing (place + 1) (length (now old).bytes - (place + 1)) (now old)) f)
        → AtRest (payloads body) nothing_saved f (sound.closed (patch (place + 1) (length (now old).bytes - (place + 1)) (now old).bytes f) (behind_image sound f im)).0 place
    behind_closed sound f im =
        let k = place + 1 in
        let m = length (now old).bytes - k in
        let closed = sound.closed (patch k m (now old).bytes f) (behind_image sound f im) in
        same_to_gate (payloads body) nothing_saved (patch k m (now old).bytes f) closed.0 place closed.1 f (sym (patch_front k m (now old).bytes f))

    -- what a crash leaves during the rewriting stands for something that the store might have held
    -- before
    pub rewriting_stands : (known : Known) → IsSound body old s place known → (f : List ℕ) → IsImage (rewriting known place (now old)) f → StandsForAny body (MayStand body old s (is_broken known) (doubt_of known place)) f
    rewriting_stands All sound f im = (s, (refl, settled_stands body old s place sound f im))
    rewriting_stands ToGate sound f im =
        let k = place + 1 in
        let m = length (now old).bytes - k in
        let before = patch k m (now old).bytes f in
        let closed = sound.closed before (behind_image sound f im) in
        (closed.0, (record { file = before; image = behind_image sound f im; stands = closed_stands place before closed }, stands (payloads body) nothing_saved f closed.0 place (behind_closed sound f im)))
    rewriting_stands ButGate sound f im = let one = (sound.either f im).0 in (one.0, (record { file = f; image = im; stands = one.1 }, one.1))

    module _ (new : List DiskState) (t : Saved B) (own_new : IsImage (now new) (now new).bytes) where
      pub mending_moments : (known : Known) → IsSound body old s place known → Runs (rewriting known place (now old)) old new → LeavesOnly (StandsForAny body (MayStand body old s (is_broken known) (doubt_of known place))) old new
      mending_moments known sound runs = record {
        added = runs.added;
        joined = runs.joined;
        each = each_through (λ d. Within d (rewriting known place (now old))) (Leaves (StandsForAny body (MayStand body old s (is_broken known) (doubt_of known place))))
            (λ d within f im. rewriting_stands known sound f (within.leaves f im)) runs.added runs.each;
      }

      behind_within : Runs (rewriting ToGate place (now old)) old new → Within (now new) (rewriting ToGate place (now old))
      behind_within runs = within_now (rewriting ToGate place (now old)) old new (while_writing (place + 1) (length (now old).bytes - (place + 1)) (now old)) runs

      gate_rewritten : Runs (writing place 1 (now old)) old new → Within (now new) (writing place 1 (now old))
      gate_rewritten runs = within_now (writing place 1 (now old)) old new (while_writing place 1 (now old)) runs

      -- also if it is written once more
      gate_again : IsOpening body old place → Runs (writing place 1 (now old)) old new → (f : List ℕ) → IsImage (writing place 1 (now new)) f → IsImage (writing place 1 (now old)) f
      gate_again sound runs f im =
          let within = gate_rewritten runs in
          rewritten (now new) place 1 own_new (omega (arith, (sound.either (now new).bytes (within.leaves (now new).bytes own_new)).1)) (now old) within f im

      -- if one of the calls failed, as much is known as before, except for a journal that was
      -- settled
      pub error_sound : (known : Known) → IsSound body old s place known → Runs (rewriting known place (now old)) old new → IsSound body new t place (after_error known)
      error_sound All sound runs =
          let within = within_now (now old) old new (within_self (now old)) runs in
          let staged = settled_staged old s place sound in
          record { closed = λ f im. staged.closed f (within.leaves f im); behind = λ r h. staged.behind r (within.risks r h) }
      error_sound ToGate sound runs =
          let within = behind_within runs in
          record {
            closed = λ f im. ((sound.closed (patch (place + 1) (length (now old).bytes - (place + 1)) (now old).bytes f) (behind_image sound f (within.leaves f im))).0, behind_closed sound f (within.leaves f im));
            behind = λ r h. ⊎_elim (λ w. ⊎_elim (λ is. omega (arith, ap (λ (q : Range). q.place) is)) (λ more. sound.behind r (inl more)) w) (λ l. sound.behind r (inr l)) (within.risks r h);
          }
      error_sound ButGate sound runs =
          let within = gate_rewritten runs in
          record {
            either = λ f im. sound.either f (gate_again sound runs f im);
            gate = λ r h. ⊎_elim (λ w. ⊎_elim (λ is. (omega (arith, ap (λ (q : Range). q.place) is), omega (arith, ap (λ (q : Range). q.place) is, ap (λ (q : Range). q.size) is))) (λ more. sound.gate r (inl more)) w) (λ l. sound.gate r (inr l)) (within.risks r h);
          }

      -- and the store may hold only what it might before
      pub error_stands : (known : Known) → IsSound body old s place known → Runs (rewriting known place (now old)) old new
          → MayStandStill (MayStand body old s (is_broken known) (doubt_of known place)) (MayStand body new t (is_broken (after_error known)) (doubt_of (after_error known) place))
      error_stands All sound runs v is =
          let within = within_now (now old) old new (within_self (now old)) runs in
          one_saved v s (sym is.stands ∙ settled_stands body old s place sound is.file (within.leaves is.file is.image))
      error_stands ToGate sound runs v is =
          let any = rewriting_stands ToGate sound is.file ((behind_within runs).leaves is.file is.image) in
          subst (λ (u : Saved B). IsFound body (now old) u) (one_saved any.0 v (sym any.1.1 ∙ is.stands)) any.1.0
      error_stands ButGate sound runs v is = record { file = is.file; image = gate_again sound runs is.file is.image; stands = is.stands }
