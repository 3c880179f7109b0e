-- A disk in memory obeys the laws of its trait. These lemmas need not be trusted.
use Rattle.std.proofs.Common.{◌≡◌, ℕ, suc, ◌+◌, ◌≤◌, Bool, true, false, List, [], ◌∷◌, ◌++◌, length, take, drop, refl, sym, ◌∙◌, ap, subst, arith, length-append}
use Rattle.std.specs.Prelude.{if◌then◌else◌}
use Rattle.std.proofs.lemmas.List.{length-take, length-drop}
use Rattle.journal_store.specs.Disks.{DiskState, IsImage, Range, not_covered, now, settled_at, synced_but}
use Rattle.fault_disks.specs.declared.call.Call.{Call}
use Rattle.fault_disks.specs.declared.call.Call.TheVariants.{Len, Read, Write, Sync}
use Rattle.fault_disks.specs.declared.call.Called.{Called}
use Rattle.fault_disks.specs.Calls.{failed, moments_after, moments_from, replayed, state_after}

-- what is read is no shorter and no longer than a crash may leave
pub record IsWithin (s : DiskState) : Type 0 where
  pub least : s.least ≤ length s.bytes
  pub most : length s.bytes ≤ s.most

synced_within : (left : List Range) (s : DiskState) → IsWithin s → IsWithin (synced_but left s)
synced_within [] s h = record { least = omega arith; most = omega arith }
synced_within (r ∷ left) s h = record { least = h.least; most = h.most }

after_within : (call : Call) (passed : Bool) (s : DiskState) → IsWithin s → IsWithin (state_after call passed s)
after_within Len passed s h = h
after_within (Read place len) passed s h = h
after_within (Write place bytes) true s h =
    let size = length-append (take place s.bytes) (bytes.items ++ drop (place + length bytes.items) s.bytes) in
    let more = length-append bytes.items (drop (place + length bytes.items) s.bytes) in
    record {
      least = omega (arith, h.least, size, more, length-take place s.bytes, length-drop (place + length bytes.items) s.bytes);
      most = omega (arith, h.most, size, more, length-take place s.bytes, length-drop (place + length bytes.items) s.bytes);
    }
after_within (Write place bytes) false s h = record { least = h.least; most = omega (arith, h.most) }
after_within Sync true s h = synced_within s.left s h
after_within Sync false s h = record { least = h.least; most = h.most }

-- the newest moment is the state after the calls
pub now_after : (call : Call) (passed : Bool) (states : List DiskState) → now (moments_after call passed states) ≡ state_after call passed (now states)
now_after Len passed states = refl
now_after (Read place len) passed states = refl
now_after (Write place bytes) passed states = refl
now_after Sync passed states = refl

pub now_replayed : (states : List DiskState) (calls : List Called) → now (moments_from states calls) ≡ replayed (now states) calls
now_replayed states [] = refl
now_replayed states (c ∷ calls) =
    now_replayed (moments_after c.call c.passed states) calls ∙ ap (λ (s : DiskState). replayed s calls) (now_after c.call c.passed states)

replayed_within : (s : DiskState) (calls : List Called) → IsWithin s → IsWithin (replayed s calls)
replayed_within s [] h = h
replayed_within s (c ∷ calls) h = replayed_within (state_after c.call c.passed s) calls (after_within c.call c.passed s h)

pub moments_within : (first : List ℕ) (calls : List Called) → IsWithin (now (moments_from (settled_at first ∷ []) calls))
moments_within first calls =
    subst IsWithin (sym (now_replayed (settled_at first ∷ []) calls)) (replayed_within (settled_at first) calls (record { least = omega arith; most = omega arith }))

pub own_image : (first : List ℕ) (calls : List Called) → let s = now (moments_from (settled_at first ∷ []) calls) in IsImage s s.bytes
own_image first calls = let h = moments_within first calls in record { no_shorter = h.least; no_longer = h.most; stays = λ i lt below out left. refl }

-- if no call failed, no sync has left anything
after_passed : (call : Call) (s : DiskState) → s.left ≡ [] → (state_after call true s).left ≡ []
after_passed Len s none = none
after_passed (Read place len) s none = none
after_passed (Write place bytes) s none = ap (not_covered place (length bytes.items) (length (state_after (Write place bytes) true s).bytes)) none
after_passed Sync s none = ap (λ (l : List Range). (synced_but l s).left) none

if_passed : (passed : Bool) (n : ℕ) → (if passed then n else suc n) ≡ 0 → (passed ≡ true) × (n ≡ 0)
if_passed true n e = (refl, e)
if_passed false n e = absurd (omega (arith, e))

replayed_passed : (s : DiskState) (calls : List Called) → s.left ≡ [] → failed calls ≡ 0 → (replayed s calls).left ≡ []
replayed_passed s [] none passed = none
replayed_passed s (c ∷ calls) none passed =
    let each = if_passed c.passed (failed calls) passed in
    replayed_passed (state_after c.call c.passed s) calls (subst (λ (b : Bool). (state_after c.call b s).left ≡ []) (sym each.0) (after_passed c.call s none)) each.1

pub none_left : (first : List ℕ) (calls : List Called) → failed calls ≡ 0 → (now (moments_from (settled_at first ∷ []) calls)).left ≡ []
none_left first calls passed = ap (λ (s : DiskState). s.left) (now_replayed (settled_at first ∷ []) calls) ∙ replayed_passed (settled_at first) calls refl passed
