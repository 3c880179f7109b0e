-- What one more call does to a recorded disk.
use Rattle.std.proofs.Common.{◌≡◌, inl, inr, ◌⊎◌, ⊎_elim, ℕ, suc, ◌+◌, ◌<◌, ◌≤◌, ◌^◌, Bool, true, false, List, [], ◌∷◌, ◌++◌, length, Result, Ok, Err, Vec, refl, sym, ◌∙◌, ap, subst, arith}
use Rattle.std.specs.Prelude.{if◌then◌else◌, cond, OnOk}
use Rattle.std.specs.declared.alloc.Global.{Global}
use Rattle.journal_store.specs.declared.disk_fault.DiskFault.{DiskFault}
use Rattle.journal_store.specs.declared.disk_fault.DiskFault.TheVariants.{Device, Memory}
use Rattle.journal_store.specs.Causes.{HasCause}
use Rattle.journal_store.specs.Disks.{DiskState, IsOneOf, IsOutside, IsSynced, IsWritten, Range, Runs, Within, is_not_covered, not_covered, now, settled_at, synced_but, writing}
use Rattle.journal_store.proofs.Overs.{after, before}
use Rattle.journal_store.proofs.Moments.{within_self}
use Rattle.fault_disks.specs.declared.call.Call.{Call}
use Rattle.fault_disks.specs.declared.call.Call.TheVariants.{Write, Sync}
use Rattle.fault_disks.specs.declared.call.Called.{Called}
use Rattle.fault_disks.specs.Calls.{IsCalled, Recorded, dropped, failed, moments, moments_after, moments_from, recorded, written}
use Rattle.fault_disks.specs.CallLaws.{IsWithin, moments_within}

moments_push : (states : List DiskState) (calls : List Called) (call : Call) (passed : Bool)
    → moments_from states (calls ++ record { call = call; passed = passed } ∷ []) ≡ moments_after call passed (moments_from states calls)
moments_push states [] call passed = refl
moments_push states (c ∷ calls) call passed = moments_push (moments_after c.call c.passed states) calls call passed

-- the moments of a disk with one more call
pub moments_of : (old new : Recorded) (call : Call) (passed : Bool) → new ≡ recorded old call passed → moments new ≡ moments_after call passed (moments old)
moments_of old new call passed is = ap moments is ∙ moments_push (settled_at old.first ∷ []) old.calls call passed

failed_passed : (calls : List Called) (call : Call) → failed (calls ++ record { call = call; passed = true } ∷ []) ≡ failed calls
failed_passed [] call = refl
failed_passed (c ∷ calls) call = ap (λ (n : ℕ). if c.passed then n else suc n) (failed_passed calls call)

one_more : (b : Bool) (n : ℕ) → (if b then suc n else suc (suc n)) ≡ suc (if b then n else suc n)
one_more true n = refl
one_more false n = refl

failed_failed : (calls : List Called) (call : Call) → failed (calls ++ record { call = call; passed = false } ∷ []) ≡ suc (failed calls)
failed_failed [] call = refl
failed_failed (c ∷ calls) call = ap (λ (n : ℕ). if c.passed then n else suc n) (failed_failed calls call) ∙ one_more c.passed (failed calls)

-- a failure is counted if `Device` is returned
pub cause_of : {T : Type 0} (r : Result T DiskFault) (call : Call) (old new : Recorded) → IsCalled r call old new → HasCause (failed old.calls) (failed new.calls) r
cause_of (Ok x) call old new is =
    let same : failed new.calls ≡ failed old.calls = ap (λ (d : Recorded). failed d.calls) is.1 ∙ failed_passed old.calls call in
    record { later = omega (arith, same); failed = λ e. absurd cc; lacked = λ e. absurd cc; passed = same }
cause_of (Err Device) call old new is =
    let more : failed new.calls ≡ suc (failed old.calls) = ap (λ (d : Recorded). failed d.calls) is.1 ∙ failed_failed old.calls call in
    record { later = omega (arith, more); failed = λ e. inl (omega (arith, more)); lacked = λ e. absurd cc; passed = tt }
cause_of (Err Memory) call old new is =
    let same : failed new.calls ≡ failed old.calls = ap (λ (d : Recorded). failed d.calls) is in
    record { later = omega (arith, same); failed = λ e. absurd cc; lacked = λ e. same; passed = tt }

-- a place outside of all ranges is outside of those that a write does not cover
outside_more : (b : Bool) (i : ℕ) (r : Range) (more : List Range) → (i < r.place) ⊎ (r.place + r.size ≤ i) → IsOutside i more → IsOutside i (cond b (r ∷ more) more)
outside_more true i r more first rest = (first, rest)
outside_more false i r more first rest = rest

outside_not_covered : (place n len i : ℕ) (ranges : List Range) → IsOutside i ranges → IsOutside i (not_covered place n len ranges)
outside_not_covered place n len i [] out = tt
outside_not_covered place n len i (r ∷ ranges) out = outside_more (is_not_covered place n len r) i r (not_covered place n len ranges) out.0 (outside_not_covered place n len i ranges out.1)

-- and each of those is one of all
one_of_more : (b : Bool) (q r : Range) (more ranges : List Range) → (IsOneOf q more → IsOneOf q ranges) → IsOneOf q (cond b (r ∷ more) more) → IsOneOf q (r ∷ ranges)
one_of_more true q r more ranges rest h = ⊎_elim (λ a. inl a) (λ b. inr (rest b)) h
one_of_more false q r more ranges rest h = inr (rest h)

one_not_covered : (place n len : ℕ) (q : Range) (ranges : List Range) → IsOneOf q (not_covered place n len ranges) → IsOneOf q ranges
one_not_covered place n len q [] h = h
one_not_covered place n len q (r ∷ ranges) h = one_of_more (is_not_covered place n len r) q r (not_covered place n len ranges) ranges (one_not_covered place n len q ranges) h

-- what a write puts over the bytes is within what it may leave
written_within : (s : DiskState) (place : ℕ) (bytes : List ℕ) → place ≤ length s.bytes → Within (written place bytes s) (writing place (length bytes) s)
written_within s place bytes within = record {
  leaves = λ file im. record {
    no_shorter = im.no_shorter;
    no_longer = im.no_longer;
    stays = λ i lt below out left. im.stays i lt below out (outside_not_covered place (length bytes) _ i s.left left) ∙ ⊎_elim (λ l. before s.bytes place bytes within i l) (λ r. after s.bytes place bytes within i r) out.0;
  };
  risks = λ r h. ⊎_elim (λ w. inl w) (λ l. inr (one_not_covered place (length bytes) _ r s.left l)) h;
}

one_added : (bound : DiskState) (old new : List DiskState) (s : DiskState) → new ≡ s ∷ old → Within s bound → Runs bound old new
one_added bound old new s is within = record { added = s ∷ []; joined = is; each = (within, tt) }

none_added : (bound : DiskState) (old new : List DiskState) → new ≡ old → Runs bound old new
none_added bound old new is = record { added = []; joined = is; each = tt }

-- a write, whether it passed or not
pub write_runs : (r : Result (Unit {0}) DiskFault) (old new : Recorded) (place : ℕ) (v : Vec ℕ Global) (bytes : List ℕ) → v.items ≡ bytes → place ≤ length (now (moments old)).bytes → IsCalled r (Write place v) old new
    → Runs (writing place (length bytes) (now (moments old))) (moments old) (moments new)
write_runs (Ok x) old new place v bytes same within is =
    subst (λ (l : List ℕ). Runs (writing place (length l) (now (moments old))) (moments old) (moments new)) same
    (one_added _ _ _ _ (moments_of old new (Write place v) true is.1) (written_within (now (moments old)) place v.items within))
write_runs (Err Device) old new place v bytes same within is =
    subst (λ (l : List ℕ). Runs (writing place (length l) (now (moments old))) (moments old) (moments new)) same
    (one_added _ _ _ _ (moments_of old new (Write place v) false is.1) (within_self _))
write_runs (Err Memory) old new place v bytes same within is = none_added _ _ _ (ap moments is)

pub write_written : (r : Result (Unit {0}) DiskFault) (old new : Recorded) (place : ℕ) (v : Vec ℕ Global) (bytes : List ℕ) → v.items ≡ bytes → place + length bytes < 2 ^ 63 → IsCalled r (Write place v) old new
    → OnOk r (IsWritten place bytes (moments old) (moments new))
write_written (Ok x) old new place v bytes same small is =
    subst (λ (l : List ℕ). IsWritten place l (moments old) (moments new)) same (of (moments new) (moments_of old new (Write place v) true is.1))
  where
    of : (states : List DiskState) → states ≡ written place v.items (now (moments old)) ∷ moments old → IsWritten place v.items (moments old) states
    of states e = subst (IsWritten place v.items (moments old)) (sym e) (record { bytes_are = refl; left_are = refl; small = omega (arith, small, ap length same) })
write_written (Err e) old new place v bytes same small is = tt

synced_within : (left : List Range) (s : DiskState) → s.left ≡ left → IsWithin s → Within (synced_but left s) s
synced_within [] s is h = record {
  leaves = λ file im. record { no_shorter = omega (arith, im.no_shorter, h.least); no_longer = omega (arith, im.no_longer, h.most); stays = λ i lt below out kept. im.stays i lt (omega (arith, lt, im.no_longer)) tt tt };
  risks = λ r h. ⊎_elim (λ w. absurd w) (λ l. absurd l) h;
}
synced_within (q ∷ left) s is h = record {
  leaves = λ file im. record { no_shorter = im.no_shorter; no_longer = im.no_longer; stays = λ i lt below out kept. im.stays i lt below tt (subst (IsOutside i) is kept) };
  risks = λ r h. ⊎_elim (λ w. absurd w) (λ l. inr (subst (IsOneOf r) (sym is) l)) h;
}

outside_both : (i : ℕ) (xs ys : List Range) → IsOutside i xs → IsOutside i ys → IsOutside i (xs ++ ys)
outside_both i [] ys a b = b
outside_both i (x ∷ xs) ys a b = (a.0, outside_both i xs ys a.1 b)

one_of_both : (r : Range) (xs ys : List Range) → IsOneOf r (xs ++ ys) → IsOneOf r xs ⊎ IsOneOf r ys
one_of_both r [] ys h = inr h
one_of_both r (x ∷ xs) ys h = ⊎_elim (λ a. inl (inl a)) (λ more. ⊎_elim (λ a. inl (inr a)) (λ b. inr b) (one_of_both r xs ys more)) h

dropped_within : (s : DiskState) → Within (dropped s) s
dropped_within s = record {
  leaves = λ file im. record { no_shorter = im.no_shorter; no_longer = im.no_longer; stays = λ i lt below out kept. im.stays i lt below tt (outside_both i s.written s.left out kept) };
  risks = λ r h. ⊎_elim (λ w. absurd w) (λ l. one_of_both r s.written s.left l) h;
}

-- a sync, whether it passed or not
pub sync_runs : (r : Result (Unit {0}) DiskFault) (old new : Recorded) → IsCalled r Sync old new → Runs (now (moments old)) (moments old) (moments new)
sync_runs (Ok x) old new is = one_added _ _ _ _ (moments_of old new Sync true is.1) (synced_within (now (moments old)).left (now (moments old)) refl (moments_within old.first old.calls))
sync_runs (Err Device) old new is = one_added _ _ _ _ (moments_of old new Sync false is.1) (dropped_within (now (moments old)))
sync_runs (Err Memory) old new is = none_added _ _ _ (ap moments is)

pub sync_synced : (r : Result (Unit {0}) DiskFault) (old new : Recorded) → IsCalled r Sync old new → OnOk r (IsSynced (moments old) (moments new))
sync_synced (Ok x) old new is = ap now (moments_of old new Sync true is.1)
sync_synced (Err e) old new is = tt

-- a call that only reads
pub looked_same : {T : Type 0} (r : Result T DiskFault) (call : Call) (old new : Recorded) → ((passed : Bool) (states : List DiskState) → moments_after call passed states ≡ states) → IsCalled r call old new → moments new ≡ moments old
looked_same (Ok x) call old new looks is = moments_of old new call true is.1 ∙ looks true (moments old)
looked_same (Err Device) call old new looks is = moments_of old new call false is.1 ∙ looks false (moments old)
looked_same (Err Memory) call old new looks is = ap moments is

-- the same cause for another result
pub cause_err : {T U : Type 0} (e : DiskFault) (before after : ℕ) → HasCause {T = T} before after (Err e) → HasCause {T = U} before after (Err e)
cause_err Device before after h = record { later = h.later; failed = λ is. h.failed refl; lacked = λ is. absurd cc; passed = tt }
cause_err Memory before after h = record { later = h.later; failed = λ is. absurd cc; lacked = λ is. h.lacked refl; passed = tt }

pub cause_ok : {T U : Type 0} (x : T) (y : U) (before after : ℕ) → HasCause before after (Ok x) → HasCause before after (Ok y)
cause_ok x y before after h = record { later = h.later; failed = λ is. absurd cc; lacked = λ is. absurd cc; passed = h.passed }

pub cause_memory : {T : Type 0} (e : DiskFault) (before : ℕ) → e ≡ Memory → HasCause {T = T} before before (Err e)
cause_memory e before is = record { later = omega arith; failed = λ failed. absurd cc; lacked = λ lacked. refl; passed = tt }
