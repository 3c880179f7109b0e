-- What the calls of a disk do to it, and which of them fail.
use Rattle.std.specs.Prelude.{◌≡◌, ℕ, suc, ◌+◌, ◌==◌, ◌&&◌, Bool, true, false, not, max, nat_lt, if◌then◌else◌, List, [], ◌∷◌, ◌++◌, length, Result, Ok, Err}
use Rattle.journal_store.specs.Disks.{DiskState, not_covered, now, settled_at, synced, writing, written_over}
use Rattle.journal_store.specs.declared.disk_fault.DiskFault.{DiskFault}
use Rattle.journal_store.specs.declared.disk_fault.DiskFault.TheVariants.{Device, Memory}
use Rattle.fault_disks.specs.declared.call.Call.{Call}
use Rattle.fault_disks.specs.declared.call.Call.TheVariants.{Len, Read, Write, Sync}
use Rattle.fault_disks.specs.declared.call.Called.{Called}
use Rattle.fault_disks.specs.declared.fails.Fails.{Fails}
use Rattle.fault_disks.specs.declared.fails.Fails.TheVariants.{Never, From, Once, Both}

-- the call of this number passes
abbrev pub passes : Fails → ℕ → Bool
passes Never call = true
passes (From first) call = nat_lt call first
passes (Once one) call = not (call == one)
passes (Both one other) call = not (call == one) && not (call == other)

-- this many of these calls failed
abbrev pub failed : List Called → ℕ
failed [] = 0
failed (c ∷ calls) = if c.passed then failed calls else suc (failed calls)

-- the bytes are overwritten, and not synced
abbrev pub written : ℕ → List ℕ → DiskState → DiskState
written place bytes s =
    let now = written_over s.bytes place bytes in
    record {
      bytes = now;
      written = record { place = place; size = length bytes } ∷ s.written;
      left = not_covered place (length bytes) (length now) s.left;
      settled = s.settled;
      least = s.least;
      most = max s.most (place + length bytes);
    }

-- what was written is dropped, though a read still gives it
abbrev pub dropped : DiskState → DiskState
dropped s = record { bytes = s.bytes; written = []; left = s.written ++ s.left; settled = s.settled; least = s.least; most = s.most }

-- The state after a call, by whether it passed. A write that fails changes nothing that is read, but a crash may leave
-- anything in its place. A sync that fails drops what was written. Any other call that fails does nothing.
abbrev pub state_after : Call → Bool → DiskState → DiskState
state_after Len passed s = s
state_after (Read place len) passed s = s
state_after (Write place bytes) true s = written place bytes.items s
state_after (Write place bytes) false s = writing place (length bytes.items) s
state_after Sync true s = synced s
state_after Sync false s = dropped s

-- the same for the moments so far, the newest first
abbrev pub moments_after : Call → Bool → List DiskState → List DiskState
moments_after Len passed states = states
moments_after (Read place len) passed states = states
moments_after (Write place bytes) passed states = state_after (Write place bytes) passed (now states) ∷ states
moments_after Sync passed states = state_after Sync passed (now states) ∷ states

-- the state after these calls, the first one first
abbrev pub replayed : DiskState → List Called → DiskState
replayed s [] = s
replayed s (c ∷ calls) = replayed (state_after c.call c.passed s) calls

-- the moments after them
abbrev pub moments_from : List DiskState → List Called → List DiskState
moments_from states [] = states
moments_from states (c ∷ calls) = moments_from (moments_after c.call c.passed states) calls

-- what a disk's file held at first, the calls so far, and which of them fail
pub record Recorded : Type 0 where
  pub first : List ℕ
  pub calls : List Called
  pub fails : Fails

-- the moments of a disk, its file synced at first
abbrev pub moments : Recorded → List DiskState
moments d = moments_from (settled_at d.first ∷ []) d.calls

-- the disk with one more call
abbrev pub recorded : Recorded → Call → Bool → Recorded
recorded d call passed = record { first = d.first; calls = d.calls ++ record { call = call; passed = passed } ∷ []; fails = d.fails }

-- a call passed or failed as planned, and is recorded; or memory ran out, and nothing was done
abbrev pub IsCalled : {T : Type 0} → Result T DiskFault → Call → Recorded → Recorded → Type 0
IsCalled (Ok x) call old new = (passes old.fails (length old.calls) ≡ true) × (new ≡ recorded old call true)
IsCalled (Err Device) call old new = (passes old.fails (length old.calls) ≡ false) × (new ≡ recorded old call false)
IsCalled (Err Memory) call old new = new ≡ old
