-- What a renewal writes, as stores that were begun anew.
use Rattle.std.specs.Prelude.{◌≡◌, ℕ, ◌+◌, ◌≤◌, List, length, map, take}
use Rattle.buffer_commands.specs.Settings.{Settings}
use Rattle.bouncer_tower.specs.Bodies.{TowerBody}
use Rattle.raft_log.specs.declared.entry.Entry.{Entry}
use Rattle.raft_log.specs.Logs.{entry_limit}
use Rattle.raft_log.specs.Peers.{IsGroupSize}
use Rattle.renewal.specs.Lists.{IsRenewal, bodies_of}
use Rattle.store_life.specs.Renewed.{IsAnew, entries}
use Rattle.store_life.specs.Periods.{Follows, Period}
use Rattle.wire_bytes.specs.Limits.{number_limit}

-- the run of each of this many nodes in their new stores: one above its greatest
abbrev pub runs_behind : ℕ → List ℕ → List ℕ
runs_behind nodes greatest = take nodes (map (λ boot. boot + 1) greatest)

-- What a renewal writes for a group of this size may be begun anew there, since one leader brings it; and its log is
-- that of its bodies, all of one term.
abbrev pub RenewedIsAnew : Type 0
RenewedIsAnew =
    (s t : Settings) (forgotten : List (List ℕ)) (greatest : List ℕ) (term nodes : ℕ) (old new : List (Entry TowerBody)) →
    IsRenewal s t forgotten greatest term old new → IsGroupSize nodes → nodes ≤ length greatest →
    term + 1 ≤ number_limit → length new ≤ entry_limit →
    IsAnew t (runs_behind nodes greatest) (term + 1) (bodies_of new) × (new ≡ entries (term + 1) (bodies_of new))

-- A period that begins with what a renewal made of the log that was chosen at the end of another follows that one.
abbrev pub RenewedFollows : Type 0
RenewedFollows =
    (p q : Period) (forgotten : List (List ℕ)) (greatest : List ℕ) (term : ℕ) (new : List (Entry TowerBody)) →
    IsRenewal p.settings q.settings forgotten greatest term p.chosen new → q.begun ≡ bodies_of new → Follows p q
