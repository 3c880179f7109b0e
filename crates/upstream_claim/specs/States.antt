-- What is kept about the lines for upstream, and what it means. These are the machine's inner steps, which need not be
-- trusted.
use Rattle.std.specs.Prelude.{◌≡◌, ℕ, ◌-◌, ◌≤◌, if◌then◌else◌, List, [], length, drop, slice_get}
use Rattle.irc_line.specs.Lines.{Parts}
use Rattle.wire_bytes.specs.declared.session_id.SessionId.{SessionId}
use Rattle.upstream_claim.specs.declared.effect.ClaimsEffect.{ClaimsEffect}
use Rattle.upstream_claim.specs.Numbered.{Numbered, is_next, handed, waiting_limit, with_claim}

-- how many more lines may wait
abbrev pub space : List Parts → ℕ
space waiting = waiting_limit - length waiting

-- the number of claims, and the lines that wait to be claimed
pub record IsKept (n : ℕ) (lines : List Parts) (q : Numbered) : Type 0 where
  pub count : n ≡ length q.claimed
  pub within : length q.claimed ≤ length q.outgoing
  pub waiting : lines ≡ drop (length q.claimed) q.outgoing

-- the line of a number is handed out where it is the next to be claimed
abbrev pub handed_next : {E : Type 0} → Numbered → SessionId → ℕ → List (ClaimsEffect E)
handed_next q id n = if is_next q n then handed id n (slice_get q.outgoing (n - 1)) else []

-- a claim is added where it is for the next line to be claimed
abbrev pub claimed_next : Numbered → SessionId → ℕ → Numbered
claimed_next q id n = if is_next q n then with_claim q id n else q
