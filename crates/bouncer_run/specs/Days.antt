-- How fast a log grew before the program began, by the times in its entries.
use Rattle.std.specs.Prelude.{◌≡◌, ◌⊎◌, [], ◌∷◌, ℕ, zero, suc, ◌-◌, ◌≤◌, nat_lt, Bool, true, false, List, length, take, drop, Option, Some, None, IfSome, option_to_list}
use Rattle.std.specs.List.{All}
use Rattle.bouncer_tower.specs.Bodies.{TowerBody}
use Rattle.session_fence.specs.declared.command.FenceCommand.TheVariants as fence
use Rattle.upstream_claim.specs.declared.command.ClaimsCommand.TheVariants as claims
use Rattle.request_once.specs.declared.body.Body.TheVariants as body
use Rattle.raft_log.specs.declared.entry.Entry.{Entry}
use Rattle.raft_log.specs.Lists.{item}
use Rattle.bouncer_run.specs.declared.log_rate.Mark.{Mark}
use Rattle.bouncer_run.specs.declared.log_rate.TheConstants.{DAY}

-- the time in a body: in a client's request or a line from the server
abbrev pub moment_in : TowerBody → Option ℕ
moment_in (body.Asked o number at action) = Some at
moment_in (body.Inner (claims.Inner (fence.Heard id number at line))) = Some at
moment_in _ = None

-- there is a time, and it is before this one
abbrev pub is_known_before : ℕ → Option ℕ → Bool
is_known_before at None = false
is_known_before at (Some moment) = nat_lt moment at

-- a body is known to be from before this time
abbrev pub is_before : ℕ → TowerBody → Bool
is_before at b = is_known_before at (moment_in b)

-- this is the place of the last entry that is known to be from before a time, or 0
pub record IsLastBefore (at : ℕ) (log : List (Entry TowerBody)) (place : ℕ) : Type 0 where
  pub within : place ≤ length log
  pub before : IfSome (item log place) (λ e. is_before at e.body ≡ true)
  pub none_behind : All (λ e. is_before at e.body ≡ false) (drop place log)

-- a mark has the time and the place of the first entry that has a time
pub record IsOfFirst (log : List (Entry TowerBody)) (mark : Mark) : Type 0 where
  pub entry : Entry TowerBody
  pub place : item log mark.entries ≡ Some entry
  pub moment : moment_in entry.body ≡ Some mark.at
  pub none_before : All (λ e. moment_in e.body ≡ None) (take (mark.entries - 1) log)

-- a mark is of the first entry that has a time; there is none if no entry has one
abbrev pub IsFirst : List (Entry TowerBody) → Option Mark → Type 0
IsFirst log None = All (λ e. moment_in e.body ≡ None) log
IsFirst log (Some mark) = IsOfFirst log mark

-- the mark of a time if this many entries are known to be from before it; if none is, the mark of
-- the first entry that has a time
abbrev pub IsMarkAt : ℕ → List (Entry TowerBody) → ℕ → Option Mark → Type 0
IsMarkAt at log zero mark = IsFirst log mark
IsMarkAt at log (suc before) mark = mark ≡ Some (record { at = at; entries = suc before })

-- a mark of a log a day before this time, as far as its entries show
pub record IsDayBefore (now : ℕ) (log : List (Entry TowerBody)) (mark : Option Mark) : Type 0 where
  pub place : ℕ
  pub last : IsLastBefore (now - DAY) log place
  pub marks : IsMarkAt (now - DAY) log place mark

module _ {A : Type 0} where
  -- none of these is longer
  abbrev pub IsLongest : List A → List (List A) → Type 0
  IsLongest chosen [] = Unit {0}
  IsLongest chosen (list ∷ others) = (length list ≤ length chosen) × IsLongest chosen others

  -- it is one of these
  abbrev pub IsOneOf : List A → List (List A) → Type 0
  IsOneOf chosen [] = ⊥
  IsOneOf chosen (list ∷ others) = (chosen ≡ list) ⊎ IsOneOf chosen others

-- the marks are those of a day before this time in a longest one of these logs
pub record AreOfLongest (now : ℕ) (logs : List (List (Entry TowerBody))) (marks : List Mark) : Type 0 where
  pub log : List (Entry TowerBody)
  pub longest : IsLongest log logs
  pub one : IsOneOf log logs
  pub mark : Option Mark
  pub day_before : IsDayBefore now log mark
  pub is : marks ≡ option_to_list mark

-- a longest one of these logs, if there is any, shows how fast a log grew
abbrev pub IsRateOf : ℕ → List (List (Entry TowerBody)) → List Mark → Type 0
IsRateOf now [] marks = marks ≡ []
IsRateOf now (log ∷ logs) marks = AreOfLongest now (log ∷ logs) marks
