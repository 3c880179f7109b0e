-- What a store holds, what it may hold after an error, and how it may be changed.
use Rattle.std.specs.Prelude.{◌≡◌, ℕ, ◌+◌, ◌<◌, ◌≤◌, ◌⊎◌, Bool, false, IsTrue, [], ◌++◌, length, take, Option, None, Some, Result, OnOk}
use Rattle.raft_log.specs.Lists.{IsNode}
use Rattle.raft_log.specs.Logs.{entry_limit}
use Rattle.stable_store.specs.declared.saved.Saved.{Saved}
use Rattle.stable_store.specs.declared.store_fault.StoreFault.{StoreFault}
use Rattle.stable_store.specs.declared.store_fault.StoreFault.TheVariants.{Device, Memory}
use Rattle.stable_store.specs.Changes.{ChangeParts}

-- no vote, or one for a node of a group
abbrev pub NamesNode : Option ℕ → Type 0
NamesNode None = Unit {0}
NamesNode (Some node) = IsNode node

module _ {B : Type 0} where
  -- a new store
  abbrev pub nothing_saved : Saved B
  nothing_saved = record { boot = 0; term = 0; vote = None; log = [] }

  -- what a store holds after a change
  abbrev pub changed : Saved B → ChangeParts B → Saved B
  changed s c = record { boot = c.boot; term = c.term; vote = c.vote; log = take c.keep s.log ++ c.entries }

  -- no more entries are kept than there are, the log stays within its limit, boot and term do not decrease, and a vote
  -- is for a node
  pub record MayFollow (s : Saved B) (c : ChangeParts B) : Type 0 where
    pub kept : c.keep ≤ length s.log
    pub room : c.keep + length c.entries ≤ entry_limit
    pub boot : s.boot ≤ c.boot
    pub term : s.term ≤ c.term
    pub vote : NamesNode c.vote

  -- a change was made to a state for which this holds, and which it may follow
  pub record IsDone (stood : Saved B → Type 0) (c : ChangeParts B) (now : Saved B) : Type 0 where
    pub before : Saved B
    pub stands : stood before
    pub follows : MayFollow before c
    pub is : now ≡ changed before c

  -- a state that a store may hold after a save is one that it may have held before, or one with the change made to it
  abbrev pub MayStandAfter : (Saved B → Type 0) → ChangeParts B → (Saved B → Type 0) → Type 0
  MayStandAfter old c new = (v : Saved B) → new v → old v ⊎ IsDone old c v

  -- a state that a store may hold is one that it may have held before
  abbrev pub MayStandStill : (Saved B → Type 0) → (Saved B → Type 0) → Type 0
  MayStandStill old new = (v : Saved B) → new v → old v

  -- the state before a change, or after it
  abbrev pub IsEither : Saved B → ChangeParts B → Saved B → Type 0
  IsEither before c now = (now ≡ before) ⊎ (now ≡ changed before c)

-- Whether a store's device keeps what is written to it, whether there was an error that nothing has mended, and how
-- many calls of the device failed.
pub record Condition : Type 0 where
  pub honest : Bool
  pub broken : Bool
  pub failures : ℕ

-- its device keeps what is written to it
abbrev pub IsHonest : Condition → Type 0
IsHonest c = IsTrue c.honest

-- an honest store without an error to mend
abbrev pub Serves : Condition → Type 0
Serves c = IsHonest c × (c.broken ≡ false)

-- the count has risen; a count at the greatest u64 stays there, and counts as risen
abbrev pub HasRisen : ℕ → ℕ → Type 0
HasRisen old new = (old < new) ⊎ (old ≡ 18446744073709551615)

-- an honest store ran out of memory, and no call of its device failed; or its device failed, in this call or before it,
-- and that was not mended
abbrev pub IsAllowed : Condition → Condition → StoreFault → Type 0
IsAllowed old new fault = IsHonest old → ((fault ≡ Memory) × (new.failures ≡ old.failures)) ⊎ ((fault ≡ Device) × (HasRisen old.failures new.failures ⊎ IsTrue old.broken))

-- a call does not change honesty, and failures only count up; if it returns Ok, none came and all is mended
pub record MayBecome {A E : Type 0} (result : Result A E) (old new : Condition) : Type 0 where
  pub honest : new.honest ≡ old.honest
  pub counts : old.failures ≤ new.failures
  pub mended : IsHonest old → OnOk result (new.broken ≡ false)
  pub passed : IsHonest old → OnOk result (new.failures ≡ old.failures)
