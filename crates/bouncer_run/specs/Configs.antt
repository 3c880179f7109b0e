-- What was read from a configuration.
use Rattle.std.specs.Prelude.{◌≡◌, ℕ, List, Option, IfSome}
use Rattle.bouncer_config.specs.Placing.{IsPlaced}
use Rattle.bouncer_config.specs.Reads.{IsFault, Says}
use Rattle.bouncer_config.specs.declared.config.Config.{Config}
use Rattle.bouncer_config.specs.declared.problem.Problem.{Problem}
use Rattle.bouncer_config.specs.declared.problem.Problem.TheVariants as problem
use Rattle.whole_input.specs.Reads.{IsTooLong}
use Rattle.whole_input.specs.declared.read_fault.ReadFault.TheVariants as input
use Rattle.bouncer_run.specs.Faults.{fault_of_reading}
use Rattle.bouncer_run.specs.declared.reading.Unread.{Unread}
use Rattle.bouncer_run.specs.declared.reading.Unread.TheVariants.{Refused, Unreadable}
use Rattle.bouncer_run.specs.declared.run_fault.RunFault.{RunFault}
use Rattle.bouncer_run.specs.declared.run_fault.RunFault.TheVariants as fault

-- the bytes of a reader, as far as they are known, are a text that says this configuration
pub record IsConfigOf (remaining : Option (List ℕ)) (c : Config) : Type 0 where
  pub text : List ℕ
  pub known : IfSome remaining (λ bytes. text ≡ bytes)
  pub says : Says text c

-- some text says this configuration, and its paths are relative to the folder of this file
abbrev pub IsSaidIn : List ℕ → Config → Type 0
IsSaidIn file c = (text : List ℕ) × (said : Config) × Says text said × IsPlaced file said c

-- the bytes of a reader, as far as they are known, are a text with this fault
pub record IsRefusedText (remaining : Option (List ℕ)) (problem : Problem) : Type 0 where
  pub text : List ℕ
  pub known : IfSome remaining (λ bytes. text ≡ bytes)
  pub wrong : IsFault text problem

-- why no configuration was read from a reader
abbrev pub IsUnread : Option (List ℕ) → Unread → Type 0
IsUnread remaining (Unreadable input.InputTooLong) = IsTooLong remaining
IsUnread remaining (Unreadable input.Read) = Unit {0}
IsUnread remaining (Unreadable input.Memory) = Unit {0}
IsUnread remaining (Refused f) = IsRefusedText remaining f.problem

-- what is wrong with a text, as the program reports it
abbrev pub fault_of_problem : Problem → RunFault
fault_of_problem problem.Memory = fault.Memory
fault_of_problem _ = fault.Config

-- why no configuration was read, as the program reports it
abbrev pub fault_of_unread : Unread → RunFault
fault_of_unread (Unreadable f) = fault_of_reading f
fault_of_unread (Refused f) = fault_of_problem f.problem

-- the faults of reading a configuration
abbrev pub IsUnreadFault : RunFault → Type 0
IsUnreadFault fault.Read = Unit {0}
IsUnreadFault fault.InputTooLong = Unit {0}
IsUnreadFault fault.Config = Unit {0}
IsUnreadFault fault.Memory = Unit {0}
IsUnreadFault fault.Store = ⊥
IsUnreadFault fault.Socket = ⊥
IsUnreadFault fault.Write = ⊥
