-- What a check of a configuration reports.
use Rattle.std.specs.Prelude.{◌≡◌, ℕ, List}
use Rattle.bouncer_config.specs.declared.config.Config.{Config}
use Rattle.run_plan.specs.Plans.{plan, planned_of}
use Rattle.bouncer_run.specs.Configs.{IsSaidIn}
use Rattle.bouncer_run.specs.declared.run_fault.RunFault.{RunFault}
use Rattle.bouncer_run.specs.declared.run_fault.RunFault.TheVariants as fault

-- the plan of a configuration that some text in this file says
abbrev pub IsSomePlan : List ℕ → List ℕ → Type 0
IsSomePlan file text = (config : Config) × IsSaidIn file config × (text ≡ plan (planned_of config))

-- the faults of a check: those of reading a configuration, and that a run would be refused because
-- of the store
abbrev pub IsCheckFault : RunFault → Type 0
IsCheckFault fault.Read = Unit {0}
IsCheckFault fault.InputTooLong = Unit {0}
IsCheckFault fault.Config = Unit {0}
IsCheckFault fault.Store = Unit {0}
IsCheckFault fault.Memory = Unit {0}
IsCheckFault fault.Socket = ⊥
IsCheckFault fault.Write = ⊥
