-- The jobs of calls of a node, and that they were put into its worker's inbox.
use Rattle.std.specs.Prelude.{◌≡◌, ℕ, Result}
use Rattle.node_threads.specs.Faults.{IfAnswered}
use Rattle.node_threads.specs.declared.cluster_fault.ClusterFault.{ClusterFault}
use Rattle.node_threads.specs.declared.job.Job.{Job}
use Rattle.node_threads.specs.declared.job.Job.TheVariants.{Note, Look, Mark, LookAfter, Restart, Status}

-- something of this kind was put into an inbox, by the inbox's own rule
abbrev pub IsPut : {J : Type 0} → (J → Type 0) → (J → Type 0) → Type 0
IsPut {J} wanted put = (job : J) × wanted job × put job

-- if the worker answered, such a job was put into its inbox
abbrev pub IsAsked : {A J : Type 0} → (J → Type 0) → (J → Type 0) → Result A ClusterFault → Type 0
IsAsked wanted put result = IfAnswered result (IsPut wanted put)

module _ {M A L T P S C E : Type 0} where
  -- a look at this place at this target
  abbrev pub IsLookAt : ℕ → T → Job M A L T P S C E → Type 0
  IsLookAt place target (Note note) = ⊥
  IsLookAt place target (Look p t reply) = (p ≡ place) × (t ≡ target)
  IsLookAt place target (Mark reply) = ⊥
  IsLookAt place target (LookAfter number t reply) = ⊥
  IsLookAt place target (Restart reply) = ⊥
  IsLookAt place target (Status reply) = ⊥

  -- the next mark
  abbrev pub IsMarkJob : Job M A L T P S C E → Type 0
  IsMarkJob (Note note) = ⊥
  IsMarkJob (Look p t reply) = ⊥
  IsMarkJob (Mark reply) = Unit {0}
  IsMarkJob (LookAfter number t reply) = ⊥
  IsMarkJob (Restart reply) = ⊥
  IsMarkJob (Status reply) = ⊥

  -- a look at this target after the mark of this number
  abbrev pub IsLookBehind : ℕ → T → Job M A L T P S C E → Type 0
  IsLookBehind number target (Note note) = ⊥
  IsLookBehind number target (Look p t reply) = ⊥
  IsLookBehind number target (Mark reply) = ⊥
  IsLookBehind number target (LookAfter n t reply) = (n ≡ number) × (t ≡ target)
  IsLookBehind number target (Restart reply) = ⊥
  IsLookBehind number target (Status reply) = ⊥

  -- a look at this target after some mark
  abbrev pub IsLookBehindSome : T → Job M A L T P S C E → Type 0
  IsLookBehindSome target job = (number : ℕ) × IsLookBehind number target job

  -- a restart
  abbrev pub IsRestartJob : Job M A L T P S C E → Type 0
  IsRestartJob (Note note) = ⊥
  IsRestartJob (Look p t reply) = ⊥
  IsRestartJob (Mark reply) = ⊥
  IsRestartJob (LookAfter number t reply) = ⊥
  IsRestartJob (Restart reply) = Unit {0}
  IsRestartJob (Status reply) = ⊥

  -- the question for the state of a node
  abbrev pub IsStatusJob : Job M A L T P S C E → Type 0
  IsStatusJob (Note note) = ⊥
  IsStatusJob (Look p t reply) = ⊥
  IsStatusJob (Mark reply) = ⊥
  IsStatusJob (LookAfter number t reply) = ⊥
  IsStatusJob (Restart reply) = ⊥
  IsStatusJob (Status reply) = Unit {0}
