-- A machine that a node hosts, by what its trait says of it.
use Rattle.std.specs.Prelude.{ℕ, List, Option}
use Rattle.irc_line.specs.Lines.{Parts}
use Rattle.wire_bytes.specs.declared.session_id.SessionId.{SessionId}
use Rattle.machine_laws.specs.Runs.{History}
use Rattle.machine_laws.specs.declared.class.Class.{Class}
use Rattle.machine_laws.specs.declared.class.Source.{Source}
use Rattle.raft_node.specs.Machine.{Machine}

module _ {Body Effect Line Target Played : Type 0} where
  -- the machine with these bodies, effects and answers
  abbrev pub hosted : Body → (SessionId → Body) → (SessionId → Body) → (SessionId → ℕ → ℕ → Line → Body)
      → (SessionId → ℕ → Body) → (Body → Source) → (History Body → ℕ → Body → List Effect)
      → (History Body → Option ℕ) → (History Body → Target → List Played) → (Effect → Class Parts) → Machine
  hosted blank opened shut heard claim source effects next_claim playback class =
      record {
        Body = Body;
        Effect = Effect;
        Line = Line;
        Target = Target;
        Played = Played;
        blank = blank;
        opened = opened;
        shut = shut;
        heard = heard;
        claim = claim;
        source = source;
        effects = effects;
        next_claim = next_claim;
        playback = playback;
        class = class;
      }
