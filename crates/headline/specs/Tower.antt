-- The tower, as the definitions of a node describe it.
use Rattle.std.specs.Prelude.{ℕ, ◌==◌, Bool, false}
use Rattle.irc_line.specs.Lines.{Parts}
use Rattle.machine_laws.specs.declared.class.Class.{Class}
use Rattle.machine_laws.specs.declared.class.Class.TheVariants.{To, Hand, Rejoin, Nowhere}
use Rattle.buffer_commands.specs.Settings.{Settings}
use Rattle.session_fence.specs.declared.command.FenceCommand.TheVariants.{Opened, Shut, Heard}
use Rattle.upstream_claim.specs.declared.command.ClaimsCommand.TheVariants.{Claim}
use Rattle.request_once.specs.declared.body.Body.TheVariants.{Blank}
use Rattle.bouncer_tower.specs.Bodies.{TowerEffect, answers, next_claim}
use Rattle.bouncer_tower.specs.Hosting.{of_sessions, of_claims, source_of, class_of, playback}
use Rattle.raft_node.specs.Machine.{Machine}
use Rattle.raft_node.specs.Hosts.{hosted}

-- the bodies that a leader makes, and what the bodies result in
abbrev pub tower : Settings → Machine
tower s =
    hosted Blank (λ id. of_sessions (Opened id)) (λ id. of_sessions (Shut id))
    (λ id number at line. of_sessions (Heard id number at line)) (λ id number. of_claims (Claim id number))
    source_of (answers s) (next_claim s) (playback s) class_of

-- it hands out the line of this number
abbrev pub hands_number : ℕ → Class Parts → Bool
hands_number n (To origin) = false
hands_number n (Hand id number line) = number == n
hands_number n (Rejoin id line) = false
hands_number n Nowhere = false

-- an effect that hands the line of this number upstream
abbrev pub is_hand : ℕ → TowerEffect → Bool
is_hand n e = hands_number n (class_of e)
