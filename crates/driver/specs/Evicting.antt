-- Why the buffers close a client, and what it and the log say about it. The effect does not say why; what is known of
-- the client does.
use Rattle.std.specs.Prelude.{◌≡◌, ℕ, Bool, ◌&&◌, true, false, codes, if◌then◌else◌, List, [], ◌∷◌, ◌++◌, Option, Some, None}
use Rattle.std.specs.Global.{Vec}
use Rattle.buffer_commands.specs.declared.effect.Effect.{Effect}
use Rattle.buffer_commands.specs.declared.effect.Effect.TheVariants.{Close}
use Rattle.client_gate.specs.declared.request.Request.{Request}
use Rattle.client_gate.specs.declared.settings.Settings.{Settings}
use Rattle.client_gate.specs.Calls.{Call, Stands, gate}
use Rattle.client_gate.specs.Gates.{GateEffect, is_first_answered}
use Rattle.machine_laws.specs.Origins.{same_origin}
use Rattle.request_once.specs.declared.answer.Answer.TheVariants as answer
use Rattle.session_fence.specs.declared.effect.FenceEffect.TheVariants as fence
use Rattle.upstream_claim.specs.declared.effect.ClaimsEffect.TheVariants as claims
use Rattle.wire_bytes.specs.declared.origin.Origin.{Origin}
use Rattle.driver.specs.declared.client.Client.{Client}
use Rattle.driver.specs.declared.eviction.Eviction.{Eviction}
use Rattle.driver.specs.declared.eviction.Eviction.TheVariants.{GaveWay, NamesSpent, RunOver}
use Rattle.driver.specs.declared.news.News.TheVariants.{Evicted}
use Rattle.driver.specs.declared.order.Order.TheVariants.{Log, Write}
use Rattle.driver.specs.Nicks.{is_reached}
use Rattle.driver.specs.Telling.{Ordered, ordered}

-- why the buffers close a client, in words
abbrev pub words_of : Eviction → List ℕ
words_of NamesSpent = codes "64 names are in use already: attach without a name, or with one that is in use"
words_of GaveWay = codes "only one client may attach at a time (multi_clients)"
words_of RunOver = codes "the run of its node is over: connect again"

-- the line for a client that the buffers close
abbrev pub eviction_line : Eviction → List ℕ
eviction_line why = codes "ERROR :Closing link: " ++ words_of why ++ 13 ∷ 10 ∷ []

-- an effect of the buffers closes a client
abbrev pub is_close : Effect → Bool
is_close (Close origin) = true
is_close other = false

-- the buffers close a client by this effect
abbrev pub evicted_by : GateEffect → Bool
evicted_by (answer.Effect (claims.Inner (fence.Inner effect))) = is_close effect
evicted_by other = false

-- why a client that attaches is refused: with a name because too many are in use, and without one because its run is
-- over
abbrev pub refusal_of : Option (List ℕ) → Eviction
refusal_of None = RunOver
refusal_of (Some name) = NamesSpent

-- Why a client with these waiting requests is closed, by its name, if it has one: as long as its first request waits,
-- which attaches it, that was refused; after that the client was attached, and gives way to another one.
abbrev pub eviction_of : List Request → Option (List ℕ) → Eviction
eviction_of waiting name = if is_first_answered 1 waiting then refusal_of name else GaveWay

-- why a client is closed by this effect, if it is, and it is registered and connected
abbrev pub eviction_in : List Request → Client → GateEffect → Option Eviction
eviction_in waiting c effect = if is_reached c && evicted_by effect then Some (eviction_of waiting c.name) else None

-- it is logged why a client is closed, if it is, and then the client is told
abbrev pub IsToldWhy : Option Eviction → Client → Ordered → Ordered → Type 0
IsToldWhy None c before after = after ≡ before
IsToldWhy (Some why) c before after =
    (line : Vec ℕ) × (line.items ≡ eviction_line why) × (after ≡ ordered before (Log (Evicted c.origin why) ∷ Write c.origin.2 line ∷ []))

-- an effect is for this client, or for another one: this one gets the reason why it is closed, whatever calls its gate
-- has had
abbrev pub IsEvictedIf : Bool → Client → GateEffect → Ordered → Ordered → Type 0
IsEvictedIf false c effect before after = after ≡ before
IsEvictedIf true c effect before after =
    (s : Settings) (calls : List Call) → Stands s calls c.gate → IsToldWhy (eviction_in (gate s calls).waiting c effect) c before after

-- the client that was found gets the reason, if there is one and it is of this origin
abbrev pub IsEvicted : Option Client → Origin → GateEffect → Ordered → Ordered → Type 0
IsEvicted None origin effect before after = after ≡ before
IsEvicted (Some c) origin effect before after = IsEvictedIf (same_origin c.origin origin) c effect before after
