-- Two machines that hold the same still do after any further commands.
use Rattle.std.proofs.Common.{◌≡◌, ℕ, ◌<◌, List, [], ◌∷◌, ◌++◌, refl, ap, ◌∙◌, sym, Bool, true, false, ◌||◌}
use Rattle.std.specs.Prelude.{Option, Some, None, if◌then◌else◌, find, unwrap_or}
use Rattle.irc_line.specs.Keys.{at_key, is_in}
use Rattle.irc_line.specs.Lines.{Parts}
use Rattle.buffer_lines.specs.Stamps.{framed}
use Rattle.buffer_commands.specs.Settings.{Settings}
use Rattle.buffer_commands.specs.declared.command.Command.{Command}
use Rattle.buffer_commands.specs.declared.command.Command.TheVariants.{Client, Upstream, NodeGone, Up, Down}
use Rattle.buffer_targets.specs.Targets.{TargetLines}
use Rattle.buffer_machine.specs.Answering.{answers, first_some, played_by, played_of, standing, target_of_key}
use Rattle.buffer_machine.specs.Buffers.{channels, playback, queries}
use Rattle.buffer_machine.specs.Crowd.{floor, floor_after, ids}
use Rattle.buffer_machine.specs.Effects.{effects}
use Rattle.buffer_machine.specs.Held.{Held, IsSound, held}
use Rattle.buffer_machine.specs.Marks.{playback_by}
use Rattle.buffer_machine.specs.Steps.{IsWithinLimits, after}
use Rattle.buffer_machine.proofs.AnyChannel.{floor_now}
use Rattle.buffer_machine.proofs.AnyEffects.{effects-step}
use Rattle.buffer_machine.proofs.HeldStep.{held-step}
use Rattle.buffer_machine.proofs.Found.{channel_under, target_under, channel-found, query-found}
use Rattle.buffer_machine.proofs.Playing.{lines_by, played-is, played-lines, played_by-both, standing-is}
use Rattle.renewal.specs.Renewed.{AreWithinLimits, MeansTheSame}

-- the floors of all possible nodes are the same
abbrev pub SameFloors : List Command → List Command → Type 0
SameFloors old new = (node : ℕ) → node < 8 → floor new node ≡ floor old node

floor-later : (later old new : List Command) (node : ℕ) → floor new node ≡ floor old node → floor (later ++ new) node ≡ floor (later ++ old) node
unfolding floor
floor-later [] old new node e = e
floor-later (x ∷ later) old new node e = ap (λ f. floor_after f node x) (floor-later later old new node e)

now-later : (later old new : List Command) (x : Command) → SameFloors old new → IsWithinLimits x → floor_now (later ++ new) x ≡ floor_now (later ++ old) x
now-later later old new (Client o at action) f w = floor-later later old new o.0 (f o.0 w)
now-later later old new (Upstream at line) f w = refl
now-later later old new (NodeGone n boot) f w = refl
now-later later old new Up f w = refl
now-later later old new Down f w = refl

pub held-later : (s : Settings) → IsSound s → (later old new : List Command) → SameFloors old new → held s new ≡ held s old → AreWithinLimits later
    → held s (later ++ new) ≡ held s (later ++ old)
held-later s sound [] old new f e w = e
held-later s sound (x ∷ later) old new f e w =
    sym (held-step s sound (later ++ new) x)
    ∙ (ap (λ n. after s n (held s (later ++ new)) x) (now-later later old new x f w.0)
    ∙ (ap (λ h. after s (floor_now (later ++ old) x) h x) (held-later s sound later old new f e w.1)
    ∙ held-step s sound (later ++ old) x))

effects-later : (s : Settings) → IsSound s → (later old new : List Command) (x : Command) → SameFloors old new → held s new ≡ held s old → AreWithinLimits (x ∷ later)
    → effects s (later ++ new) x ≡ effects s (later ++ old) x
effects-later s sound later old new x f e w =
    sym (effects-step s sound (later ++ new) x)
    ∙ (ap (λ n. answers s n (held s (later ++ new)) x) (now-later later old new x f w.0)
    ∙ (ap (λ h. answers s (floor_now (later ++ old) x) h x) (held-later s sound later old new f e w.1)
    ∙ effects-step s sound (later ++ old) x))

-- what is played back from all that is held
playback-same : (s : Settings) (old new : List Command) (t : List ℕ) → held s new ≡ held s old → playback s new t ≡ playback s old t
playback-same s old new t e = sym (played-is s new t) ∙ (ap (λ h. played_of s.offset (target_of_key t h)) e ∙ played-is s old t)

-- what is played back from it to a name

abbrev played_at : ℕ → Option ℕ → Option TargetLines → List Parts
played_at offset i None = []
played_at offset i (Some t) = played_by offset i t

abbrev pub found_of : Settings → List Command → List ℕ → Bool → Bool → Option TargetLines
found_of s history k c q =
    first_some (if c then Some (channel_under s history k (find (at_key k) (channels s history))) else None)
    (if q then Some (target_under s history k (find (at_key k) (queries s history))) else None)

pub target-is : (s : Settings) (history : List Command) (k : List ℕ) → target_of_key k (held s history) ≡ found_of s history k (is_in k (channels s history)) (is_in k (queries s history))
target-is s history k = rw (channel-found s history k (channels s history), query-found s history k (queries s history)) refl

by_place : (s : Settings) (history : List Command) (n : Option (List ℕ)) (k : List ℕ) (name : Option (List ℕ))
    → played_by s.offset (standing n (ids s history)) (target_under s history k name) ≡ framed s.offset (unwrap_or name k) (lines_by s history n k)
by_place s history n k name =
    ap (λ i. played_by s.offset i (target_under s history k name)) (standing-is n (ids s history)) ∙ played-lines s history n k (unwrap_or name k)

by_found : (s : Settings) (history : List Command) (n : Option (List ℕ)) (k : List ℕ) (c q : Bool)
    → played_at s.offset (standing n (ids s history)) (found_of s history k c q)
    ≡ (if c || q then framed s.offset (unwrap_or (if c then find (at_key k) (channels s history) else find (at_key k) (queries s history)) k) (lines_by s history n k) else [])
by_found s history n k true q = by_place s history n k (find (at_key k) (channels s history))
by_found s history n k false true = by_place s history n k (find (at_key k) (queries s history))
by_found s history n k false false = refl

-- what is played to a name is found in what is held
abbrev pub played_in : ℕ → Option (List ℕ) → List ℕ → Held → List Parts
played_in offset n k h = played_at offset (standing n h.names.ids) (target_of_key k h)

played_in-is : (s : Settings) (history : List Command) (n : Option (List ℕ)) (k : List ℕ) → played_in s.offset n k (held s history) ≡ playback_by s history n k
played_in-is s history n k =
    ap (played_at s.offset (standing n (ids s history))) (target-is s history k)
    ∙ (by_found s history n k (is_in k (channels s history)) (is_in k (queries s history)) ∙ sym (played_by-both s history n k))

named-same : (s : Settings) (old new : List Command) (n : Option (List ℕ)) (k : List ℕ) → held s new ≡ held s old → playback_by s new n k ≡ playback_by s old n k
named-same s old new n k e = sym (played_in-is s new n k) ∙ (ap (played_in s.offset n k) e ∙ played_in-is s old n k)

-- where the same is held, the two lists mean the same
pub means_the_same : (s : Settings) (old new : List Command) → IsSound s → SameFloors old new → held s new ≡ held s old → MeansTheSame s old new
means_the_same s old new sound f e = record {
  brought = λ later x w. effects-later s sound later old new x f e w;
  played = λ later t w. playback-same s (later ++ old) (later ++ new) t (held-later s sound later old new f e w);
  played_for = λ later id t w. named-same s (later ++ old) (later ++ new) (Some id) t (held-later s sound later old new f e w);
}
