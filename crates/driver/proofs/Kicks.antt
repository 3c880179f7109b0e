-- Lemmas on clients that are kicked from a channel, one after another.
use Rattle.std.proofs.Common.{◌≡◌, ◌∷◌, ℕ, Bool, true, false, List, [], refl, subst, sym}
use Rattle.std.specs.BTreeMap.{keys}
use Rattle.irc_line.specs.Lines.{Parts, parameter}
use Rattle.driver.specs.declared.link.Stage.{Stage}
use Rattle.driver.specs.Crowds.{Told}
use Rattle.driver.specs.Kicks.{KickEach, KicksClient, Rejoins, RejoinsIf, kick_line}
use Rattle.driver.specs.Links.{is_session_of}

-- one client is kicked, and then those after it
pub kick_more : (channel text : List ℕ) (number : ℕ) (left more : List ℕ) (old behind new : Told) → left ≡ number ∷ more → KicksClient channel text number old behind → KickEach channel text more behind new → KickEach channel text left old new
unfolding KickEach
kick_more channel text number left more old behind new is kicks all =
    subst (λ (left : List ℕ). KickEach channel text left old new) (sym is) (behind, kicks, all)

-- no client is left to kick
pub kick_none : (channel text : List ℕ) (left : List ℕ) (last : Told) → left ≡ [] → KickEach channel text left last last
unfolding KickEach
kick_none channel text left last none =
    subst (λ (left : List ℕ). KickEach channel text left last last) (sym none) refl

rejoins_if : (is : Bool) (line : Parts) (nick : List ℕ) (old new : Told) → is ≡ true
    → KickEach (parameter 0 line) (kick_line (parameter 0 line) nick) (keys old.clients.all) old new → RejoinsIf is line nick old new
rejoins_if true line nick old new is kicks = kicks
rejoins_if false line nick old new is kicks = absurd (cc is)

-- in a session of the node the clients that have the channel open are kicked from it
pub rejoins_so : (stage : Stage) (node : ℕ) (line : Parts) (nick : List ℕ) (old new : Told) → is_session_of stage node ≡ true
    → KickEach (parameter 0 line) (kick_line (parameter 0 line) nick) (keys old.clients.all) old new → Rejoins stage node line nick old new
rejoins_so stage node line nick old new is kicks = rejoins_if (is_session_of stage node) line nick old new is kicks
