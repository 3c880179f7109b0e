-- What happens to clients, first to one and then to those after it.
use Rattle.std.proofs.Common.{◌≡◌, ◌∷◌, ℕ, Bool, List, [], refl, subst, sym}
use Rattle.wire_bytes.specs.declared.moment.Moment.{Moment}
use Rattle.driver.specs.declared.absence.Absence.{Absence}
use Rattle.driver.specs.declared.node_monitor.NodeMonitor.{NodeMonitor}
use Rattle.driver.specs.Crowds.{CutEach, CutsClient, DismissEach, DismissesClient, LeaveEach, LeavesClient, TickEach, TicksClient, Told, WordEach, WordsClient}

-- time passes for one client, and then for those after it
pub tick_more : (at : Moment) (timeout now : ℕ) (monitors : List NodeMonitor) (number : ℕ) (left more : List ℕ) (old behind new : Told) → left ≡ number ∷ more → TicksClient at timeout now monitors number old behind → TickEach at timeout now monitors more behind new → TickEach at timeout now monitors left old new
unfolding TickEach
tick_more at timeout now monitors number left more old behind new is ticks all =
    subst (λ (left : List ℕ). TickEach at timeout now monitors left old new) (sym is) (behind, ticks, all)

-- no client is left
pub tick_none : (at : Moment) (timeout now : ℕ) (monitors : List NodeMonitor) (left : List ℕ) (last : Told) → left ≡ [] → TickEach at timeout now monitors left last last
unfolding TickEach
tick_none at timeout now monitors left last none =
    subst (λ (left : List ℕ). TickEach at timeout now monitors left last last) (sym none) refl

-- one client is closed, or stays, and then those after it
pub leave_more : (at : Moment) (node boot number : ℕ) (left more : List ℕ) (old behind new : Told) → left ≡ number ∷ more → LeavesClient at node boot number old behind → LeaveEach at node boot more behind new → LeaveEach at node boot left old new
unfolding LeaveEach
leave_more at node boot number left more old behind new is leaves all =
    subst (λ (left : List ℕ). LeaveEach at node boot left old new) (sym is) (behind, leaves, all)

-- no client is left
pub leave_none : (at : Moment) (node boot : ℕ) (left : List ℕ) (last : Told) → left ≡ [] → LeaveEach at node boot left last last
unfolding LeaveEach
leave_none at node boot left last none =
    subst (λ (left : List ℕ). LeaveEach at node boot left last last) (sym none) refl

-- one client is cut off, or stays, and then those after it
pub cut_more : (why : Absence) (node number : ℕ) (left more : List ℕ) (old behind new : Told) → left ≡ number ∷ more → CutsClient why node number old behind → CutEach why node more behind new → CutEach why node left old new
unfolding CutEach
cut_more why node number left more old behind new is cuts all =
    subst (λ (left : List ℕ). CutEach why node left old new) (sym is) (behind, cuts, all)

-- no client is left
pub cut_none : (why : Absence) (node : ℕ) (left : List ℕ) (last : Told) → left ≡ [] → CutEach why node left last last
unfolding CutEach
cut_none why node left last none =
    subst (λ (left : List ℕ). CutEach why node left last last) (sym none) refl

-- one client hears the report of its node, and then those after it
pub word_more : (at : Moment) (now node lost : ℕ) (refused : Bool) (number : ℕ) (left more : List ℕ) (old behind new : Told) → left ≡ number ∷ more → WordsClient at now node lost refused number old behind → WordEach at now node lost refused more behind new → WordEach at now node lost refused left old new
unfolding WordEach
word_more at now node lost refused number left more old behind new is words all =
    subst (λ (left : List ℕ). WordEach at now node lost refused left old new) (sym is) (behind, words, all)

-- no client is left
pub word_none : (at : Moment) (now node lost : ℕ) (refused : Bool) (left : List ℕ) (last : Told) → left ≡ [] → WordEach at now node lost refused left last last
unfolding WordEach
word_none at now node lost refused left last none =
    subst (λ (left : List ℕ). WordEach at now node lost refused left last last) (sym none) refl

pub dismiss_more : (at : Moment) (now number : ℕ) (left more : List ℕ) (old behind new : Told) → left ≡ number ∷ more → DismissesClient at now number old behind → DismissEach at now more behind new → DismissEach at now left old new
unfolding DismissEach
dismiss_more at now number left more old behind new is dismisses all =
    subst (λ (left : List ℕ). DismissEach at now left old new) (sym is) (behind, dismisses, all)

pub dismiss_none : (at : Moment) (now : ℕ) (left : List ℕ) (last : Told) → left ≡ [] → DismissEach at now left last last
unfolding DismissEach
dismiss_none at now left last none =
    subst (λ (left : List ℕ). DismissEach at now left last last) (sym none) refl
