use Rattle.std.proofs.Common.{◌≡◌, ℕ, ◌≤◌, ◌+◌, false, List, ◌++◌, length}
use Rattle.fold_app.specs.Fed.{FoldsOn}
use Rattle.fold_app.proofs.feeding.Folding.feed_lines.Given as goal

abbrev pub decreases-loop-end : goal.decreases-loop-end
decreases-loop-end g l = length l.rest

abbrev pub invariant-loop-end : goal.invariant-loop-end
invariant-loop-end g l =
    (l.self.place + length l.rest ≤ l.fn.self.place + length l.piece)
    × (g.M.Machine.spoilt l.machine ≡ false)
    × (l.self.fault ≡ l.fn.self.fault)
    × ((gone : List ℕ) × (gone ++ l.rest ≡ l.piece) × FoldsOn g.M.Machine.stands g.M.Machine.effects l.fn.machine l.fn.self gone l.machine l.self)
