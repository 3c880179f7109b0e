use Rattle.std.proofs.Common.{◌≡◌, ℕ, ◌≤◌, ◌<◌, false, List, length, None}
use Rattle.std.specs.Io.KnownBytes.{Consumes}
use Rattle.fold_app.specs.Fed.{StandsFor}
use Rattle.fold_app.proofs.folds.fold_reads.Given as goal

abbrev pub invariant-loop : goal.invariant-loop
invariant-loop g l =
    (l.bytes ≤ 67108864)
    × (0 < length l.room.items)
    × (l.folding.place ≤ l.bytes)
    × (l.folding.fault ≡ None → g.M.Machine.spoilt l.machine ≡ false)
    × ((fed : List ℕ) × (length fed ≡ l.bytes) × Consumes (g.R.Read.remaining l.initial.input) (g.R.Read.remaining l.input) fed
    × StandsFor g.M.Machine.stands g.M.Machine.effects l.fn.machine fed l.machine l.folding)
