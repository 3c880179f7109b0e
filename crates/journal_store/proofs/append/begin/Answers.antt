use Rattle.std.proofs.Common.{◌≤◌, ◌∷◌, ◌++◌, [], length, arith}
use Rattle.std.proofs.lemmas.Result.{on_ok_weaker}
use Rattle.stable_store.specs.Stores.{nothing_saved}
use Rattle.journal_store.specs.Disks.{now, written_over, IsPut}
use Rattle.journal_store.specs.Journals.{header}
use Rattle.journal_store.specs.Payloads.{payloads}
use Rattle.journal_store.specs.Serving.{IsSettled}
use Rattle.journal_store.proofs.Covering.{short_covered}
use Rattle.journal_store.proofs.Standing.{making, made}
use Rattle.journal_store.proofs.append.begin.Goals as goal

pub returns-clause-any_moment : goal.returns-clause-any_moment
returns-clause-any_moment g c = λ h. making (payloads g.B.Wire.taken) nothing_saved _ _ (c.requires h) (c.put.ensures.runs h)

pub returns-clause-settled : goal.returns-clause-settled
returns-clause-settled g c = λ h.
    let s = now (g.D.Disk.states c.args.disk.now) in
    let short : length s.bytes ≤ 9 = omega (arith, c.requires h, (g.met.D.Disk.reads_as c.args.disk.now h).no_longer) in
    on_ok_weaker {P = IsPut 0 (header ++ 0 ∷ []) (g.D.Disk.states c.args.disk.now) (g.D.Disk.states c.put.new.disk)} {Q = IsSettled g.B.Wire.taken (g.D.Disk.states c.put.new.disk) nothing_saved 8} c.put.result
    (λ is. record { file = written_over s.bytes 0 (header ++ 0 ∷ []); settled = is.0; rest = made (payloads g.B.Wire.taken) nothing_saved s.bytes; small = omega arith }) (c.put.ensures.settled h (short_covered s.bytes s.left short))
