use Rattle.std.proofs.Common.{length}
use Rattle.client_gate.proofs.serve.+serve_all.Given as goal

abbrev pub decreases-serve_all : goal.decreases-serve_all
decreases-serve_all l = length l.items.now
