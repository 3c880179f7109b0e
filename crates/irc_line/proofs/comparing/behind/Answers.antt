use Rattle.std.proofs.lemmas.Bool.Decides.{Decides-eqb}
use Rattle.std.proofs.lemmas.Slice.Eq.{strip_prefix_is}
use Rattle.irc_line.proofs.Comparisons.{stripped}
use Rattle.irc_line.proofs.comparing.behind.Goals as goal

pub returns : goal.returns
returns c = stripped c.args.front.now c.args.bytes.now c.strip_prefix.result (strip_prefix_is Decides-eqb c.args.bytes.now c.args.front.now c.strip_prefix.result c.strip_prefix.ensures.cases)
