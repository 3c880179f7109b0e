use Rattle.irc_line.proofs.Building.{line_facts}
use Rattle.irc_line.proofs.Canonical.{line_spelled, line_content}
use Rattle.irc_line.proofs.Judging.{line_passes}
use Rattle.irc_line.proofs.laws.a_line_is_what_a_content_says.Goals as goal

pub returns : goal.returns
returns c = record { given = line_passes; said = line_spelled; content = line_content; few = λ p h. (line_facts p h).few }
