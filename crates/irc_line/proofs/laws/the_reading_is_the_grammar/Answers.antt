use Rattle.irc_line.proofs.Grammar.{complete, sound}
use Rattle.irc_line.proofs.laws.the_reading_is_the_grammar.Goals as goal

pub returns : goal.returns
returns c = record { complete = complete; sound = sound }
