use Rattle.std.proofs.Common.{arith}
use Rattle.irc_line.proofs.Tails.{no_parameter, trailing_parameter, word_parameter}
use Rattle.irc_line.proofs.tail.next_parameter.Goals as goal

pub returns-in-empty : goal.returns-in-empty
returns-in-empty c = no_parameter c.args.text.now c.without_spaces.result.now c.without_spaces.ensures (omega arith)

pub returns-in-58 : goal.returns-in-58
returns-in-58 c = trailing_parameter c.args.text.now c.without_spaces.result.now c.without_spaces.ensures (omega arith) (omega arith)

pub returns-in_default : goal.returns-in_default
returns-in_default c =
    word_parameter c.args.text.now c.without_spaces.result.now c.split_word.result.0.now c.split_word.result.1.now c.without_spaces.ensures (omega arith) (omega arith) c.split_word.ensures.word c.split_word.ensures.rest
