use Rattle.std.proofs.Common.{◌∙◌, sym}
use Rattle.renewal.proofs.anew.wait_same.Goals as goal

pub returns : goal.returns
returns c = λ s t before after so sn e. sym (c.waiting_of-2.ensures t after sn) ∙ (c.are_same_waiting.ensures e ∙ c.waiting_of.ensures s before so)
