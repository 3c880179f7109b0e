use Rattle.ether.proofs.Cutting.{begins_as}
use Rattle.ether.proofs.ether.Ether.new.Goals as goal

pub vacant-requires : goal.vacant-requires
vacant-requires g c =
    let w = c.in_ok-words.ensures in
    begins_as _ c.args.size c.value-count.result c.in_ok-words.words.items c.as_slice.result.now c.value-count.ensures.value c.value-count.ensures.limits c.as_slice.ensures.value w.0 w.1 w.2
