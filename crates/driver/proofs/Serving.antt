-- Whether a client is read.
use Rattle.std.proofs.Common.{◌≡◌, ◌&&◌, Bool, true, false, not, refl, sym, ap}

-- if not too many of its requests wait, it is read as its node's notes allow
pub reads_open : (reads full : Bool) → full ≡ false → reads ≡ (reads && not full)
reads_open true full is = ap not (sym is)
reads_open false full is = refl

-- if too many wait, it is not
pub reads_shut : (reads full : Bool) → full ≡ true → not full ≡ (reads && not full)
reads_shut true full is = refl
reads_shut false full is = ap not is
