-- What the small values print.
use Rattle.std.specs.Prelude.{ℕ, List, ◌++◌, codes}
use Rattle.std.specs.Fmt.{decimal}

-- `node.boot.client`
abbrev pub origin_text : ℕ × ℕ × ℕ → List ℕ
origin_text o = decimal o.0 ++ codes "." ++ decimal o.1 ++ codes "." ++ decimal o.2

-- `term.attempt`
abbrev pub session_text : ℕ × ℕ → List ℕ
session_text id = decimal id.0 ++ codes "." ++ decimal id.1
