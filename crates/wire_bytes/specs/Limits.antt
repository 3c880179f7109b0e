-- The limits of a body and of a moment.
use Rattle.std.specs.Prelude.{ℕ, ◌^◌}
use Rattle.wire_bytes.specs.declared.limits.TheConstants.{BODY_LIMIT, LAST_SECOND}

-- how many bytes the spelling of a body of the log has at most
abbrev pub body_limit : ℕ
body_limit = BODY_LIMIT

-- the last second that a moment may be, since 1970 in UTC
abbrev pub second_limit : ℕ
second_limit = LAST_SECOND

-- the last number of a request, a floor, a run, a term, an attempt or a sequence
abbrev pub number_limit : ℕ
number_limit = 2 ^ 60

-- how many nodes there are at most
abbrev pub node_limit : ℕ
node_limit = 7
