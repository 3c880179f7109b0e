-- The lines in a past.
use Rattle.std.specs.Prelude.{List, [], ◌∷◌, ◌++◌}
use Rattle.node_cells.specs.Upstreams.{Numbered}
use Rattle.bouncer_run.specs.declared.past.Past.{Past, Nothing, Told'}

-- the lines of a past with their numbers, in order
abbrev pub lines_of : Past → List Numbered
lines_of Nothing = []
lines_of (Told' number line marker past) = lines_of past ++ (number, line.value) ∷ []
