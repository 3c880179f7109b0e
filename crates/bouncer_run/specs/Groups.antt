-- What a configuration says about the group of nodes.
use Rattle.std.specs.Prelude.{Option, Some, None}
use Rattle.node_cells.specs.declared.record.Recording.{Recording}
use Rattle.node_cells.specs.declared.record.Recording.TheVariants.{Off, On}

-- turns are kept if a file is named for them
abbrev pub recording_by : {F : Type 0} → Option F → Recording
recording_by (Some file) = On
recording_by None = Off
