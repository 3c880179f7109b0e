-- What a look at the files of a group's journals shows.
use Rattle.std.specs.Prelude.{ℕ, ◌==◌, if◌then◌else◌, nat_le}
use Rattle.journal_folder.specs.declared.looking.Look.{Look}
use Rattle.journal_folder.specs.declared.looking.Look.TheVariants.{Full, New, Partly}

-- given how many of this many files are longer than an empty journal
abbrev pub seen : ℕ → ℕ → Look
seen full size = if full == 0 then New else (if nat_le size full then Full else Partly)
