-- Where the journals are.
use Rattle.std.specs.Prelude.{ℕ, List, ◌++◌, codes, decimal}

-- node N's journal is the file node-N in the folder
abbrev pub journal_path : List ℕ → ℕ → List ℕ
journal_path folder node = folder ++ (codes "/node-" ++ decimal node)
