-- What the text of a configuration means.
use Rattle.std.specs.Prelude.{◌≡◌, ℕ, List, Some, None, IsUtf8}
use Rattle.toml.specs.Data.{Members}
use Rattle.toml.specs.Parse.{parse_document}
use Rattle.bouncer_config.specs.Faults.{AreFaults}
use Rattle.bouncer_config.specs.Judged.{IsConfig}
use Rattle.bouncer_config.specs.Wrong.{IsProblem}
use Rattle.bouncer_config.specs.declared.config.Config.{Config}
use Rattle.bouncer_config.specs.declared.key_fault.KeyFault.{KeyFault}
use Rattle.bouncer_config.specs.declared.problem.Problem.{Problem}
use Rattle.bouncer_config.specs.declared.problem.Problem.TheVariants.{Memory, NotToml}

-- a text is a TOML document in UTF-8, and its table gives this configuration
pub record Says (text : List ℕ) (c : Config) : Type 0 where
  pub table : Members
  pub utf8 : IsUtf8 text
  pub reads : parse_document text ≡ Some table
  pub is : IsConfig table c

-- a text is a TOML document, and this is wrong with its table
pub record IsWrong (text : List ℕ) (p : Problem) : Type 0 where
  pub table : Members
  pub reads : parse_document text ≡ Some table
  pub wrong : IsProblem table p

-- a text is a TOML document, and this is all that is wrong with its table
pub record AreFaultsOf (text : List ℕ) (faults : List KeyFault) : Type 0 where
  pub table : Members
  pub reads : parse_document text ≡ Some table
  pub are : AreFaults table faults

-- this is wrong with a text
abbrev pub IsFault : List ℕ → Problem → Type 0
IsFault text Memory = Unit {0}
IsFault text NotToml = IsUtf8 text → parse_document text ≡ None
IsFault text p = IsWrong text p
