use Rattle.std.proofs.Common.{◌≡◌, [], ◌∷◌, ◌++◌, sym, ◌∙◌}
use Rattle.std.specs.Prelude.{Some, None}
use Rattle.irc_line.specs.Comparing.{behind}
use Rattle.irc_line.proofs.Comparisons.{front_some, front_none}
use Rattle.irc_line.proofs.comparing.behind_prefix.Goals as goal

pub returns-in_err-behind-in-Some-2 : goal.returns-in_err-behind-in-Some-2
returns-in_err-behind-in-Some-2 c =
    let bytes = c.args.bytes.now in
    let prefix = c.in-Some.prefix.now in
    let left = c.in_ok-behind-in-Some.field-0.now in
    let colon : behind (58 ∷ []) bytes ≡ Some left = sym c.in_ok-behind-in-Some.ensures in
    let none : behind prefix left ≡ None = sym c.in_err-behind-in-Some-2.ensures in
    let all : behind (58 ∷ (prefix ++ 32 ∷ [])) bytes ≡ None = front_some (58 ∷ []) (prefix ++ 32 ∷ []) bytes left colon ∙ front_none prefix (32 ∷ []) left none in
    rw (c.in-Some.is, c.from_residual-in_err-behind-in-Some-2.ensures) (sym all)

pub returns-in_ok-behind-in-Some-2 : goal.returns-in_ok-behind-in-Some-2
returns-in_ok-behind-in-Some-2 c =
    let bytes = c.args.bytes.now in
    let prefix = c.in-Some.prefix.now in
    let left = c.in_ok-behind-in-Some.field-0.now in
    let after = c.in_ok-behind-in-Some-2.field-0.now in
    let colon : behind (58 ∷ []) bytes ≡ Some left = sym c.in_ok-behind-in-Some.ensures in
    let word : behind prefix left ≡ Some after = sym c.in_ok-behind-in-Some-2.ensures in
    rw c.in-Some.is (c.behind-in-Some-2.ensures ∙ sym (front_some prefix (32 ∷ []) left after word) ∙ sym (front_some (58 ∷ []) (prefix ++ 32 ∷ []) bytes left colon))
