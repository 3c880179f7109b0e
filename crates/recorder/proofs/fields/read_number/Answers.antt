use Rattle.std.proofs.Common.{subst}
use Rattle.std.specs.Str.Parse.{ParsesUnsigned}
use Rattle.recorder.proofs.Numbers.{no_text, no_number, another_text}
use Rattle.recorder.proofs.fields.read_number.Goals as goal

pub returns-in-Err : goal.returns-in-Err
returns-in-Err c = no_text c.args.bytes.now (c.in-Err.ensures.cases).0

pub returns-in-Err-from_str_radix : goal.returns-in-Err-from_str_radix
returns-in-Err-from_str_radix c = no_number c.args.bytes.now _ _ (subst (λ b. ParsesUnsigned 64 10 b c.from_str_radix.result) c.in-Ok.ensures.cases.0 c.from_str_radix.ensures.value) c.in-Err-from_str_radix.is

pub returns-else-is_text_of : goal.returns-else-is_text_of
returns-else-is_text_of c = another_text c.args.bytes.now _ _ (subst (λ b. ParsesUnsigned 64 10 b c.from_str_radix.result) c.in-Ok.ensures.cases.0 c.from_str_radix.ensures.value) c.in-Ok-from_str_radix.is (c.is_text_of.ensures.other c.if-is_text_of.false)
