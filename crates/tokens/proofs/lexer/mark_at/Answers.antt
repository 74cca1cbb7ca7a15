use Rattle.std.proofs.Common.{arith}
use Rattle.std.proofs.lemmas.Bool.Decides.{nat_tests}
use Rattle.std.proofs.lemmas.List.{get_or_past}
use Rattle.tokens.proofs.lexer.mark_at.Goals as goal

pub returns-in_default : goal.returns-in_default
returns-in_default c =
    let bs = c.args.bytes.now in
    let none = get_or_past bs 0 0 in
    let one = get_or_past bs 1 0 in
    let two = get_or_past bs 2 0 in
    grind (arith, nat_tests)
