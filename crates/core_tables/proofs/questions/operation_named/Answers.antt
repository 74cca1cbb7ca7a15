use Rattle.std.proofs.Common.{◌≡◌, rules, arith, codes, ap, sym}
use Rattle.std.proofs.lemmas.Slice.Eq.{text_from_reads}
use Rattle.core_tables.specs.Questions.{operation_named}
use Rattle.core_tables.proofs.questions.operation_named.Goals as goal

pub returns-in-literal : goal.returns-in-literal
returns-in-literal g c =
    let e : c.args.name.now ≡ codes "literal" = text_from_reads _ _ (omega arith) (search rules) in
    sym (ap (operation_named g.C.Core.words) e)

pub returns-in-function : goal.returns-in-function
returns-in-function g c =
    let e : c.args.name.now ≡ codes "function" = text_from_reads _ _ (omega arith) (search rules) in
    sym (ap (operation_named g.C.Core.words) e)
