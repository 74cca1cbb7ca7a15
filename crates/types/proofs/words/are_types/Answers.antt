use Rattle.std.proofs.Common.{false, true, length, subst, sym, arith}
use Rattle.std.proofs.lemmas.Iterator.Adapters.{YieldsList-from_rev_slice}
use Rattle.std.proofs.lemmas.Iterator.Consumers.{YieldsList-turn, YieldsList-end}
use Rattle.std.proofs.lemmas.List.{length_push}
use Rattle.types.proofs.Ends.{WholeBack, ReadBack, whole_back, lacks_back, whole_end}
use Rattle.types.proofs.Encodings.{are_types}
use Rattle.types.proofs.words.are_types.Goals as goal

pub loop-word-preserved : goal.loop-word-preserved
loop-word-preserved c =
    let ws = c.args.words.now in
    let r : ReadBack ws (length c.loop-word.yielded) c.in-Some.word.now =
    YieldsList-turn (YieldsList-from_rev_slice ws (cc)) c.loop-word.yielded _ c.loop-word.yielded_by _ _ c.in-Some.word c.in-Some.is c.next.ensures.steps in
    let n = c.in-Some-types_with.n in
    subst (λ k. WholeBack ws k n) (sym (length_push c.loop-word.yielded c.in-Some.word))
    (whole_back ws _ c.loop-word.count n c.in-Some.word.now (λ i. omega (arith, c.type_inv.words i)) c.loop-word.invariant r (cc))

pub returns-in_default : goal.returns-in_default
returns-in_default c =
    let ws = c.args.words.now in
    let r : ReadBack ws (length c.loop-word.yielded) c.in-Some.word.now =
    YieldsList-turn (YieldsList-from_rev_slice ws (cc)) c.loop-word.yielded _ c.loop-word.yielded_by _ _ c.in-Some.word c.in-Some.is c.next.ensures.steps in
    let e = lacks_back ws _ c.loop-word.count c.in-Some.word.now c.loop-word.invariant r (cc) in
    record { tells = e; means = are_types ws false e }

pub returns : goal.returns
returns c =
    let ws = c.args.words.now in
    let r = YieldsList-end (YieldsList-from_rev_slice ws (cc)) c.loop-word.yielded _ c.loop-word.yielded_by _ _ c.in-None.is c.next.ensures.steps in
    let e = whole_end ws _ c.loop-word.count c.loop-word.invariant r.1 in
    record { tells = e; means = are_types ws true e }
