use Rattle.std.proofs.Common.{◌≡◌, ℕ, ◌+◌, ◌<◌, List, [], ◌∷◌, ◌++◌, length, get_or, sym, refl, ap, ◌∙◌, arith, append_assoc}
use Rattle.reader.specs.declared.scope.Inherit.{Inherit}
use Rattle.std.proofs.lemmas.List.{drop_all, length_push, length-append}
use Rattle.std.specs.Iterator.Adapters.{rev_source, enumerate_source, enumerate_count}
use Rattle.std.specs.Slice.Iter.{iter_rest}
use Rattle.reader.specs.declared.symbol.Symbol.{Symbol}
use Rattle.reader.specs.Annotate.{Attr, inherit, inherits}
use Rattle.reader.specs.Frames.{Framed, placed, attr_of}
use Rattle.reader.proofs.Framed.{inherits_long, inherits_at, frames_more}
use Rattle.reader.proofs.frame.Frames.push_all.Goals as goal

pub push-init : goal.push-init
push-init c =
    let handed = inherits c.args.after.now c.args.rules.now (attr_of c.args.origin.frame) (placed c.args.origin.place) c.args.origin.new in
    let long = inherits_long c.args.after.now c.args.rules.now (attr_of c.args.origin.frame) (placed c.args.origin.place) c.args.origin.new in
    let source = ap rev_source c.into_iter-i-iterator.ensures.into_iter_gives ∙ c.rev-i-items.ensures.source in
    let rest : iter_rest (enumerate_source (rev_source c.into_iter-i-iterator.result)) ≡ c.args.after.now =
    ap (λ s. iter_rest (enumerate_source s)) source ∙ ap iter_rest c.enumerate.ensures.source ∙ c.iter.ensures.rest in
    record {
      counted = ap enumerate_count source ∙ c.enumerate.ensures.count;
      within = omega (arith, ap length rest);
      symbols = ap (λ (x : List Symbol). x ++ c.args.self.now.symbols) rest;
      attrs = ap (λ (x : List (Attr ℕ)). x ++ c.args.self.now.attrs) (sym (drop_all _ handed (omega (arith, long, ap length rest))));
      room = refl;
    }

pub push-requires : goal.push-requires
push-requires c =
    let long = ap length c.in-Some.ensures.steps.1.0 ∙ length_push _ _ in
    let all = ap length c.push.invariant.symbols in
    omega (
      arith,
      long,
      all,
      length-append (iter_rest (enumerate_source (rev_source c.push.i-iterator))) c.push.self.symbols,
      length-append c.args.after.now c.args.self.now.symbols,
      c.push.invariant.room,
      c.requires,
    )

pub push-preserved : goal.push-preserved
push-preserved c =
    let steps = c.in-Some.ensures.steps in
    let rest = iter_rest (enumerate_source (rev_source c.next.new.self)) in
    let handed = inherits c.args.after.now c.args.rules.now (attr_of c.args.origin.frame) (placed c.args.origin.place) c.args.origin.new in
    let handed_long = inherits_long c.args.after.now c.args.rules.now (attr_of c.args.origin.frame) (placed c.args.origin.place) c.args.origin.new in
    let long : length (iter_rest (enumerate_source (rev_source c.push.i-iterator))) ≡ length rest + 1 = ap length steps.1.0 ∙ length_push _ _ in
    let lt : length rest < length c.args.after.now = omega (arith, long, c.push.invariant.within) in
    let here : c.in-Some.i ≡ length rest = omega (arith, steps.1.1, c.push.invariant.counted) in
    let z : Attr ℕ = attr_of c.inherit.result in
    let is : z ≡ get_or handed (length rest) z =
    c.inherit.ensures
    ∙ ap (λ r. inherit r (attr_of c.args.origin.frame) (placed c.args.origin.place) c.args.origin.new) (c.rule_at.ensures ∙ ap (λ i. get_or c.args.rules.now i Inherit.Here) here)
    ∙ sym (inherits_at c.args.after.now c.args.rules.now (attr_of c.args.origin.frame) (placed c.args.origin.place) c.args.origin.new (length rest) z lt) in
    record {
      counted = steps.0 ∙ c.push.invariant.counted;
      within = omega (arith, lt);
      symbols = ap (λ (v : Framed). rest ++ v.symbols) c.push-in-push.ensures
          ∙ sym (append_assoc rest (c.in-Some.field-0-1.now ∷ []) c.push.self.symbols)
          ∙ ap (λ (x : List Symbol). x ++ c.push.self.symbols) (sym steps.1.0)
          ∙ c.push.invariant.symbols;
      attrs = frames_more handed c.args.self.now.attrs z z (length rest) c.push-in-push.new.self.attrs c.push.self.attrs
          (omega (arith, handed_long, lt)) is (ap (λ (v : Framed). v.attrs) c.push-in-push.ensures) (rw (sym long) c.push.invariant.attrs);
      room = ap (λ (v : Framed). v.room) c.push-in-push.ensures ∙ c.push.invariant.room;
    }
