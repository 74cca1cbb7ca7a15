use Rattle.std.proofs.Common.{◌≡◌, ℕ, ◌+◌, ◌≤◌, true, leb, length, Some, sym, ap, ◌∙◌, arith}
use Rattle.std.proofs.lemmas.Bool.Decides.{nat_tests}
use Rattle.std.specs.Option.{option_map}
use Rattle.cores.specs.Stacks.{find_below, find_own, own_bound, raised}
use Rattle.cores.proofs.layers.LayeredCore.find.Goals as goal

pub returns-in-Some : goal.returns-in-Some
returns-in-Some g c = find_below g.L.Layer.entries g.C.Core.words c.args.name.now c.in-Some.found (sym c.find.ensures ∙ c.in-Some.is)

pub returns-in_err-found : goal.returns-in_err-found
returns-in_err-found g c =
    let b = c.count-base.ensures in
    let t = c.has_room.ensures in
    let u = c.if-not-has_room.false in
    let r : leb (length g.C.Core.words + length g.L.Layer.entries) 1073741824 ≡ true = cc in
    c.from_residual.ensures
    ∙ ap (option_map (raised (length g.C.Core.words))) (sym c.in_err-found.was ∙ c.own_word.ensures)
    ∙ find_own g.L.Layer.entries g.C.Core.words c.args.name.now (sym c.find.ensures ∙ c.in_default.is) r

pub overflow_add-result : goal.overflow_add-result
overflow_add-result g c =
    let b = c.count-base.ensures in
    let t = c.has_room.ensures in
    let u = c.if-not-has_room.false in
    let r : leb (length g.C.Core.words + length g.L.Layer.entries) 1073741824 ≡ true = cc in
    let h : length g.C.Core.words + length g.L.Layer.entries ≤ 1073741824 = grind (arith, nat_tests) in
    let k = own_bound g.L.Layer.entries c.args.name.now c.in_ok-found.found (sym c.own_word.ensures ∙ c.in_ok-found.was) in
    omega arith

pub returns : goal.returns
returns g c =
    let b = c.count-base.ensures in
    let t = c.has_room.ensures in
    let u = c.if-not-has_room.false in
    let r : leb (length g.C.Core.words + length g.L.Layer.entries) 1073741824 ≡ true = cc in
    ap (λ (n : ℕ). Some (raised n c.in_ok-found.found)) b
    ∙ ap (option_map (raised (length g.C.Core.words))) (sym c.in_ok-found.was ∙ c.own_word.ensures)
    ∙ find_own g.L.Layer.entries g.C.Core.words c.args.name.now (sym c.find.ensures ∙ c.in_default.is) r
