use Rattle.std.proofs.Common.{◌≡◌, ℕ, ◌+◌, ◌-◌, true, false, leb, map, length, ap, ◌∙◌, arith}
use Rattle.cores.specs.Lines.{word}
use Rattle.cores.specs.Meaning.{label_name}
use Rattle.cores.specs.Stacks.{name_below, name_own, name_none}
use Rattle.cores.proofs.layers.LayeredCore.label_name.Goals as goal

pub returns-then-label-base : goal.returns-then-label-base
returns-then-label-base g c =
    let b = c.count-base.ensures in
    let t = c.if-label-base.true in
    c.label_name.ensures ∙ name_below g.L.Layer.entries g.C.Core.words c.args.label (omega arith)

pub returns-then-has_room : goal.returns-then-has_room
returns-then-has_room g c =
    let b = c.count-base.ensures in
    let t = c.has_room.ensures in
    let u = c.if-has_room.true in
    let w = c.if-label-base.false in
    let r : leb (length g.C.Core.words + length g.L.Layer.entries) 1073741824 ≡ true = cc in
    c.own_label.ensures
    ∙ ap (λ (n : ℕ). label_name (map word g.L.Layer.entries) (c.args.label - n)) b
    ∙ name_own g.L.Layer.entries g.C.Core.words c.args.label (omega arith) r

pub returns-else-has_room : goal.returns-else-has_room
returns-else-has_room g c =
    let b = c.count-base.ensures in
    let t = c.has_room.ensures in
    let u = c.if-has_room.false in
    let w = c.if-label-base.false in
    let r : leb (length g.C.Core.words + length g.L.Layer.entries) 1073741824 ≡ false = cc in
    name_none g.L.Layer.entries g.C.Core.words c.args.label (omega arith) r
