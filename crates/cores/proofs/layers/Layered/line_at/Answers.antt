use Rattle.std.proofs.Common.{sym, ap, ◌∙◌}
use Rattle.std.specs.Option.{option_map}
use Rattle.cores.specs.Steps.{itemized}
use Rattle.cores.specs.Stacks.{line_own}
use Rattle.cores.proofs.layers.Layered.line_at.Goals as goal

pub returns-then-has_room : goal.returns-then-has_room
returns-then-has_room g c =
    c.own_line.ensures
    ∙ ap (option_map (λ l. itemized l)) (line_own g.L.Layer.entries c.args.base c.args.number c.requires (sym c.has_room.ensures ∙ c.if-has_room.true))
