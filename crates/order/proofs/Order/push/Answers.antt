use Rattle.std.proofs.Common.{◌+◌, ◌-◌, ◌<◌, length, length-take-le, drop, replicate, sym, ap, ◌∙◌, arith}
use Rattle.std.proofs.lemmas.List.{drop-set-lt, drop-replicate, drop-drop, length-set}
use Rattle.order.proofs.Order.push.Goals as goal

pub invariant_of-self : goal.invariant_of-self
invariant_of-self c =
    let o = c.self.inside in
    let h = c.self.invariant in
    let long = length-take-le o.len o.places (omega (arith, h.0, h.1)) in
    let room : o.len < 16 = omega (arith, long, ap length c.self.view_is, c.requires) in (
      omega arith,
      length-set o.places o.len c.args.place ∙ h.1,
      drop-set-lt (o.len + 1) o.places o.len c.args.place (omega arith)
          ∙ sym (drop-drop 1 o.len o.places)
          ∙ ap (drop 1) h.2
          ∙ drop-replicate 1 (16 - o.len) 0
          ∙ ap (λ n. replicate n 0) (omega arith),
    )
