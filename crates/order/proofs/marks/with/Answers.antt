use Rattle.std.proofs.Common.{◌||◌, eqb, ap, ◌∙◌}
use Rattle.std.proofs.Math.Bool.{or_comm}
use lib.Bits.{bit_or}
use Rattle.std.proofs.lemmas.Nat.{one_shl}
use Rattle.order.specs.Seen.{bit}
use Rattle.order.proofs.Bit.{bit_or_lem, bit_pow}
use Rattle.order.proofs.marks.with.Goals as goal

pub returns : goal.returns
returns c j =
    ap (λ n. bit (bit_or c.args.marks n) j) (one_shl c.args.place 16 c.requires)
    ∙ bit_or_lem c.args.marks _ j
    ∙ ap (λ b. bit c.args.marks j || b) (bit_pow c.args.place j)
    ∙ or_comm (bit c.args.marks j) (eqb c.args.place j)
