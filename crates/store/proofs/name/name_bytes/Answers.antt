use Rattle.std.proofs.Common.{◌≡◌, ◌^◌, ◌<◌, ◌∙◌, arith}
use Rattle.store.specs.Numbers.{spread}
use Rattle.store.proofs.Digits.{high_first}
use Rattle.store.proofs.Spelling.{spells}
use Rattle.store.proofs.name.name_bytes.Goals as goal

pub returns : goal.returns
returns c =
    let n = c.args.name in
    let value : c.to_be_bytes.result ≡ spread 16 n = c.to_be_bytes.ensures ∙ high_first 16 n in
    let small : n < 256 ^ 16 = omega arith in
    record { value = value; law = λ bs u e. value ∙ spells n small bs u e }
