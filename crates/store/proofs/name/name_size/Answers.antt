use Rattle.std.proofs.Common.{◌≡◌, ◌^◌, ◌<◌, eqb, unwrap_or, ap, ◌∙◌, arith, rules, tests}
use Rattle.std.proofs.lemmas.Iterator.{YieldsList-from_slice}
use Rattle.std.proofs.lemmas.Iterator.Search.{position_from_yields_List}
use Rattle.std.specs.List.{position}
use Rattle.store.specs.Numbers.{spread}
use Rattle.store.specs.Names.{front}
use Rattle.store.proofs.Digits.{length_spread}
use Rattle.store.proofs.Spelling.{sizes, front_is}
use Rattle.store.proofs.name.name_size.Goals as goal

pub returns : goal.returns
returns c =
    let n = c.args.name in
    let zero : c.position.result ≡ position (λ b. eqb b 0) (spread 16 n) =
    position_from_yields_List (λ b. eqb b 0) _ _ c.position.result c.position.ensures.ran (YieldsList-from_slice (spread 16 n) (cc)) (λ x b q k. search (rules, tests)) in
    let value : c.unwrap_or.result ≡ front (spread 16 n) = c.unwrap_or.ensures ∙ ap (λ r. unwrap_or r 16) zero ∙ front_is (spread 16 n) 16 (length_spread 16 n) in
    let small : n < 256 ^ 16 = omega arith in
    record { value = value; law = λ bs u e. value ∙ sizes n small bs u e }
