use Rattle.std.proofs.Common.{◌≡◌, drop, true, ◌++◌, length, replicate, Some, None, sym, ap, ◌∙◌, arith}
use Rattle.std.proofs.lemmas.Bool.Decides.{nat_tests}
use Rattle.std.proofs.lemmas.Bool.{cond-true}
use Rattle.std.specs.Int.{w128, from_be_bytes}
use Rattle.store.specs.Names.{is_name, name_number, number_of}
use Rattle.store.proofs.Order.{ordered, under_from, no_zero_is, padded_number}
use Rattle.store.proofs.name.name_number.Goals.{then-is_empty-via-then-is_empty, then-is_empty-via-else-is_empty+then-bytes-gt-NAME_LIMIT, then-is_empty-via-else-is_empty+else-bytes-gt-NAME_LIMIT+then-contains}
use Rattle.store.proofs.name.name_number.Goals as goal

pub returns-then-is_empty-clause-value : goal.returns-then-is_empty-clause-value
returns-then-is_empty-clause-value c =
    let bs = c.args.bytes.now in
    let zero = no_zero_is bs in
    elim c.then-is_empty.branch [
      | then-is_empty-via-then-is_empty w ↦ grind (arith, nat_tests)
      | then-is_empty-via-else-is_empty+then-bytes-gt-NAME_LIMIT w ↦ grind (arith, nat_tests)
      | then-is_empty-via-else-is_empty+else-bytes-gt-NAME_LIMIT+then-contains w ↦ grind (arith, nat_tests)
    ]

pub returns : goal.returns
returns c =
    let bs = c.args.bytes.now in
    let zero = no_zero_is bs in
    let named : is_name bs ≡ true = grind (arith, nat_tests) in
    let number : c.from_be_bytes.result ≡ number_of bs = c.from_be_bytes.ensures ∙ ap (λ x. from_be_bytes w128 (x ++ drop (length bs) (replicate 16 0))) c.copy_from_slice.ensures.after ∙ padded_number bs (omega arith) in
    let value : Some c.from_be_bytes.result ≡ name_number bs = ap Some number ∙ sym (cond-true (is_name bs) (Some (number_of bs)) None named) in
    record { value = value; law = ordered bs (Some c.from_be_bytes.result) (under_from bs (λ k. omega (arith, c.type_inv.bytes k))) value }
