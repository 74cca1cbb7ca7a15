use Rattle.std.proofs.Common.{◌≡◌, ◌^◌, ◌<◌, take}
use Rattle.tokens.specs.Bytes.{is_digit}
use Rattle.tokens.specs.Integers.{decimal}
use Rattle.tokens.specs.Pieces.{All}
use Rattle.tokens.proofs.integer.value_of.Given as goal

-- the value of the digits so far
abbrev pub invariant-loop-b : goal.invariant-loop-b
invariant-loop-b l =
    All is_digit (take l.b-index l.bytes) × (l.value ≡ decimal (take l.b-index l.bytes)) × (l.value < 10 ^ l.b-index)
