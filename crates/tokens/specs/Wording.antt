-- The sentences for reasons.
use Rattle.std.specs.Prelude.{ℕ, List, codes}
use Rattle.tokens.specs.declared.lexer.Reason.{Reason}
use Rattle.tokens.specs.declared.lexer.Reason.TheVariants.{Byte, LongName, LongInteger}

-- what a reader is told where no token stands
abbrev pub reason_words : Reason → List ℕ
reason_words Byte = codes "no token begins with this byte"
reason_words LongName = codes "a name has at most 16 bytes, and this one goes on"
reason_words LongInteger = codes "an integer has at most 9 digits, and this one goes on"
