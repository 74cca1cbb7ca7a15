-- Lemmas about the mark at the front of a text.
use Rattle.std.proofs.Common.{◌≡◌, ℕ, List, length, get_or, Some, arith}
use Rattle.std.proofs.lemmas.Bool.Decides.{nat_tests}
use Rattle.tokens.specs.Keywords.{mark_bytes}
use Rattle.tokens.specs.Lexer.{single_mark, mark_of}
use Rattle.tokens.specs.declared.token.Mark.{Mark}

-- a mark that one byte tells is one byte long
pub one_byte : (b : ℕ) (m : Mark) → single_mark b ≡ Some m → length (mark_bytes m) ≡ 1
one_byte b m e = grind (arith, nat_tests)

-- and no longer mark begins with that byte
pub single : (bs : List ℕ) (m : Mark) → single_mark (get_or bs 0 0) ≡ Some m → mark_of bs ≡ Some m
single bs m e = grind (arith, nat_tests)
