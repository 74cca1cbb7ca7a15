-- The classes of bytes, by their numbers.
use Rattle.std.specs.Prelude.{◌≡◌, ℕ, ◌≤◌, Bool, cond, ◌&&◌, ◌||◌, ◌==◌, nat_le, List, take, drop}
use Rattle.std.specs.Borrow.{Bor}
use Rattle.tokens.specs.declared.bytes.Class.{Class}
use Rattle.tokens.specs.declared.bytes.Class.TheVariants.{Blank, Lower, Upper, Digit, Underscore, Other}
use Rattle.tokens.specs.declared.bytes.Run.{Run}
use Rattle.tokens.specs.declared.bytes.Run.TheVariants.{Blanks, Name, Digits}

-- space, tab, line feed and carriage return
abbrev pub is_blank : ℕ → Bool
is_blank b = b == 32 || (b == 9 || (b == 10 || b == 13))

-- a to z
abbrev pub is_lower : ℕ → Bool
is_lower b = nat_le 97 b && nat_le b 122

-- A to Z
abbrev pub is_upper : ℕ → Bool
is_upper b = nat_le 65 b && nat_le b 90

-- 0 to 9
abbrev pub is_digit : ℕ → Bool
is_digit b = nat_le 48 b && nat_le b 57

-- a name begins with a letter
abbrev pub is_letter : ℕ → Bool
is_letter b = is_lower b || is_upper b

-- letters, digits and the underscore go on with a name
abbrev pub is_name_byte : ℕ → Bool
is_name_byte b = is_lower b || (is_upper b || (is_digit b || b == 95))

-- the one class that a byte has
abbrev pub class : ℕ → Class
class b =
    cond (is_blank b) Blank
    (cond (is_lower b) Lower (cond (is_upper b) Upper (cond (is_digit b) Digit (cond (b == 95) Underscore Other))))

-- whether a byte goes on with a run: of blanks, of a name behind its first letter, of digits
abbrev pub goes_on : Run → ℕ → Bool
goes_on Blanks = is_blank
goes_on Name = is_name_byte
goes_on Digits = is_digit

-- a run of n bytes is within the limit, and these are the run and what is left behind it
abbrev pub SplitsRun : ℕ → ℕ → List ℕ → Bor (List ℕ) × Bor (List ℕ) → Type 0
SplitsRun n limit bs x = (n ≤ limit) × (x.0.now ≡ take n bs) × (x.1.now ≡ drop n bs)
