-- What a token holds besides its class, and a token from the two.
use Rattle.std.proofs.Common.{◌≡◌, ℕ, Bool, true, false, cond, eqb, List, [], ◌∷◌, get_or, sym, refl, ap, ◌∙◌, eq-eqb, eqb-true}
use mathlib.Core.Bool.{Bool-set}
use mathlib.Core.HLevel.{is_prop→PathP}
use Rattle.tokens.specs.declared.token.Mark.{Mark}
use Rattle.tokens.specs.declared.token.Keyword.{Keyword}
use Rattle.types.specs.Types.{Name}
use Rattle.reader.specs.declared.class.Class.{Class}
use Rattle.reader.specs.Tokens.{Token, mark, keyword, lower, upper, integer, label0, label1, label2, operator0, operator1, operator2, operator3, text_end, is_rank, class_of}
use Rattle.reader.specs.Grammar.{number}

-- digits that are a rank, or that are none
pub record Digits (b : Bool) : Type 0 where
  pub digits : List ℕ
  pub judged : is_rank digits ≡ b

-- what a token of a class holds
abbrev pub Load : Class → Type 0
Load Class.Open = Unit {0}
Load Class.Close = Unit {0}
Load Class.Colon = Unit {0}
Load Class.Equals = Unit {0}
Load Class.Comma = Unit {0}
Load Class.Dot = Unit {0}
Load Class.Arrow = Unit {0}
Load Class.OpenAttribute = Unit {0}
Load Class.CloseAttribute = Unit {0}
Load Class.Module = Unit {0}
Load Class.Struct = Unit {0}
Load Class.Sig = Unit {0}
Load Class.End = Unit {0}
Load Class.Functor = Unit {0}
Load Class.«Type» = Unit {0}
Load Class.Val = Unit {0}
Load Class.Let = Unit {0}
Load Class.Fun = Unit {0}
Load Class.Rank = Unit {0}
Load Class.Lower = Name
Load Class.Upper = Name
Load Class.SmallInteger = Digits true
Load Class.LargeInteger = Digits false
Load Class.Label0 = ℕ
Load Class.Label1 = ℕ
Load Class.Label2 = ℕ
Load Class.Operator0 = ℕ
Load Class.Operator1 = ℕ
Load Class.Operator2 = ℕ
Load Class.Operator3 = ℕ
Load Class.TextEnd = Unit {0}

-- the token of a class that holds this
abbrev pub whole : (c : Class) → Load c → Token
whole Class.Open l = mark Mark.Open
whole Class.Close l = mark Mark.Close
whole Class.Colon l = mark Mark.Colon
whole Class.Equals l = mark Mark.Equals
whole Class.Comma l = mark Mark.Comma
whole Class.Dot l = mark Mark.Dot
whole Class.Arrow l = mark Mark.Arrow
whole Class.OpenAttribute l = mark Mark.OpenAttribute
whole Class.CloseAttribute l = mark Mark.CloseAttribute
whole Class.Module l = keyword Keyword.Module
whole Class.Struct l = keyword Keyword.Struct
whole Class.Sig l = keyword Keyword.Sig
whole Class.End l = keyword Keyword.End
whole Class.Functor l = keyword Keyword.Functor
whole Class.«Type» l = keyword Keyword.«Type»
whole Class.Val l = keyword Keyword.Val
whole Class.Let l = keyword Keyword.Let
whole Class.Fun l = keyword Keyword.Fun
whole Class.Rank l = keyword Keyword.Rank
whole Class.Lower l = lower l
whole Class.Upper l = upper l
whole Class.SmallInteger l = integer l.digits
whole Class.LargeInteger l = integer l.digits
whole Class.Label0 l = label0 l
whole Class.Label1 l = label1 l
whole Class.Label2 l = label2 l
whole Class.Operator0 l = operator0 l
whole Class.Operator1 l = operator1 l
whole Class.Operator2 l = operator2 l
whole Class.Operator3 l = operator3 l
whole Class.TextEnd l = text_end

-- a token's load, and that the token comes back
abbrev pub Loaded : Token → Class → Type 0
Loaded k c = (l : Load c) × (whole c l ≡ k)

load_integer : (ds : List ℕ) (b : Bool) → is_rank ds ≡ b → Loaded (integer ds) (cond b Class.SmallInteger Class.LargeInteger)
load_integer ds true e = (record { digits = ds; judged = e }, refl)
load_integer ds false e = (record { digits = ds; judged = e }, refl)

load_mark : (m : Mark) → Loaded (mark m) (class_of (mark m))
load_mark Mark.Open = (tt, refl)
load_mark Mark.Close = (tt, refl)
load_mark Mark.Colon = (tt, refl)
load_mark Mark.Equals = (tt, refl)
load_mark Mark.Comma = (tt, refl)
load_mark Mark.Dot = (tt, refl)
load_mark Mark.Arrow = (tt, refl)
load_mark Mark.OpenAttribute = (tt, refl)
load_mark Mark.CloseAttribute = (tt, refl)

load_keyword : (k : Keyword) → Loaded (keyword k) (class_of (keyword k))
load_keyword Keyword.Module = (tt, refl)
load_keyword Keyword.Struct = (tt, refl)
load_keyword Keyword.Sig = (tt, refl)
load_keyword Keyword.End = (tt, refl)
load_keyword Keyword.Functor = (tt, refl)
load_keyword Keyword.«Type» = (tt, refl)
load_keyword Keyword.Val = (tt, refl)
load_keyword Keyword.Let = (tt, refl)
load_keyword Keyword.Fun = (tt, refl)
load_keyword Keyword.Rank = (tt, refl)

pub load : (k : Token) → Loaded k (class_of k)
load (mark m) = load_mark m
load (keyword k) = load_keyword k
load (lower x) = (x, refl)
load (upper x) = (x, refl)
load (integer ds) = load_integer ds (is_rank ds) refl
load (label0 l) = (l, refl)
load (label1 l) = (l, refl)
load (label2 l) = (l, refl)
load (operator0 o) = (o, refl)
load (operator1 o) = (o, refl)
load (operator2 o) = (o, refl)
load (operator3 o) = (o, refl)
load text_end = (tt, refl)

pub class_whole : (c : Class) (l : Load c) → class_of (whole c l) ≡ c
class_whole Class.Open l = refl
class_whole Class.Close l = refl
class_whole Class.Colon l = refl
class_whole Class.Equals l = refl
class_whole Class.Comma l = refl
class_whole Class.Dot l = refl
class_whole Class.Arrow l = refl
class_whole Class.OpenAttribute l = refl
class_whole Class.CloseAttribute l = refl
class_whole Class.Module l = refl
class_whole Class.Struct l = refl
class_whole Class.Sig l = refl
class_whole Class.End l = refl
class_whole Class.Functor l = refl
class_whole Class.«Type» l = refl
class_whole Class.Val l = refl
class_whole Class.Let l = refl
class_whole Class.Fun l = refl
class_whole Class.Rank l = refl
class_whole Class.Lower l = refl
class_whole Class.Upper l = refl
class_whole Class.SmallInteger l = ap (λ (b : Bool). cond b Class.SmallInteger Class.LargeInteger) l.judged
class_whole Class.LargeInteger l = ap (λ (b : Bool). cond b Class.SmallInteger Class.LargeInteger) l.judged
class_whole Class.Label0 l = refl
class_whole Class.Label1 l = refl
class_whole Class.Label2 l = refl
class_whole Class.Operator0 l = refl
class_whole Class.Operator1 l = refl
class_whole Class.Operator2 l = refl
class_whole Class.Operator3 l = refl
class_whole Class.TextEnd l = refl

digits_same : {b : Bool} (l m : Digits b) → l.digits ≡ m.digits → l ≡ m
digits_same {b} l m e =
    λ i. record {
      digits = e i;
      judged = is_prop→PathP (λ j. is_rank (e j) ≡ b) (λ j. Bool-set (is_rank (e j)) b) l.judged m.judged i;
    }

integer_injective : {ds es : List ℕ} → integer ds ≡ integer es → ds ≡ es
integer_injective e = cc

-- what a token holds is told by the token
pub whole_injective : (c : Class) (l m : Load c) → whole c l ≡ whole c m → l ≡ m
whole_injective Class.Open l m e = refl
whole_injective Class.Close l m e = refl
whole_injective Class.Colon l m e = refl
whole_injective Class.Equals l m e = refl
whole_injective Class.Comma l m e = refl
whole_injective Class.Dot l m e = refl
whole_injective Class.Arrow l m e = refl
whole_injective Class.OpenAttribute l m e = refl
whole_injective Class.CloseAttribute l m e = refl
whole_injective Class.Module l m e = refl
whole_injective Class.Struct l m e = refl
whole_injective Class.Sig l m e = refl
whole_injective Class.End l m e = refl
whole_injective Class.Functor l m e = refl
whole_injective Class.«Type» l m e = refl
whole_injective Class.Val l m e = refl
whole_injective Class.Let l m e = refl
whole_injective Class.Fun l m e = refl
whole_injective Class.Rank l m e = refl
whole_injective Class.Lower l m e = cc
whole_injective Class.Upper l m e = cc
whole_injective Class.SmallInteger l m e = digits_same l m (integer_injective e)
whole_injective Class.LargeInteger l m e = digits_same l m (integer_injective e)
whole_injective Class.Label0 l m e = cc
whole_injective Class.Label1 l m e = cc
whole_injective Class.Label2 l m e = cc
whole_injective Class.Operator0 l m e = cc
whole_injective Class.Operator1 l m e = cc
whole_injective Class.Operator2 l m e = cc
whole_injective Class.Operator3 l m e = cc
whole_injective Class.TextEnd l m e = refl

abbrev classes : List Class
classes = Class.Open ∷ Class.Close ∷ Class.Colon ∷ Class.Equals ∷ Class.Comma ∷ Class.Dot ∷ Class.Arrow ∷ Class.OpenAttribute ∷ Class.CloseAttribute ∷ Class.Module ∷ Class.Struct ∷ Class.Sig ∷ Class.End ∷ Class.Functor ∷ Class.«Type» ∷ Class.Val ∷ Class.Let ∷ Class.Fun ∷ Class.Rank ∷ Class.Lower ∷ Class.Upper ∷ Class.SmallInteger ∷ Class.LargeInteger ∷ Class.Label0 ∷ Class.Label1 ∷ Class.Label2 ∷ Class.Operator0 ∷ Class.Operator1 ∷ Class.Operator2 ∷ Class.Operator3 ∷ Class.TextEnd ∷ []

numbered : (c : Class) → get_or classes (number c) Class.Open ≡ c
numbered Class.Open = refl
numbered Class.Close = refl
numbered Class.Colon = refl
numbered Class.Equals = refl
numbered Class.Comma = refl
numbered Class.Dot = refl
numbered Class.Arrow = refl
numbered Class.OpenAttribute = refl
numbered Class.CloseAttribute = refl
numbered Class.Module = refl
numbered Class.Struct = refl
numbered Class.Sig = refl
numbered Class.End = refl
numbered Class.Functor = refl
numbered Class.«Type» = refl
numbered Class.Val = refl
numbered Class.Let = refl
numbered Class.Fun = refl
numbered Class.Rank = refl
numbered Class.Lower = refl
numbered Class.Upper = refl
numbered Class.SmallInteger = refl
numbered Class.LargeInteger = refl
numbered Class.Label0 = refl
numbered Class.Label1 = refl
numbered Class.Label2 = refl
numbered Class.Operator0 = refl
numbered Class.Operator1 = refl
numbered Class.Operator2 = refl
numbered Class.Operator3 = refl
numbered Class.TextEnd = refl

-- classes of one number are the same
pub same_class : (c d : Class) → eqb (number c) (number d) ≡ true → c ≡ d
same_class c d e =
    sym (numbered c) ∙ ap (λ (n : ℕ). get_or classes n Class.Open) (eqb-true (number c) (number d) e) ∙ numbered d

pub class_same : (c d : Class) → c ≡ d → eqb (number c) (number d) ≡ true
class_same c d e = eq-eqb (number c) (number d) (ap number e)
