-- The notes as a reader finds them: each symbol of the stack has with it what surrounds it, and hands it on to those that follow.
use Rattle.std.specs.Prelude.{ℕ, ◌+◌, Bool, true, false, cond, ◌&&◌, List, [], ◌∷◌, ◌++◌, Some, None, Option, ◌==◌, nat_le, nat_lt}
use Rattle.types.specs.Types.{Name}
use Rattle.reader.specs.declared.class.Class.{Class}
use Rattle.reader.specs.declared.fault.ReadFault.{ReadFault}
use Rattle.reader.specs.declared.fault.ReadFault.TheVariants.{TooDeep, Redeclared, Undeclared}
use Rattle.reader.specs.declared.scope.Sort.{Sort}
use Rattle.reader.specs.declared.scope.Binder.{Binder}
use Rattle.reader.specs.declared.scope.Inherit.{Inherit}
use Rattle.reader.specs.declared.scope.PathHead.{PathHead}
use Rattle.reader.specs.declared.symbol.Symbol.{Symbol}
use Rattle.reader.specs.Tokens.{Token, mark, keyword, lower, upper, integer, label0, label1, label2, operator0, operator1, operator2, operator3, text_end, class_of}
use Rattle.reader.specs.Grammar.{number, expand}
use Rattle.reader.specs.Streams.{Stream, finish, broken, next}
use Rattle.reader.specs.Scopes.{Scope, seek, is_declared}
use Rattle.reader.specs.Notes.{Head, Note, Around, deeper, scoped, entering, outermost, lower_head, upper_head, none, own, unit, missing}

-- what surrounds a symbol, and what surrounds that which follows a type or a module
pub record Attr (S : Type 0) : Type 0 where
  pub inner : Around S
  pub outer : Around S

abbrev pub both : {S : Type 0} → Around S → Attr S
both x = record { inner = x; outer = x }

abbrev pub is : Class → Class → Bool
is c d = number c == number d

-- whether a token of this class, read for this symbol, belongs to what follows
abbrev pub is_outside : Symbol → Class → Bool
is_outside (Symbol.Token c) k = false
is_outside Symbol.«Unit» k = false
is_outside Symbol.UnitName k = false
is_outside Symbol.UnitEnd k = false
is_outside Symbol.RankValue k = false
is_outside Symbol.Items k = false
is_outside Symbol.TypeItem k = false
is_outside Symbol.ValueItem k = false
is_outside Symbol.ModuleItem k = false
is_outside (Symbol.Module c) k = false
is_outside (Symbol.Parameter c) k = false
is_outside (Symbol.«Path» c) k = cond (is k Class.Dot) false (cond (is k Class.Open) false true)
is_outside (Symbol.PathName c) k = false
is_outside (Symbol.Arguments c) k = cond (is k Class.Open) false true
is_outside Symbol.ModuleEnd k = false
is_outside Symbol.Argument k = false
is_outside Symbol.ArgumentEnd k = false
is_outside Symbol.Signature k = false
is_outside Symbol.SignatureParameter k = false
is_outside Symbol.Specs k = false
is_outside Symbol.TypeSpec k = false
is_outside Symbol.TypeSpecEnd k = cond (is k Class.Equals) false true
is_outside Symbol.ValueSpec k = false
is_outside Symbol.ModuleSpec k = false
is_outside Symbol.Term k = false
is_outside Symbol.Variable k = false
is_outside Symbol.Atom k = false
is_outside Symbol.PathEnd k = false
is_outside (Symbol.«Type» c) k = false
is_outside (Symbol.Labels c) k = cond (is k Class.Label1) false true
is_outside Symbol.TypeEnd k = false
is_outside Symbol.ArgumentName k = false

-- what surrounds a token that is read for a symbol
abbrev pub around : {S : Type 0} → Symbol → Class → Attr S → Around S
around s k a = cond (is_outside s k) a.outer a.inner

-- brackets, `struct`, `sig`, `functor` and `fun` are open from themselves on
abbrev pub opening : Class → Option ℕ
opening k =
    cond (is k Class.Open) (Some 1)
    (cond (is k Class.Struct) (Some 1) (cond (is k Class.Sig) (Some 1) (cond (is k Class.Functor) (Some 1) (cond (is k Class.Fun) (Some 1) None))))

-- how many more are open at a token than around it; a parameter stands behind its `functor` or `fun` and its bracket
abbrev pub extra : Symbol → Class → Option ℕ
extra (Symbol.Token c) k = None
extra Symbol.«Unit» k = None
extra Symbol.UnitName k = None
extra Symbol.UnitEnd k = None
extra Symbol.RankValue k = None
extra Symbol.Items k = None
extra Symbol.TypeItem k = None
extra Symbol.ValueItem k = None
extra Symbol.ModuleItem k = None
extra (Symbol.Module c) k = opening k
extra (Symbol.Parameter c) k = Some 2
extra (Symbol.«Path» c) k = opening k
extra (Symbol.PathName c) k = None
extra (Symbol.Arguments c) k = opening k
extra Symbol.ModuleEnd k = None
extra Symbol.Argument k = None
extra Symbol.ArgumentEnd k = None
extra Symbol.Signature k = opening k
extra Symbol.SignatureParameter k = Some 2
extra Symbol.Specs k = None
extra Symbol.TypeSpec k = None
extra Symbol.TypeSpecEnd k = None
extra Symbol.ValueSpec k = None
extra Symbol.ModuleSpec k = None
extra Symbol.Term k = opening k
extra Symbol.Variable k = Some 2
extra Symbol.Atom k = opening k
extra Symbol.PathEnd k = None
extra (Symbol.«Type» c) k = opening k
extra (Symbol.Labels c) k = None
extra Symbol.TypeEnd k = None
extra Symbol.ArgumentName k = None

abbrev pub raised : Option ℕ → ℕ → ℕ
raised None n = n
raised (Some m) n = n + m

-- the sort of which a symbol's token declares a name
abbrev pub declaring : Symbol → Option Sort
declaring (Symbol.Token c) = None
declaring Symbol.«Unit» = None
declaring Symbol.UnitName = None
declaring Symbol.UnitEnd = None
declaring Symbol.RankValue = None
declaring Symbol.Items = None
declaring Symbol.TypeItem = Some Sort.«Type»
declaring Symbol.ValueItem = Some Sort.Value
declaring Symbol.ModuleItem = Some Sort.Module
declaring (Symbol.Module c) = None
declaring (Symbol.Parameter c) = None
declaring (Symbol.«Path» c) = None
declaring (Symbol.PathName c) = None
declaring (Symbol.Arguments c) = None
declaring Symbol.ModuleEnd = None
declaring Symbol.Argument = None
declaring Symbol.ArgumentEnd = None
declaring Symbol.Signature = None
declaring Symbol.SignatureParameter = None
declaring Symbol.Specs = None
declaring Symbol.TypeSpec = Some Sort.«Type»
declaring Symbol.TypeSpecEnd = None
declaring Symbol.ValueSpec = Some Sort.Value
declaring Symbol.ModuleSpec = Some Sort.Module
declaring Symbol.Term = None
declaring Symbol.Variable = None
declaring Symbol.Atom = None
declaring Symbol.PathEnd = None
declaring (Symbol.«Type» c) = None
declaring (Symbol.Labels c) = None
declaring Symbol.TypeEnd = None
declaring Symbol.ArgumentName = None

-- a head of a type or a value, by the class of the token
abbrev pub path_head : Sort → Class → Option PathHead
path_head s k = cond (is k Class.Lower) (Some (PathHead.Lower s)) (cond (is k Class.Upper) (Some PathHead.Upper) None)

-- the sort in which a head is sought
abbrev pub sought_sort : PathHead → Sort
sought_sort (PathHead.Lower s) = s
sought_sort PathHead.Upper = Sort.Module

abbrev pub module_head : Class → Option PathHead
module_head k = cond (is k Class.Upper) (Some PathHead.Upper) None

-- what a token is as a head, if it is one
abbrev pub head_kind : Symbol → Class → Option PathHead
head_kind (Symbol.Token c) k = None
head_kind Symbol.«Unit» k = None
head_kind Symbol.UnitName k = None
head_kind Symbol.UnitEnd k = None
head_kind Symbol.RankValue k = None
head_kind Symbol.Items k = None
head_kind Symbol.TypeItem k = None
head_kind Symbol.ValueItem k = None
head_kind Symbol.ModuleItem k = None
head_kind (Symbol.Module c) k = module_head k
head_kind (Symbol.Parameter c) k = None
head_kind (Symbol.«Path» c) k = None
head_kind (Symbol.PathName c) k = None
head_kind (Symbol.Arguments c) k = None
head_kind Symbol.ModuleEnd k = None
head_kind Symbol.Argument k = module_head k
head_kind Symbol.ArgumentEnd k = None
head_kind Symbol.Signature k = None
head_kind Symbol.SignatureParameter k = None
head_kind Symbol.Specs k = None
head_kind Symbol.TypeSpec k = None
head_kind Symbol.TypeSpecEnd k = None
head_kind Symbol.ValueSpec k = None
head_kind Symbol.ModuleSpec k = None
head_kind Symbol.Term k = path_head Sort.Value k
head_kind Symbol.Variable k = None
head_kind Symbol.Atom k = path_head Sort.Value k
head_kind Symbol.PathEnd k = None
head_kind (Symbol.«Type» c) k = path_head Sort.«Type» k
head_kind (Symbol.Labels c) k = None
head_kind Symbol.TypeEnd k = None
head_kind Symbol.ArgumentName k = None

-- the name that a token is
abbrev pub name_of : Token → Name
name_of (mark m) = []
name_of (keyword k) = []
name_of (lower x) = x
name_of (upper x) = x
name_of (integer ds) = []
name_of (label0 l) = []
name_of (label1 l) = []
name_of (label2 l) = []
name_of (operator0 o) = []
name_of (operator1 o) = []
name_of (operator2 o) = []
name_of (operator3 o) = []
name_of text_end = []

abbrev pub again_of : Option Sort → Name → Scope → Bool
again_of None x scope = false
again_of (Some s) x scope = is_declared s x scope

abbrev pub head_of : Option PathHead → Name → Scope → Head
head_of None x scope = none
head_of (Some (PathHead.Lower s)) x scope = lower_head (seek s x scope)
head_of (Some PathHead.Upper) x scope = upper_head (seek Sort.Module x scope)

-- the note of a token of this class and name, read for a symbol
abbrev pub note_at : Symbol → Class → Attr Scope → Name → Note
note_at s k a x =
    record {
      opened = raised (extra s k) (around s k a).opened;
      again = again_of (declaring s) x (around s k a).scope;
      head = head_of (head_kind s k) x (around s k a).scope;
    }

-- what a token enters into the scope
abbrev pub introduces : Symbol → Class → Option Binder
introduces (Symbol.Token c) k = None
introduces Symbol.«Unit» k = Some Binder.Itself
introduces Symbol.UnitName k = None
introduces Symbol.UnitEnd k = None
introduces Symbol.RankValue k = None
introduces Symbol.Items k = None
introduces Symbol.TypeItem k = Some (Binder.Component Sort.«Type»)
introduces Symbol.ValueItem k = Some (Binder.Component Sort.Value)
introduces Symbol.ModuleItem k = Some (Binder.Component Sort.Module)
introduces (Symbol.Module c) k = cond (is k Class.Struct) (Some Binder.Itself) None
introduces (Symbol.Parameter c) k = Some Binder.Parameter
introduces (Symbol.«Path» c) k = None
introduces (Symbol.PathName c) k = None
introduces (Symbol.Arguments c) k = None
introduces Symbol.ModuleEnd k = None
introduces Symbol.Argument k = None
introduces Symbol.ArgumentEnd k = None
introduces Symbol.Signature k = cond (is k Class.Sig) (Some Binder.Itself) None
introduces Symbol.SignatureParameter k = Some Binder.Parameter
introduces Symbol.Specs k = None
introduces Symbol.TypeSpec k = Some (Binder.Component Sort.«Type»)
introduces Symbol.TypeSpecEnd k = None
introduces Symbol.ValueSpec k = Some (Binder.Component Sort.Value)
introduces Symbol.ModuleSpec k = Some (Binder.Component Sort.Module)
introduces Symbol.Term k = None
introduces Symbol.Variable k = Some Binder.Variable
introduces Symbol.Atom k = None
introduces Symbol.PathEnd k = None
introduces (Symbol.«Type» c) k = None
introduces (Symbol.Labels c) k = None
introduces Symbol.TypeEnd k = None
introduces Symbol.ArgumentName k = None

abbrev pub entered : Option Binder → Name → Scope → Scope
entered None x scope = scope
entered (Some b) x scope = record { binder = b; name = x } ∷ scope

-- the rules of some symbols, by the class of the token
abbrev pub module_rules : Class → List Inherit
module_rules k = cond (is k Class.Functor) (Inherit.Bracket ∷ Inherit.Same ∷ []) (cond (is k Class.Struct) (Inherit.Opened ∷ Inherit.Same ∷ []) (cond (is k Class.Open) (Inherit.Inside ∷ Inherit.Same ∷ []) (Inherit.Same ∷ [])))

abbrev pub arguments_rules : Class → List Inherit
arguments_rules k = cond (is k Class.Open) (Inherit.Inside ∷ Inherit.Same ∷ []) []

abbrev pub atom_rules : Class → List Inherit
atom_rules k = cond (is k Class.Open) (Inherit.Inside ∷ Inherit.Inside ∷ []) []

abbrev pub type_rules : Class → List Inherit
type_rules k = cond (is k Class.Open) (Inherit.Inside ∷ Inherit.Same ∷ []) (cond (is k Class.Upper) (Inherit.Here ∷ Inherit.Here ∷ Inherit.Same ∷ []) (Inherit.Same ∷ []))

abbrev pub signature_rules : Class → List Inherit
signature_rules k = cond (is k Class.Sig) (Inherit.Opened ∷ []) (cond (is k Class.Functor) (Inherit.Bracket ∷ []) [])

abbrev pub only_at : Class → Class → List Inherit
only_at wanted k = cond (is k wanted) (Inherit.Same ∷ []) []

-- what each symbol that follows gets; those that are not named get what holds at the token
abbrev pub rules : Symbol → Class → List Inherit
rules (Symbol.Token c) k = []
rules Symbol.«Unit» k = Inherit.Here ∷ Inherit.Here ∷ Inherit.Inside ∷ Inherit.Opened ∷ []
rules Symbol.UnitName k = []
rules Symbol.UnitEnd k = []
rules Symbol.RankValue k = []
rules Symbol.Items k = []
rules Symbol.TypeItem k = Inherit.Here ∷ Inherit.Declared ∷ []
rules Symbol.ValueItem k = Inherit.Here ∷ Inherit.Here ∷ Inherit.Entered ∷ []
rules Symbol.ModuleItem k = Inherit.Here ∷ Inherit.Declared ∷ []
rules (Symbol.Module c) k = module_rules k
rules (Symbol.Parameter c) k = Inherit.Bracket ∷ Inherit.Bracket ∷ Inherit.Bracket ∷ Inherit.Inside ∷ Inherit.Body ∷ []
rules (Symbol.«Path» c) k = cond (is k Class.Dot) (Inherit.Same ∷ []) (arguments_rules k)
rules (Symbol.PathName c) k = Inherit.Same ∷ []
rules (Symbol.Arguments c) k = arguments_rules k
rules Symbol.ModuleEnd k = []
rules Symbol.Argument k = []
rules Symbol.ArgumentEnd k = []
rules Symbol.Signature k = signature_rules k
rules Symbol.SignatureParameter k = Inherit.Bracket ∷ Inherit.Bracket ∷ Inherit.Bracket ∷ Inherit.Inside ∷ Inherit.Opened ∷ []
rules Symbol.Specs k = []
rules Symbol.TypeSpec k = Inherit.Declared ∷ []
rules Symbol.TypeSpecEnd k = only_at Class.Equals k
rules Symbol.ValueSpec k = Inherit.Here ∷ Inherit.Declared ∷ []
rules Symbol.ModuleSpec k = Inherit.Here ∷ Inherit.Here ∷ Inherit.Entered ∷ []
rules Symbol.Term k = cond (is k Class.Fun) (Inherit.Bracket ∷ []) (atom_rules k)
rules Symbol.Variable k = Inherit.Bracket ∷ Inherit.Bracket ∷ Inherit.Inside ∷ Inherit.Opened ∷ []
rules Symbol.Atom k = atom_rules k
rules Symbol.PathEnd k = []
rules (Symbol.«Type» c) k = type_rules k
rules (Symbol.Labels c) k = only_at Class.Label1 k
rules Symbol.TypeEnd k = []
rules Symbol.ArgumentName k = []

-- what a symbol gets by a rule, from what its origin has, what surrounds the token, and the scope with the new entry
abbrev pub inherit : {S : Type 0} → Inherit → Attr S → Around S → S → Attr S
inherit Inherit.Same a x new = a
inherit Inherit.Here a x new = both x
inherit Inherit.Inside a x new = both (deeper 1 x)
inherit Inherit.Bracket a x new = both (deeper 2 x)
inherit Inherit.Entered a x new = both (entering new x)
inherit Inherit.Opened a x new = both (scoped 1 new x)
inherit Inherit.Declared a x new = record { inner = x; outer = entering new x }
inherit Inherit.Body a x new = record { inner = scoped 1 new x; outer = a.outer }

abbrev pub inherits : {S : Type 0} → List Symbol → List Inherit → Attr S → Around S → S → List (Attr S)
inherits [] rs a x new = []
inherits (s ∷ after) [] a x new = both x ∷ inherits after [] a x new
inherits (s ∷ after) (r ∷ rs) a x new = inherit r a x new ∷ inherits after rs a x new

-- what those get that follow a token of this class and name
abbrev pub handed : Symbol → Class → Attr Scope → Name → List Symbol → List (Attr Scope)
handed s k a x after =
    inherits after (rules s k) a (around s k a) (entered (introduces s k) x (around s k a).scope)

-- the first of a list, where one is wanted
abbrev pub top_of : List (Attr Scope) → Attr Scope
top_of [] = both outermost
top_of (a ∷ attrs) = a

abbrev pub below_top : List (Attr Scope) → List (Attr Scope)
below_top [] = []
below_top (a ∷ attrs) = attrs

abbrev pub proceed : Option (List Symbol) → (List Symbol → List (Note × ℕ)) → List (Note × ℕ)
proceed None go = []
proceed (Some after) go = go after

-- the notes of a stream, each with its token's place, for a stack of symbols with what surrounds them
abbrev pub annotate : List Symbol → List (Attr Scope) → Stream → List (Note × ℕ)
annotate [] attrs (finish p) = []
annotate [] attrs (broken p) = []
annotate [] attrs (next k p s) = []
annotate (t ∷ stack) attrs (finish p) = (note_at t Class.TextEnd (top_of attrs) [], p) ∷ []
annotate (t ∷ stack) attrs (broken p) = []
annotate (t ∷ stack) attrs (next k p s) =
    (note_at t (class_of k) (top_of attrs) (name_of k), p)
    ∷ proceed (expand t (class_of k))
    (λ after. annotate (after ++ stack) (handed t (class_of k) (top_of attrs) (name_of k) after ++ below_top attrs) s)

-- the most that may be open
abbrev pub open_limit : ℕ
open_limit = 12

abbrev pub is_too_deep : Note × ℕ → Bool
is_too_deep n = nat_lt open_limit n.0.opened

abbrev pub is_again : Note × ℕ → Bool
is_again n = n.0.again

abbrev pub is_missing : Head → Bool
is_missing none = false
is_missing (own n) = false
is_missing (Head.binder n) = false
is_missing unit = false
is_missing missing = true

abbrev pub is_undeclared : Note × ℕ → Bool
is_undeclared n = is_missing n.0.head

-- whether a head names a unit
abbrev pub is_unit : Head → Bool
is_unit none = false
is_unit (own n) = false
is_unit (Head.binder n) = false
is_unit unit = true
is_unit missing = false

-- whether a head that is declared nowhere is a lower one, or an upper one
abbrev pub is_lower : Option PathHead → Bool
is_lower None = false
is_lower (Some (PathHead.Lower s)) = true
is_lower (Some PathHead.Upper) = false

abbrev pub is_upper : Option PathHead → Bool
is_upper None = false
is_upper (Some (PathHead.Lower s)) = false
is_upper (Some PathHead.Upper) = true

-- a head that names a unit, at or behind a place
abbrev pub names_unit : ℕ → Note × ℕ → Bool
names_unit from n = is_unit n.0.head && nat_le from n.1

-- the place of the first note that a test holds of
abbrev pub first_where : (Note × ℕ → Bool) → List (Note × ℕ) → Option ℕ
first_where test [] = None
first_where test (n ∷ ns) = cond (test n) (Some n.1) (first_where test ns)

-- the places of the heads that name units
abbrev pub unit_places : List (Note × ℕ) → List ℕ
unit_places [] = []
unit_places (n ∷ ns) = cond (is_unit n.0.head) (n.1 ∷ unit_places ns) (unit_places ns)

-- the questions about a text that reads, each asked of the whole text before the next: is too much open at a token, is a name
-- declared again, is a lower head not declared
abbrev pub ask : (ℕ → ReadFault) → Option ℕ → Option ReadFault → Option ReadFault
ask fault None rest = rest
ask fault (Some p) rest = Some (fault p)

abbrev pub static_fault : List (Note × ℕ) → Option ReadFault
static_fault ns =
    ask TooDeep (first_where is_too_deep ns)
    (ask Redeclared (first_where is_again ns) (ask Undeclared (first_where is_undeclared ns) None))

-- notes beside the places of a stream's tokens
abbrev pub with_places : List Note → Stream → List (Note × ℕ)
with_places [] s = []
with_places (n ∷ ns) (finish p) = (n, p) ∷ []
with_places (n ∷ ns) (broken p) = []
with_places (n ∷ ns) (next k p s) = (n, p) ∷ with_places ns s
