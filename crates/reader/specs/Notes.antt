-- What each token of a text is told: how many are open at it, whether it declares a name again, and what it is found to be if it
-- is the head of a path. For each printer of the grammar there is one here of the same shape, which gives one note for each token.
use Rattle.std.specs.Prelude.{ℕ, ◌+◌, Bool, false, List, [], ◌∷◌, Some, None, Option}
use Rattle.types.specs.Types.{Name}
use Rattle.reader.specs.declared.scope.Sort.{Sort}
use Rattle.reader.specs.declared.scope.Binder.{Binder}
use Rattle.reader.specs.Scopes.{Scope, Resolution, component, bound, nowhere, seek, is_declared}
use Rattle.reader.specs.Syntax.{LongName, ModulePath, TypeTree, TermTree, AtomTree, SignatureTree, SpecTrees, ModuleTree, ItemTrees, RankTree, UnitTree}

-- what a head is found to be: a component of a binder, a binder itself, a unit, or not declared
pub data Head : Type 0 where
  none : Head
  own : ℕ → Head
  binder : ℕ → Head
  unit : Head
  missing : Head

pub record Note : Type 0 where
  pub opened : ℕ
  pub again : Bool
  pub head : Head

-- what surrounds a token: how many are open there, and what is declared
pub record Around (S : Type 0) : Type 0 where
  pub opened : ℕ
  pub scope : S

-- so many more are open
abbrev pub deeper : {S : Type 0} → ℕ → Around S → Around S
deeper n a = record { opened = a.opened + n; scope = a.scope }

-- the same with another scope, and with none more open
abbrev pub scoped : {S : Type 0} → ℕ → S → Around S → Around S
scoped n s a = record { opened = a.opened + n; scope = s }

abbrev pub entering : {S : Type 0} → S → Around S → Around S
entering s a = record { opened = a.opened; scope = s }

-- one entry more
abbrev pub with : Binder → Name → Around Scope → Scope
with b x a = record { binder = b; name = x } ∷ a.scope

-- nothing is open, and nothing declared
abbrev pub outermost : Around Scope
outermost = record { opened = 0; scope = [] }

abbrev pub plain : Around Scope → Note
plain a = record { opened = a.opened; again = false; head = none }

-- a token that declares a name
abbrev pub naming : Sort → Around Scope → Name → Note
naming s a x = record { opened = a.opened; again = is_declared s x a.scope; head = none }

-- a lower head has to be declared; an upper one that is not names a unit
abbrev pub lower_head : Resolution → Head
lower_head (component n) = own n
lower_head (bound n) = Head.binder n
lower_head nowhere = missing

abbrev pub upper_head : Resolution → Head
upper_head (component n) = own n
upper_head (bound n) = Head.binder n
upper_head nowhere = unit

abbrev pub lower_note : Sort → Around Scope → Name → Note
lower_note s a x = record { opened = a.opened; again = false; head = lower_head (seek s x a.scope) }

abbrev pub upper_note : Around Scope → Name → Note
upper_note a x = record { opened = a.opened; again = false; head = upper_head (seek Sort.Module x a.scope) }

-- the names behind the head of a path
abbrev pub notes_tail : Around Scope → LongName → List Note → List Note
notes_tail a (LongName.plain x) rest = plain a ∷ rest
notes_tail a (LongName.inside m p) rest = plain a ∷ plain a ∷ notes_tail a p rest

-- the path of a type or a value
abbrev pub notes_long_name : Sort → Around Scope → LongName → List Note → List Note
notes_long_name s a (LongName.plain x) rest = lower_note s a x ∷ rest
notes_long_name s a (LongName.inside m p) rest = upper_note a m ∷ plain a ∷ notes_tail a p rest

abbrev pub notes_names : Around Scope → List Name → List Note → List Note
notes_names a [] rest = rest
notes_names a (m ∷ ms) rest = plain a ∷ plain a ∷ notes_names a ms rest

-- the path of a module
abbrev pub notes_path : Around Scope → ModulePath → List Note → List Note
notes_path a p rest = upper_note a p.first ∷ notes_names a p.more rest

abbrev pub notes_labels : Around Scope → List ℕ → List Note → List Note
notes_labels a [] rest = rest
notes_labels a (l ∷ ls) rest = plain a ∷ notes_labels a ls rest

-- a bracket is open from itself to the one that closes it; the label that joins two types counts as inside
abbrev pub notes_type : Around Scope → TypeTree → List Note → List Note
notes_type a (TypeTree.path p ls) rest = notes_long_name Sort.«Type» a p (notes_labels a ls rest)
notes_type a (TypeTree.constant l ls) rest = plain a ∷ notes_labels a ls rest
notes_type a (TypeTree.bracket t ls) rest =
    plain (deeper 1 a) ∷ notes_type (deeper 1 a) t (plain (deeper 1 a) ∷ notes_labels a ls rest)
notes_type a (TypeTree.both t u l ls) rest =
    plain (deeper 1 a)
    ∷ notes_type (deeper 1 a) t
    (plain (deeper 1 a) ∷ notes_type (deeper 1 a) u (plain (deeper 1 a) ∷ plain (deeper 1 a) ∷ notes_labels a ls rest))

abbrev mutual
  -- `fun` is open to the end of its body, where its variable is known
  pub notes_term : Around Scope → TermTree → List Note → List Note
  notes_term a (TermTree.function x t e) rest =
      plain (deeper 1 a) ∷ plain (deeper 2 a) ∷ plain (deeper 2 a) ∷ plain (deeper 2 a)
      ∷ notes_type (deeper 2 a) t
      (plain (deeper 2 a) ∷ plain (deeper 1 a) ∷ notes_term (scoped 1 (with Binder.Variable x a) a) e rest)
  notes_term a (TermTree.one o b) rest = plain a ∷ notes_atom a b rest
  notes_term a (TermTree.two o b c) rest = plain a ∷ notes_atom a b (notes_atom a c rest)
  notes_term a (TermTree.three o b c d) rest = plain a ∷ notes_atom a b (notes_atom a c (notes_atom a d rest))
  notes_term a (TermTree.atom b) rest = notes_atom a b rest

  pub notes_atom : Around Scope → AtomTree → List Note → List Note
  notes_atom a (AtomTree.literal ds) rest = plain a ∷ rest
  notes_atom a (AtomTree.path p) rest = notes_long_name Sort.Value a p rest
  notes_atom a (AtomTree.constant o) rest = plain a ∷ rest
  notes_atom a (AtomTree.bracket e) rest = plain (deeper 1 a) ∷ notes_term (deeper 1 a) e (plain (deeper 1 a) ∷ rest)

abbrev mutual
  -- `sig` is open to its `end`, `functor` to the end of its result, where its parameter is known
  pub notes_signature : Around Scope → SignatureTree → List Note → List Note
  notes_signature a (SignatureTree.sig_end specs) rest =
      plain (deeper 1 a) ∷ notes_specs (scoped 1 (with Binder.Itself [] a) a) specs rest
  notes_signature a (SignatureTree.functor x p r) rest =
      plain (deeper 1 a) ∷ plain (deeper 2 a) ∷ plain (deeper 2 a) ∷ plain (deeper 2 a)
      ∷ notes_signature (deeper 2 a) p
      (plain (deeper 2 a) ∷ plain (deeper 1 a) ∷ notes_signature (scoped 1 (with Binder.Parameter x a) a) r rest)

  -- a spec is known to those behind it
  pub notes_specs : Around Scope → SpecTrees → List Note → List Note
  notes_specs a SpecTrees.done rest = plain a ∷ rest
  notes_specs a (SpecTrees.abstract_type t more) rest =
      plain a ∷ naming Sort.«Type» a t ∷ notes_specs (entering (with (Binder.Component Sort.«Type») t a) a) more rest
  notes_specs a (SpecTrees.defined_type t u more) rest =
      plain a ∷ naming Sort.«Type» a t ∷ plain a
      ∷ notes_type a u (notes_specs (entering (with (Binder.Component Sort.«Type») t a) a) more rest)
  notes_specs a (SpecTrees.value x t more) rest =
      plain a ∷ naming Sort.Value a x ∷ plain a
      ∷ notes_type a t (notes_specs (entering (with (Binder.Component Sort.Value) x a) a) more rest)
  notes_specs a (SpecTrees.submodule x s more) rest =
      plain a ∷ naming Sort.Module a x ∷ plain a
      ∷ notes_signature a s (notes_specs (entering (with (Binder.Component Sort.Module) x a) a) more rest)

abbrev pub notes_arguments : Around Scope → List ModulePath → List Note → List Note
notes_arguments a [] rest = rest
notes_arguments a (p ∷ ps) rest =
    plain (deeper 1 a) ∷ notes_path (deeper 1 a) p (plain (deeper 1 a) ∷ notes_arguments a ps rest)

abbrev mutual
  -- `struct` is open to its `end`, `functor` to the end of its body, where its parameter is known
  pub notes_module : Around Scope → ModuleTree → List Note → List Note
  notes_module a (ModuleTree.functor x s m) rest =
      plain (deeper 1 a) ∷ plain (deeper 2 a) ∷ plain (deeper 2 a) ∷ plain (deeper 2 a)
      ∷ notes_signature (deeper 2 a) s
      (plain (deeper 2 a) ∷ plain (deeper 1 a) ∷ notes_module (scoped 1 (with Binder.Parameter x a) a) m rest)
  notes_module a (ModuleTree.path p ps) rest = notes_path a p (notes_arguments a ps rest)
  notes_module a (ModuleTree.struct_end is ps) rest =
      plain (deeper 1 a) ∷ notes_items (scoped 1 (with Binder.Itself [] a) a) is (notes_arguments a ps rest)
  notes_module a (ModuleTree.bracket m ps) rest =
      plain (deeper 1 a) ∷ notes_module (deeper 1 a) m (plain (deeper 1 a) ∷ notes_arguments a ps rest)
  notes_module a (ModuleTree.ascribed m s ps) rest =
      plain (deeper 1 a)
      ∷ notes_module (deeper 1 a) m
      (plain (deeper 1 a) ∷ notes_signature (deeper 1 a) s (plain (deeper 1 a) ∷ notes_arguments a ps rest))

  -- an item is known to those behind it
  pub notes_items : Around Scope → ItemTrees → List Note → List Note
  notes_items a ItemTrees.done rest = plain a ∷ rest
  notes_items a (ItemTrees.defined_type t u more) rest =
      plain a ∷ naming Sort.«Type» a t ∷ plain a
      ∷ notes_type a u (notes_items (entering (with (Binder.Component Sort.«Type») t a) a) more rest)
  notes_items a (ItemTrees.value x e more) rest =
      plain a ∷ naming Sort.Value a x ∷ plain a
      ∷ notes_term a e (notes_items (entering (with (Binder.Component Sort.Value) x a) a) more rest)
  notes_items a (ItemTrees.submodule x m more) rest =
      plain a ∷ naming Sort.Module a x ∷ plain a
      ∷ notes_module a m (notes_items (entering (with (Binder.Component Sort.Module) x a) a) more rest)

abbrev pub notes_rank : Around Scope → Option RankTree → List Note → List Note
notes_rank a None rest = rest
notes_rank a (Some n) rest = plain a ∷ plain a ∷ plain a ∷ plain a ∷ rest

-- the unit's own `struct` is the first that is open
abbrev pub notes_unit : UnitTree → List Note
notes_unit u =
    plain outermost ∷ plain outermost ∷ plain outermost ∷ plain (deeper 1 outermost)
    ∷ notes_items (scoped 1 (with Binder.Itself [] outermost) outermost) u.items
    (notes_rank outermost u.rank (plain outermost ∷ []))

abbrev pub notes_signature_text : SignatureTree → List Note
notes_signature_text s = notes_signature outermost s (plain outermost ∷ [])
