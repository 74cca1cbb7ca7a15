-- The grammar's rows with the trees that they build: one entry for each row.
use Rattle.std.proofs.Common.{◌≡◌, ℕ, List, [], ◌∷◌, map, Some, None, Option, refl, ◌∙◌}
use Rattle.tokens.specs.declared.token.Keyword.{Keyword}
use Rattle.types.specs.Types.{Name}
use Rattle.reader.specs.declared.class.Class.{Class}
use Rattle.reader.specs.declared.symbol.Symbol.{Symbol}
use Rattle.reader.specs.declared.symbol.TypeContext.{TypeContext}
use Rattle.reader.specs.declared.symbol.ModuleContext.{ModuleContext}
use Rattle.reader.specs.Tokens.{Token, keyword, lower}
use Rattle.reader.specs.Syntax.{LongName, ModulePath, TypeTree, TermTree, AtomTree, SignatureTree, SpecTrees, ModuleTree, ItemTrees}
use Rattle.reader.specs.Print.{«open», print_type, print_specs, print_module, print_arguments, print_labels}
use Rattle.reader.proofs.Loads.{Load, whole}
use Rattle.reader.proofs.Shapes.{Tree, print, print_type_end, print_module_end, print_definition}
use Rattle.reader.proofs.Theory as theory

abbrev pub Trees : List Symbol → Type 0
Trees σ = theory.Trees Token Symbol Tree print σ

abbrev pub prints : (σ : List Symbol) → Trees σ → List Token → List Token
prints σ ts rest = theory.prints Token Symbol Tree print σ ts rest

-- a row, and how the trees behind the token make the tree
pub record Entry (s : Symbol) : Type 0 where
  pub first : Class
  pub after : List Symbol
  pub make : Load first → Trees after → Tree s
  pub shown : (l : Load first) (ts : Trees after) (rest : List Token) → print s (make l ts) rest ≡ whole first l ∷ prints after ts rest

-- an entry of a symbol that stands first in another
abbrev pub lift : {s t : Symbol} (wrap : Tree s → Tree t) → ((x : Tree s) (rest : List Token) → print t (wrap x) rest ≡ print s x rest) → Entry s → Entry t
lift wrap same e =
    record {
      first = e.first;
      after = e.after;
      make = λ l ts. wrap (e.make l ts);
      shown = λ l ts rest. same (e.make l ts) rest ∙ e.shown l ts rest;
    }

abbrev pub token_entries : (c : Class) → List (Entry (Symbol.Token c))
token_entries c = record { first = c; after = []; make = λ l ts. l; shown = λ l ts rest. refl } ∷ []

abbrev pub unit_entries : List (Entry Symbol.«Unit»)
unit_entries =
    record {
      first = Class.Module;
      after = Symbol.UnitName ∷ Symbol.Token Class.Equals ∷ Symbol.Token Class.Struct ∷ Symbol.Items ∷ Symbol.UnitEnd ∷ [];
      make = λ l ts. record { name = ts.0; items = ts.1.1.1.0; rank = ts.1.1.1.1.0 };
      shown = λ l ts rest. refl;
    }
    ∷ []

abbrev pub unit_name_entries : List (Entry Symbol.UnitName)
unit_name_entries = record { first = Class.Upper; after = []; make = λ l ts. l; shown = λ l ts rest. refl } ∷ []

abbrev pub unit_end_entries : List (Entry Symbol.UnitEnd)
unit_end_entries =
    record { first = Class.TextEnd; after = []; make = λ l ts. None; shown = λ l ts rest. refl }
    ∷ record {
      first = Class.OpenAttribute;
      after = Symbol.Token Class.Rank ∷ Symbol.RankValue ∷ Symbol.Token Class.CloseAttribute ∷ Symbol.Token Class.TextEnd ∷ [];
      make = λ l ts. Some ts.1.0;
      shown = λ l ts rest. refl;
    }
    ∷ []

abbrev pub rank_value_entries : List (Entry Symbol.RankValue)
rank_value_entries =
    record { first = Class.SmallInteger; after = []; make = λ l ts. record { digits = l.digits; small = l.judged }; shown = λ l ts rest. refl }
    ∷ []

abbrev pub items_entries : List (Entry Symbol.Items)
items_entries =
    record { first = Class.End; after = []; make = λ l ts. ItemTrees.done; shown = λ l ts rest. refl }
    ∷ record {
      first = Class.«Type»;
      after = Symbol.TypeItem ∷ [];
      make = λ l ts. ItemTrees.defined_type ts.0.0 ts.0.1.0 ts.0.1.1;
      shown = λ l ts rest. refl;
    }
    ∷ record {
      first = Class.Let;
      after = Symbol.ValueItem ∷ [];
      make = λ l ts. ItemTrees.value ts.0.0 ts.0.1.0 ts.0.1.1;
      shown = λ l ts rest. refl;
    }
    ∷ record {
      first = Class.Module;
      after = Symbol.ModuleItem ∷ [];
      make = λ l ts. ItemTrees.submodule ts.0.0 ts.0.1.0 ts.0.1.1;
      shown = λ l ts rest. refl;
    }
    ∷ []

abbrev pub type_item_entries : List (Entry Symbol.TypeItem)
type_item_entries =
    record {
      first = Class.Lower;
      after = Symbol.Token Class.Equals ∷ Symbol.«Type» TypeContext.Items ∷ [];
      make = λ l ts. (l, ts.1.0);
      shown = λ l ts rest. refl;
    }
    ∷ []

abbrev pub value_item_entries : List (Entry Symbol.ValueItem)
value_item_entries =
    record {
      first = Class.Lower;
      after = Symbol.Token Class.Equals ∷ Symbol.Term ∷ Symbol.Items ∷ [];
      make = λ l ts. (l, (ts.1.0, ts.1.1.0));
      shown = λ l ts rest. refl;
    }
    ∷ []

abbrev pub module_item_entries : List (Entry Symbol.ModuleItem)
module_item_entries =
    record {
      first = Class.Upper;
      after = Symbol.Token Class.Equals ∷ Symbol.Module ModuleContext.Items ∷ [];
      make = λ l ts. (l, ts.1.0);
      shown = λ l ts rest. refl;
    }
    ∷ []

-- a module in brackets, with or without its signature
abbrev pub closed : ModuleTree → Option SignatureTree → List ModulePath → ModuleTree
closed m None ps = ModuleTree.bracket m ps
closed m (Some s) ps = ModuleTree.ascribed m s ps

pub closed_shown :
    (m : ModuleTree) (o : Option SignatureTree) (ps : List ModulePath) (rest : List Token) →
    print_module (closed m o ps) rest ≡ «open» ∷ print_module m (print_module_end o (print_arguments ps rest))
closed_shown m None ps rest = refl
closed_shown m (Some s) ps rest = refl

abbrev pub module_entries : (c : ModuleContext) → List (Entry (Symbol.Module c))
module_entries c =
    record {
      first = Class.Functor;
      after = Symbol.Token Class.Open ∷ Symbol.Parameter c ∷ [];
      make = λ l ts. (ModuleTree.functor ts.1.0.0 ts.1.0.1.0 ts.1.0.1.1.0, ts.1.0.1.1.1);
      shown = λ l ts rest. refl;
    }
    ∷ record {
      first = Class.Upper;
      after = Symbol.«Path» c ∷ [];
      make = λ l ts. (ModuleTree.path (record { first = l; more = ts.0.0 }) ts.0.1.0, ts.0.1.1);
      shown = λ l ts rest. refl;
    }
    ∷ record {
      first = Class.Struct;
      after = Symbol.Items ∷ Symbol.Arguments c ∷ [];
      make = λ l ts. (ModuleTree.struct_end ts.0 ts.1.0.0, ts.1.0.1);
      shown = λ l ts rest. refl;
    }
    ∷ record {
      first = Class.Open;
      after = Symbol.Module ModuleContext.Bracketed ∷ Symbol.Arguments c ∷ [];
      make = λ l ts. (closed ts.0.0 ts.0.1 ts.1.0.0, ts.1.0.1);
      shown = λ l ts rest. closed_shown ts.0.0 ts.0.1 ts.1.0.0 _;
    }
    ∷ []

abbrev pub parameter_entries : (c : ModuleContext) → List (Entry (Symbol.Parameter c))
parameter_entries c =
    record {
      first = Class.Upper;
      after = Symbol.Token Class.Colon ∷ Symbol.Signature ∷ Symbol.Token Class.Close ∷ Symbol.Token Class.Arrow ∷ Symbol.Module c ∷ [];
      make = λ l ts. (l, (ts.1.0, ts.1.1.1.1.0));
      shown = λ l ts rest. refl;
    }
    ∷ []

abbrev pub module_end_entries : List (Entry Symbol.ModuleEnd)
module_end_entries =
    record { first = Class.Close; after = []; make = λ l ts. None; shown = λ l ts rest. refl }
    ∷ record {
      first = Class.Colon;
      after = Symbol.Signature ∷ Symbol.Token Class.Close ∷ [];
      make = λ l ts. Some ts.0;
      shown = λ l ts rest. refl;
    }
    ∷ []

abbrev pub argument_entry : (c : ModuleContext) → Entry (Symbol.Arguments c)
argument_entry c =
    record {
      first = Class.Open;
      after = Symbol.Argument ∷ Symbol.Arguments c ∷ [];
      make = λ l ts. (ts.0 ∷ ts.1.0.0, ts.1.0.1);
      shown = λ l ts rest. refl;
    }

abbrev pub arguments_entries : (c : ModuleContext) → List (Entry (Symbol.Arguments c))
arguments_entries ModuleContext.Items =
    argument_entry ModuleContext.Items ∷ map (lift (λ x. ([], x)) (λ x rest. refl)) items_entries
arguments_entries ModuleContext.Bracketed =
    argument_entry ModuleContext.Bracketed ∷ map (lift (λ x. ([], x)) (λ x rest. refl)) module_end_entries

abbrev pub path_entries : (c : ModuleContext) → List (Entry (Symbol.«Path» c))
path_entries c =
    record {
      first = Class.Dot;
      after = Symbol.PathName c ∷ [];
      make = λ l ts. (ts.0.0.first ∷ ts.0.0.more, ts.0.1);
      shown = λ l ts rest. refl;
    }
    ∷ map (lift (λ x. ([], x)) (λ x rest. refl)) (arguments_entries c)

abbrev pub path_name_entries : (c : ModuleContext) → List (Entry (Symbol.PathName c))
path_name_entries c =
    record {
      first = Class.Upper;
      after = Symbol.«Path» c ∷ [];
      make = λ l ts. (record { first = l; more = ts.0.0 }, ts.0.1);
      shown = λ l ts rest. refl;
    }
    ∷ []

abbrev pub argument_entries : List (Entry Symbol.Argument)
argument_entries =
    record {
      first = Class.Upper;
      after = Symbol.ArgumentEnd ∷ [];
      make = λ l ts. record { first = l; more = ts.0 };
      shown = λ l ts rest. refl;
    }
    ∷ []

abbrev pub argument_name_entries : List (Entry Symbol.ArgumentName)
argument_name_entries =
    record {
      first = Class.Upper;
      after = Symbol.ArgumentEnd ∷ [];
      make = λ l ts. record { first = l; more = ts.0 };
      shown = λ l ts rest. refl;
    }
    ∷ []

abbrev pub argument_end_entries : List (Entry Symbol.ArgumentEnd)
argument_end_entries =
    record {
      first = Class.Dot;
      after = Symbol.ArgumentName ∷ [];
      make = λ l ts. ts.0.first ∷ ts.0.more;
      shown = λ l ts rest. refl;
    }
    ∷ record { first = Class.Close; after = []; make = λ l ts. []; shown = λ l ts rest. refl }
    ∷ []

abbrev pub signature_entries : List (Entry Symbol.Signature)
signature_entries =
    record { first = Class.Sig; after = Symbol.Specs ∷ []; make = λ l ts. SignatureTree.sig_end ts.0; shown = λ l ts rest. refl }
    ∷ record {
      first = Class.Functor;
      after = Symbol.Token Class.Open ∷ Symbol.SignatureParameter ∷ [];
      make = λ l ts. SignatureTree.functor ts.1.0.0 ts.1.0.1.0 ts.1.0.1.1;
      shown = λ l ts rest. refl;
    }
    ∷ []

abbrev pub signature_parameter_entries : List (Entry Symbol.SignatureParameter)
signature_parameter_entries =
    record {
      first = Class.Upper;
      after = Symbol.Token Class.Colon ∷ Symbol.Signature ∷ Symbol.Token Class.Close ∷ Symbol.Token Class.Arrow ∷ Symbol.Signature ∷ [];
      make = λ l ts. (l, (ts.1.0, ts.1.1.1.1.0));
      shown = λ l ts rest. refl;
    }
    ∷ []

-- a type in a signature, abstract or defined
abbrev pub type_spec : Name → Option TypeTree → SpecTrees → SpecTrees
type_spec t None more = SpecTrees.abstract_type t more
type_spec t (Some u) more = SpecTrees.defined_type t u more

pub type_spec_shown :
    (t : Name) (o : Option TypeTree) (more : SpecTrees) (rest : List Token) →
    print_specs (type_spec t o more) rest ≡ keyword Keyword.«Type» ∷ lower t ∷ print_definition o (print_specs more rest)
type_spec_shown t None more rest = refl
type_spec_shown t (Some u) more rest = refl

abbrev pub specs_entries : List (Entry Symbol.Specs)
specs_entries =
    record { first = Class.End; after = []; make = λ l ts. SpecTrees.done; shown = λ l ts rest. refl }
    ∷ record {
      first = Class.«Type»;
      after = Symbol.TypeSpec ∷ [];
      make = λ l ts. type_spec ts.0.0 ts.0.1.0 ts.0.1.1;
      shown = λ l ts rest. type_spec_shown ts.0.0 ts.0.1.0 ts.0.1.1 rest;
    }
    ∷ record {
      first = Class.Val;
      after = Symbol.ValueSpec ∷ [];
      make = λ l ts. SpecTrees.value ts.0.0 ts.0.1.0 ts.0.1.1;
      shown = λ l ts rest. refl;
    }
    ∷ record {
      first = Class.Module;
      after = Symbol.ModuleSpec ∷ [];
      make = λ l ts. SpecTrees.submodule ts.0.0 ts.0.1.0 ts.0.1.1;
      shown = λ l ts rest. refl;
    }
    ∷ []

abbrev pub type_spec_entries : List (Entry Symbol.TypeSpec)
type_spec_entries =
    record { first = Class.Lower; after = Symbol.TypeSpecEnd ∷ []; make = λ l ts. (l, ts.0); shown = λ l ts rest. refl } ∷ []

abbrev pub type_spec_end_entries : List (Entry Symbol.TypeSpecEnd)
type_spec_end_entries =
    record {
      first = Class.Equals;
      after = Symbol.«Type» TypeContext.Specs ∷ [];
      make = λ l ts. (Some ts.0.0, ts.0.1);
      shown = λ l ts rest. refl;
    }
    ∷ map (lift (λ x. (None, x)) (λ x rest. refl)) specs_entries

abbrev pub value_spec_entries : List (Entry Symbol.ValueSpec)
value_spec_entries =
    record {
      first = Class.Lower;
      after = Symbol.Token Class.Colon ∷ Symbol.«Type» TypeContext.Specs ∷ [];
      make = λ l ts. (l, ts.1.0);
      shown = λ l ts rest. refl;
    }
    ∷ []

abbrev pub module_spec_entries : List (Entry Symbol.ModuleSpec)
module_spec_entries =
    record {
      first = Class.Upper;
      after = Symbol.Token Class.Colon ∷ Symbol.Signature ∷ Symbol.Specs ∷ [];
      make = λ l ts. (l, (ts.1.0, ts.1.1.0));
      shown = λ l ts rest. refl;
    }
    ∷ []

abbrev pub atom_entries : List (Entry Symbol.Atom)
atom_entries =
    record { first = Class.SmallInteger; after = []; make = λ l ts. AtomTree.literal l.digits; shown = λ l ts rest. refl }
    ∷ record { first = Class.LargeInteger; after = []; make = λ l ts. AtomTree.literal l.digits; shown = λ l ts rest. refl }
    ∷ record { first = Class.Lower; after = []; make = λ l ts. AtomTree.path (LongName.plain l); shown = λ l ts rest. refl }
    ∷ record {
      first = Class.Upper;
      after = Symbol.Token Class.Dot ∷ Symbol.PathEnd ∷ [];
      make = λ l ts. AtomTree.path (LongName.inside l ts.1.0);
      shown = λ l ts rest. refl;
    }
    ∷ record { first = Class.Operator0; after = []; make = λ l ts. AtomTree.constant l; shown = λ l ts rest. refl }
    ∷ record {
      first = Class.Open;
      after = Symbol.Term ∷ Symbol.Token Class.Close ∷ [];
      make = λ l ts. AtomTree.bracket ts.0;
      shown = λ l ts rest. refl;
    }
    ∷ []

abbrev pub term_entries : List (Entry Symbol.Term)
term_entries =
    record {
      first = Class.Fun;
      after = Symbol.Token Class.Open ∷ Symbol.Variable ∷ [];
      make = λ l ts. TermTree.function ts.1.0.0 ts.1.0.1.0 ts.1.0.1.1;
      shown = λ l ts rest. refl;
    }
    ∷ record { first = Class.Operator1; after = Symbol.Atom ∷ []; make = λ l ts. TermTree.one l ts.0; shown = λ l ts rest. refl }
    ∷ record {
      first = Class.Operator2;
      after = Symbol.Atom ∷ Symbol.Atom ∷ [];
      make = λ l ts. TermTree.two l ts.0 ts.1.0;
      shown = λ l ts rest. refl;
    }
    ∷ record {
      first = Class.Operator3;
      after = Symbol.Atom ∷ Symbol.Atom ∷ Symbol.Atom ∷ [];
      make = λ l ts. TermTree.three l ts.0 ts.1.0 ts.1.1.0;
      shown = λ l ts rest. refl;
    }
    ∷ map (lift (λ x. TermTree.atom x) (λ x rest. refl)) atom_entries

abbrev pub variable_entries : List (Entry Symbol.Variable)
variable_entries =
    record {
      first = Class.Lower;
      after = Symbol.Token Class.Colon ∷ Symbol.«Type» TypeContext.Closed ∷ Symbol.Token Class.Arrow ∷ Symbol.Term ∷ [];
      make = λ l ts. (l, (ts.1.0.0, ts.1.1.1.0));
      shown = λ l ts rest. refl;
    }
    ∷ []

abbrev pub path_end_entries : List (Entry Symbol.PathEnd)
path_end_entries =
    record { first = Class.Lower; after = []; make = λ l ts. LongName.plain l; shown = λ l ts rest. refl }
    ∷ record {
      first = Class.Upper;
      after = Symbol.Token Class.Dot ∷ Symbol.PathEnd ∷ [];
      make = λ l ts. LongName.inside l ts.1.0;
      shown = λ l ts rest. refl;
    }
    ∷ []

-- one type in brackets, or two with their label
abbrev pub enclosed : TypeTree → Option (TypeTree × ℕ) → List ℕ → TypeTree
enclosed t None ls = TypeTree.bracket t ls
enclosed t (Some e) ls = TypeTree.both t e.0 e.1 ls

pub enclosed_shown :
    (t : TypeTree) (o : Option (TypeTree × ℕ)) (ls : List ℕ) (rest : List Token) →
    print_type (enclosed t o ls) rest ≡ «open» ∷ print_type t (print_type_end o (print_labels ls rest))
enclosed_shown t None ls rest = refl
enclosed_shown t (Some e) ls rest = refl

abbrev pub type_entries : (c : TypeContext) → List (Entry (Symbol.«Type» c))
type_entries c =
    record {
      first = Class.Lower;
      after = Symbol.Labels c ∷ [];
      make = λ l ts. (TypeTree.path (LongName.plain l) ts.0.0, ts.0.1);
      shown = λ l ts rest. refl;
    }
    ∷ record {
      first = Class.Upper;
      after = Symbol.Token Class.Dot ∷ Symbol.PathEnd ∷ Symbol.Labels c ∷ [];
      make = λ l ts. (TypeTree.path (LongName.inside l ts.1.0) ts.1.1.0.0, ts.1.1.0.1);
      shown = λ l ts rest. refl;
    }
    ∷ record {
      first = Class.Label0;
      after = Symbol.Labels c ∷ [];
      make = λ l ts. (TypeTree.constant l ts.0.0, ts.0.1);
      shown = λ l ts rest. refl;
    }
    ∷ record {
      first = Class.Open;
      after = Symbol.«Type» TypeContext.Bracketed ∷ Symbol.Labels c ∷ [];
      make = λ l ts. (enclosed ts.0.0 ts.0.1 ts.1.0.0, ts.1.0.1);
      shown = λ l ts rest. enclosed_shown ts.0.0 ts.0.1 ts.1.0.0 _;
    }
    ∷ []

abbrev pub type_end_entries : List (Entry Symbol.TypeEnd)
type_end_entries =
    record { first = Class.Close; after = []; make = λ l ts. None; shown = λ l ts rest. refl }
    ∷ record {
      first = Class.Comma;
      after = Symbol.«Type» TypeContext.Closed ∷ Symbol.Token Class.Label2 ∷ [];
      make = λ l ts. Some (ts.0.0, ts.1.0);
      shown = λ l ts rest. refl;
    }
    ∷ []

abbrev pub label_entry : (c : TypeContext) → Entry (Symbol.Labels c)
label_entry c =
    record {
      first = Class.Label1;
      after = Symbol.Labels c ∷ [];
      make = λ l ts. (l ∷ ts.0.0, ts.0.1);
      shown = λ l ts rest. refl;
    }

abbrev pub labels_entries : (c : TypeContext) → List (Entry (Symbol.Labels c))
labels_entries TypeContext.Items = label_entry TypeContext.Items ∷ map (lift (λ x. ([], x)) (λ x rest. refl)) items_entries
labels_entries TypeContext.Specs = label_entry TypeContext.Specs ∷ map (lift (λ x. ([], x)) (λ x rest. refl)) specs_entries
labels_entries TypeContext.Closed =
    label_entry TypeContext.Closed ∷ map (lift (λ x. ([], x)) (λ x rest. refl)) (token_entries Class.Close)
labels_entries TypeContext.Bracketed = label_entry TypeContext.Bracketed ∷ map (lift (λ x. ([], x)) (λ x rest. refl)) type_end_entries

-- the entries of each symbol
abbrev pub entries : (s : Symbol) → List (Entry s)
entries (Symbol.Token c) = token_entries c
entries Symbol.«Unit» = unit_entries
entries Symbol.UnitName = unit_name_entries
entries Symbol.UnitEnd = unit_end_entries
entries Symbol.RankValue = rank_value_entries
entries Symbol.Items = items_entries
entries Symbol.TypeItem = type_item_entries
entries Symbol.ValueItem = value_item_entries
entries Symbol.ModuleItem = module_item_entries
entries (Symbol.Module c) = module_entries c
entries (Symbol.Parameter c) = parameter_entries c
entries (Symbol.«Path» c) = path_entries c
entries (Symbol.PathName c) = path_name_entries c
entries (Symbol.Arguments c) = arguments_entries c
entries Symbol.ModuleEnd = module_end_entries
entries Symbol.Argument = argument_entries
entries Symbol.ArgumentEnd = argument_end_entries
entries Symbol.Signature = signature_entries
entries Symbol.SignatureParameter = signature_parameter_entries
entries Symbol.Specs = specs_entries
entries Symbol.TypeSpec = type_spec_entries
entries Symbol.TypeSpecEnd = type_spec_end_entries
entries Symbol.ValueSpec = value_spec_entries
entries Symbol.ModuleSpec = module_spec_entries
entries Symbol.Term = term_entries
entries Symbol.Variable = variable_entries
entries Symbol.Atom = atom_entries
entries Symbol.PathEnd = path_end_entries
entries (Symbol.«Type» c) = type_entries c
entries (Symbol.Labels c) = labels_entries c
entries Symbol.TypeEnd = type_end_entries
entries Symbol.ArgumentName = argument_name_entries
