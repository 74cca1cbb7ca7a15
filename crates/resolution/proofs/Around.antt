-- A text in which the reader finds no undeclared head mentions only what is around it.
use Rattle.std.proofs.Common.{◌≡◌, ℕ, suc, ◌<◌, Bool, true, false, cond, ◌&&◌, List, [], ◌∷◌, sym, refl, subst, arith}
use Rattle.std.specs.Str.{bytes_eq}
use Rattle.types.specs.Types.{Name, ModulePath, dot}
use Rattle.reader.specs.declared.scope.Sort.{Sort}
use Rattle.reader.specs.declared.scope.Binder.{Binder}
use Rattle.reader.specs.Tokens.{Token, text_end, label2}
use Rattle.reader.specs.Syntax.{LongName, ModulePath as WrittenPath, TypeTree, TermTree, AtomTree, SignatureTree, SpecTrees, ModuleTree, ItemTrees}
use Rattle.reader.specs.Print.{print_long_name, print_labels, print_type, print_term, print_atom, print_signature, print_specs, print_arguments, print_module, print_items, print_rank, print_unit, print_signature_text, close, colon, comma, arrow}
use Rattle.reader.specs.Scopes.{Scope, same_sort, Resolution, component, bound, nowhere, seek}
use Rattle.reader.specs.Notes.{Note, Around, deeper, outermost, plain, lower_head, notes_long_name, notes_labels, notes_type, notes_term, notes_atom, notes_signature, notes_specs, notes_arguments, notes_module, notes_items, notes_rank, notes_unit, notes_signature_text}
use Rattle.reader.specs.Annotate.{is_missing}
use Rattle.rules.specs.Syntax.{TypeText, label_text1, SpecTexts, no_specs, Module, Items, no_items}
use Rattle.resolution.specs.Places.{first, behind, beyond}
use Rattle.resolution.specs.Heads.{Location, outward, past_variable, located, locate, binder_more, variable_more, binders, variables, upper_path, lower_path, dots, module_path_of, tail_path}
use Rattle.resolution.specs.Counting.{is_variable, binders_within, variables_within, counted}
use Rattle.resolution.specs.Behind.{past_type, past_term, past_atom, past_signature, past_module}
use Rattle.resolution.specs.Resolve.{resolve_type_path, labelled, resolve_type, lower_value, resolve_value_path, resolve_term, resolve_atom, resolve_signature, resolve_specs, applications, resolve_module, resolve_items}
use Rattle.resolution.specs.Closed.{ClosedPath, ClosedType, ClosedSignature, ClosedSpecs, ClosedTerm, ClosedModule, ClosedItems}
use Rattle.resolution.specs.Statements.{HeadsAround}
use Rattle.resolution.proofs.Heads.{heads_agree}
use Rattle.resolution.proofs.Common.{knowing, binding}
use Rattle.resolution.proofs.Clear.{Clear, stream_clear, past_names, past_arguments, past_type_lem, past_term_lem, past_atom_lem}

-- ---- scopes in which each component has its structure or signature around it

abbrev GoodEntry : Binder → ℕ → Type 0
GoodEntry Binder.Itself n = Unit {0}
GoodEntry (Binder.Component s) n = 0 < n
GoodEntry Binder.Parameter n = Unit {0}
GoodEntry Binder.Variable n = Unit {0}

abbrev Good : Scope → Type 0
Good [] = Unit {0}
Good (b ∷ scope) = GoodEntry b.binder (binders scope) × Good scope

-- only modules are parameters, and only values are variables
abbrev OfModule : Sort → Type 0 → Type 0
OfModule Sort.«Type» A = ⊥
OfModule Sort.Value A = ⊥
OfModule Sort.Module A = A

abbrev OfValue : Sort → Type 0 → Type 0
OfValue Sort.«Type» A = ⊥
OfValue Sort.Value A = A
OfValue Sort.Module A = ⊥

-- a location is one of so many binders, or of so many variables, and such as a name of this sort may have
abbrev Fits : Sort → ℕ → ℕ → Location → Type 0
Fits s n v (Location.component k) = k < n
Fits s n v (Location.parameter k) = OfModule s (k < n)
Fits s n v (Location.variable k) = OfValue s (k < v)
Fits s n v Location.nowhere = Unit {0}

outward_fits : (s : Sort) (n v : ℕ) (l : Location) → Fits s n v l → Fits s (suc n) v (outward l)
outward_fits s n v (Location.component k) h = omega arith
outward_fits Sort.«Type» n v (Location.parameter k) h = h
outward_fits Sort.Value n v (Location.parameter k) h = h
outward_fits Sort.Module n v (Location.parameter k) h = omega arith
outward_fits s n v (Location.variable k) h = h
outward_fits s n v Location.nowhere h = tt

past_fits : (s : Sort) (n v : ℕ) (l : Location) → Fits s n v l → Fits s n (suc v) (past_variable l)
past_fits s n v (Location.component k) h = h
past_fits s n v (Location.parameter k) h = h
past_fits Sort.«Type» n v (Location.variable k) h = h
past_fits Sort.Value n v (Location.variable k) h = omega arith
past_fits Sort.Module n v (Location.variable k) h = h
past_fits s n v Location.nowhere h = tt

either_fits : (t : Bool) (s : Sort) (n v : ℕ) (l m : Location) → Fits s n v l → Fits s n v m → Fits s n v (cond t l m)
either_fits true s n v l m h i = h
either_fits false s n v l m h i = i

entry_fits : (s : Sort) (x : Name) (b : Binder) (y : Name) (n v : ℕ) (l : Location) → GoodEntry b n → Fits s n v l →
    Fits s (binder_more b n) (variable_more b v) (located s x b y l)
entry_fits s x Binder.Itself y n v l g h = outward_fits s n v l h
entry_fits s x (Binder.Component t) y n v l g h = either_fits (same_sort s t && bytes_eq x y) s n v (Location.component 0) l g h
entry_fits Sort.«Type» x Binder.Parameter y n v l g h = outward_fits Sort.«Type» n v l h
entry_fits Sort.Value x Binder.Parameter y n v l g h = outward_fits Sort.Value n v l h
entry_fits Sort.Module x Binder.Parameter y n v l g h =
    either_fits (bytes_eq x y) Sort.Module (suc n) v (Location.parameter 0) (outward l) (omega arith) (outward_fits Sort.Module n v l h)
entry_fits Sort.«Type» x Binder.Variable y n v l g h = past_fits Sort.«Type» n v l h
entry_fits Sort.Value x Binder.Variable y n v l g h =
    either_fits (bytes_eq x y) Sort.Value n (suc v) (Location.variable 0) (past_variable l) (omega arith) (past_fits Sort.Value n v l h)
entry_fits Sort.Module x Binder.Variable y n v l g h = past_fits Sort.Module n v l h

locate_fits : (s : Sort) (x : Name) (scope : Scope) → Good scope → Fits s (binders scope) (variables scope) (locate s x scope)
locate_fits s x [] g = tt
locate_fits s x (b ∷ scope) g =
    entry_fits s x b.binder b.name (binders scope) (variables scope) (locate s x scope) g.0 (locate_fits s x scope g.1)

-- ---- heads

upper_closed : (x : Name) (n v : ℕ) (l : Location) → Fits Sort.Module n v l → ClosedPath n (upper_path x l)
upper_closed x n v (Location.component k) h = h
upper_closed x n v (Location.parameter k) h = h
upper_closed x n v (Location.variable k) h = elim h [ ]
upper_closed x n v Location.nowhere h = tt

tail_closed : (n : ℕ) (p : ModulePath) (q : LongName) → ClosedPath n p → ClosedPath n (tail_path p q)
tail_closed n p (LongName.plain x) h = h
tail_closed n p (LongName.inside m q) h = tail_closed n (dot p m) q h

dots_closed : (n : ℕ) (p : ModulePath) (xs : List Name) → ClosedPath n p → ClosedPath n (dots p xs)
dots_closed n p [] h = h
dots_closed n p (x ∷ xs) h = dots_closed n (dot p x) xs h

-- a head of a module that is found in a scope
head_closed : (x : Name) (scope : Scope) → Good scope → ClosedPath (binders scope) (upper_path x (locate Sort.Module x scope))
head_closed x scope g =
    upper_closed x (binders scope) (variables scope) (locate Sort.Module x scope) (locate_fits Sort.Module x scope g)

path_closed : (p : WrittenPath) (scope : Scope) → Good scope → ClosedPath (binders scope) (module_path_of scope p)
path_closed p scope g =
    dots_closed (binders scope) (upper_path p.first (locate Sort.Module p.first scope)) p.more (head_closed p.first scope g)

lower_closed : (scope : Scope) (r : Resolution) → is_missing (lower_head r) ≡ false →
    Fits Sort.«Type» (binders scope) (variables scope) (counted scope r) → ClosedPath (binders scope) (lower_path scope (counted scope r))
lower_closed scope (component n) e h = h
lower_closed scope (bound n) e h = at_either (is_variable n scope) (variables_within n scope) (binders_within n scope) h
  where
    at_either : (t : Bool) (v m : ℕ) → Fits Sort.«Type» (binders scope) (variables scope) (cond t (Location.variable v) (Location.parameter m)) →
        ClosedPath (binders scope) (lower_path scope (cond t (Location.variable v) (Location.parameter m)))
    at_either true v m h = elim h [ ]
    at_either false v m h = elim h [ ]
lower_closed scope nowhere e h = cc

value_closed : (scope : Scope) (x : Name) (place : ℕ) (r : Resolution) → is_missing (lower_head r) ≡ false →
    Fits Sort.Value (binders scope) (variables scope) (counted scope r) →
    ClosedTerm (binders scope) (variables scope) (lower_value scope x place (counted scope r))
value_closed scope x place (component n) e h = h
value_closed scope x place (bound n) e h = at_either (is_variable n scope) (variables_within n scope) (binders_within n scope) h
  where
    at_either : (t : Bool) (v m : ℕ) → Fits Sort.Value (binders scope) (variables scope) (cond t (Location.variable v) (Location.parameter m)) →
        ClosedTerm (binders scope) (variables scope) (lower_value scope x place (cond t (Location.variable v) (Location.parameter m)))
    at_either true v m h = h
    at_either false v m h = elim h [ ]
value_closed scope x place nowhere e h = cc

abbrev missed : Note → Bool
missed n = is_missing n.head

-- ---- types

type_path_closed : (a : Around Scope) (p : LongName) (ns : List Note) (ks : List Token) (place : ℕ) → Good a.scope →
    Clear missed (notes_long_name Sort.«Type» a p ns) (print_long_name p ks) → ClosedType (binders a.scope) (resolve_type_path a.scope p place)
type_path_closed a (LongName.plain x) ns ks place g c =
    let e = heads_agree Sort.«Type» x a.scope in
    subst (λ (l : Location). ClosedPath (binders a.scope) (lower_path a.scope l)) (sym e)
    (lower_closed a.scope (seek Sort.«Type» x a.scope) c.0
    (subst (Fits Sort.«Type» (binders a.scope) (variables a.scope)) e (locate_fits Sort.«Type» x a.scope g)))
type_path_closed a (LongName.inside m p) ns ks place g c =
    tail_closed (binders a.scope) (upper_path m (locate Sort.Module m a.scope)) p (head_closed m a.scope g)

labelled_closed : (n place : ℕ) (t : TypeText) (ls : List ℕ) → ClosedType n t → ClosedType n (labelled place t ls)
labelled_closed n place t [] h = h
labelled_closed n place t (l ∷ ls) h = labelled_closed n place (label_text1 place l t) ls h

type_closed : (a : Around Scope) (t : TypeTree) (ns : List Note) (ks : List Token) (ps : List ℕ) → Good a.scope →
    Clear missed (notes_type a t ns) (print_type t ks) → ClosedType (binders a.scope) (resolve_type a.scope t ps)
type_closed a (TypeTree.path p ls) ns ks ps g c =
    labelled_closed (binders a.scope) _ _ ls
    (type_path_closed a p (notes_labels a ls ns) (print_labels ls ks) (first ps) g c)
type_closed a (TypeTree.constant l ls) ns ks ps g c = labelled_closed (binders a.scope) _ _ ls tt
type_closed a (TypeTree.bracket t ls) ns ks ps g c =
    labelled_closed (binders a.scope) _ _ ls
    (type_closed (deeper 1 a) t (plain (deeper 1 a) ∷ notes_labels a ls ns) (close ∷ print_labels ls ks) (behind ps) g c.1)
type_closed a (TypeTree.both t u l ls) ns ks ps g c =
    let us = plain (deeper 1 a) ∷ plain (deeper 1 a) ∷ notes_labels a ls ns in
    let js = close ∷ label2 l ∷ print_labels ls ks in
    let d = past_type_lem missed (deeper 1 a) t (plain (deeper 1 a) ∷ notes_type (deeper 1 a) u us) (comma ∷ print_type u js) c.1 in
    labelled_closed (binders a.scope) _ _ ls (
      type_closed (deeper 1 a) t (plain (deeper 1 a) ∷ notes_type (deeper 1 a) u us) (comma ∷ print_type u js) (behind ps) g c.1,
      type_closed (deeper 1 a) u us js (behind (past_type t (behind ps))) g d.1,
    )

-- ---- terms

value_path_closed : (a : Around Scope) (p : LongName) (ns : List Note) (ks : List Token) (place : ℕ) → Good a.scope →
    Clear missed (notes_long_name Sort.Value a p ns) (print_long_name p ks) →
    ClosedTerm (binders a.scope) (variables a.scope) (resolve_value_path a.scope p place)
value_path_closed a (LongName.plain x) ns ks place g c =
    let e = heads_agree Sort.Value x a.scope in
    subst (λ (l : Location). ClosedTerm (binders a.scope) (variables a.scope) (lower_value a.scope x place l)) (sym e)
    (value_closed a.scope x place (seek Sort.Value x a.scope) c.0
    (subst (Fits Sort.Value (binders a.scope) (variables a.scope)) e (locate_fits Sort.Value x a.scope g)))
value_path_closed a (LongName.inside m p) ns ks place g c =
    tail_closed (binders a.scope) (upper_path m (locate Sort.Module m a.scope)) p (head_closed m a.scope g)

mutual
  term_closed : (a : Around Scope) (e : TermTree) (ns : List Note) (ks : List Token) (ps : List ℕ) → Good a.scope →
      Clear missed (notes_term a e ns) (print_term e ks) → ClosedTerm (binders a.scope) (variables a.scope) (resolve_term a.scope e ps)
  term_closed a (TermTree.function x t e) ns ks ps g c =
      let us = plain (deeper 2 a) ∷ plain (deeper 1 a) ∷ notes_term (binding Binder.Variable x a) e ns in
      let js = close ∷ arrow ∷ print_term e ks in
      let d = past_type_lem missed (deeper 2 a) t us js c.1.1.1.1 in (
        type_closed (deeper 2 a) t us js (beyond 4 ps) g c.1.1.1.1,
        term_closed (binding Binder.Variable x a) e ns ks (beyond 2 (past_type t (beyond 4 ps))) (tt, g) d.1.1,
      )
  term_closed a (TermTree.one o b) ns ks ps g c = (atom_closed a b ns ks (behind ps) g c.1, tt)
  term_closed a (TermTree.two o b d) ns ks ps g c = (
    atom_closed a b (notes_atom a d ns) (print_atom d ks) (behind ps) g c.1,
    (atom_closed a d ns ks (past_atom b (behind ps)) g (past_atom_lem missed a b (notes_atom a d ns) (print_atom d ks) c.1), tt),
  )
  term_closed a (TermTree.three o b d e) ns ks ps g c =
      let f = past_atom_lem missed a b (notes_atom a d (notes_atom a e ns)) (print_atom d (print_atom e ks)) c.1 in (
        atom_closed a b (notes_atom a d (notes_atom a e ns)) (print_atom d (print_atom e ks)) (behind ps) g c.1,
        (
          atom_closed a d (notes_atom a e ns) (print_atom e ks) (past_atom b (behind ps)) g f,
          (atom_closed a e ns ks (past_atom d (past_atom b (behind ps))) g (past_atom_lem missed a d (notes_atom a e ns) (print_atom e ks) f), tt),
        ),
      )
  term_closed a (TermTree.atom b) ns ks ps g c = atom_closed a b ns ks ps g c

  atom_closed : (a : Around Scope) (b : AtomTree) (ns : List Note) (ks : List Token) (ps : List ℕ) → Good a.scope →
      Clear missed (notes_atom a b ns) (print_atom b ks) → ClosedTerm (binders a.scope) (variables a.scope) (resolve_atom a.scope b ps)
  atom_closed a (AtomTree.literal ds) ns ks ps g c = tt
  atom_closed a (AtomTree.path p) ns ks ps g c = value_path_closed a p ns ks (first ps) g c
  atom_closed a (AtomTree.constant o) ns ks ps g c = tt
  atom_closed a (AtomTree.bracket e) ns ks ps g c = term_closed (deeper 1 a) e (plain (deeper 1 a) ∷ ns) (close ∷ ks) (behind ps) g c.1

-- ---- signatures

mutual
  signature_closed : (a : Around Scope) (s : SignatureTree) (ns : List Note) (ks : List Token) (ps : List ℕ) → Good a.scope →
      Clear missed (notes_signature a s ns) (print_signature s ks) →
      ClosedSignature (binders a.scope) (resolve_signature a.scope s ps) × Clear missed ns ks
  signature_closed a (SignatureTree.sig_end specs) ns ks ps g c =
      specs_closed (binding Binder.Itself [] a) no_specs specs ns ks (behind ps) (tt, g) (omega arith) tt c.1
  signature_closed a (SignatureTree.functor x p r) ns ks ps g c =
      let d = signature_closed (deeper 2 a) p (plain (deeper 2 a) ∷ plain (deeper 1 a) ∷ notes_signature (binding Binder.Parameter x a) r ns)
      (close ∷ arrow ∷ print_signature r ks) (beyond 4 ps) g c.1.1.1.1 in
      let e = signature_closed (binding Binder.Parameter x a) r ns ks (beyond 2 (past_signature p (beyond 4 ps))) (tt, g) d.1.1.1 in
      ((d.0, e.0), e.1)

  specs_closed : (a : Around Scope) (before : SpecTexts) (specs : SpecTrees) (ns : List Note) (ks : List Token) (ps : List ℕ) → Good a.scope →
      0 < binders a.scope → ClosedSpecs (binders a.scope) before → Clear missed (notes_specs a specs ns) (print_specs specs ks) →
      ClosedSpecs (binders a.scope) (resolve_specs a.scope before specs ps) × Clear missed ns ks
  specs_closed a before SpecTrees.done ns ks ps g w b c = (b, c.1)
  specs_closed a before (SpecTrees.abstract_type t more) ns ks ps g w b c =
      specs_closed (knowing Sort.«Type» t a) _ more ns ks (beyond 2 ps) (w, g) w (b, tt) c.1.1
  specs_closed a before (SpecTrees.defined_type t u more) ns ks ps g w b c =
      let us = notes_specs (knowing Sort.«Type» t a) more ns in
      specs_closed (knowing Sort.«Type» t a) _ more ns ks
      (past_type u (beyond 3 ps)) (w, g) w (b, type_closed a u us (print_specs more ks) (beyond 3 ps) g c.1.1.1)
      (past_type_lem missed a u us (print_specs more ks) c.1.1.1)
  specs_closed a before (SpecTrees.value x t more) ns ks ps g w b c =
      let us = notes_specs (knowing Sort.Value x a) more ns in
      specs_closed (knowing Sort.Value x a) _ more ns ks
      (past_type t (beyond 3 ps)) (w, g) w (b, type_closed a t us (print_specs more ks) (beyond 3 ps) g c.1.1.1)
      (past_type_lem missed a t us (print_specs more ks) c.1.1.1)
  specs_closed a before (SpecTrees.submodule x s more) ns ks ps g w b c =
      let e = signature_closed a s (notes_specs (knowing Sort.Module x a) more ns) (print_specs more ks) (beyond 3 ps) g c.1.1.1 in
      specs_closed (knowing Sort.Module x a) _ more
      ns ks (past_signature s (beyond 3 ps)) (w, g) w (b, e.0) e.1

-- ---- modules

applied_closed : (scope : Scope) (args : List WrittenPath) (place : ℕ) (m : Module) (ps : List ℕ) → Good scope →
    ClosedModule (binders scope) m → ClosedModule (binders scope) (applications scope place m args ps)
applied_closed scope [] place m ps g h = h
applied_closed scope (p ∷ args) place m ps g h =
    applied_closed scope args place _ _ g
    (h, path_closed p scope g)

mutual
  -- no variable is around a module
  module_closed : (a : Around Scope) (m : ModuleTree) (ns : List Note) (ks : List Token) (ps : List ℕ) → Good a.scope →
      variables a.scope ≡ 0 → Clear missed (notes_module a m ns) (print_module m ks) →
      ClosedModule (binders a.scope) (resolve_module a.scope m ps) × Clear missed ns ks
  module_closed a (ModuleTree.functor x s m) ns ks ps g v c =
      let d = signature_closed (deeper 2 a) s (plain (deeper 2 a) ∷ plain (deeper 1 a) ∷ notes_module (binding Binder.Parameter x a) m ns)
      (close ∷ arrow ∷ print_module m ks) (beyond 4 ps) g c.1.1.1.1 in
      let e = module_closed (binding Binder.Parameter x a) m ns ks (beyond 2 (past_signature s (beyond 4 ps))) (tt, g) v d.1.1.1 in
      ((d.0, e.0), e.1)
  module_closed a (ModuleTree.path p args) ns ks ps g v c = (
    applied_closed a.scope args (first ps) _ _ g (path_closed p a.scope g),
    past_arguments missed a args ns ks (past_names missed a p.more (notes_arguments a args ns) (print_arguments args ks) c.1),
  )
  module_closed a (ModuleTree.struct_end is args) ns ks ps g v c =
      let d = items_closed (binding Binder.Itself [] a) no_items is (notes_arguments a args ns) (print_arguments args ks) (behind ps) (tt, g) v (omega arith) tt c.1 in (
        applied_closed a.scope args (first ps) _ _ g d.0,
        past_arguments missed a args ns ks d.1,
      )
  module_closed a (ModuleTree.bracket m args) ns ks ps g v c =
      let d = module_closed (deeper 1 a) m (plain (deeper 1 a) ∷ notes_arguments a args ns) (close ∷ print_arguments args ks) (behind ps) g v c.1 in (
        applied_closed a.scope args (first ps) _ _ g d.0,
        past_arguments missed a args ns ks d.1.1,
      )
  module_closed a (ModuleTree.ascribed m s args) ns ks ps g v c =
      let d = module_closed (deeper 1 a) m
      (plain (deeper 1 a) ∷ notes_signature (deeper 1 a) s (plain (deeper 1 a) ∷ notes_arguments a args ns))
      (colon ∷ print_signature s (close ∷ print_arguments args ks)) (behind ps) g v c.1 in
      let e = signature_closed (deeper 1 a) s (plain (deeper 1 a) ∷ notes_arguments a args ns) (close ∷ print_arguments args ks)
      (behind (past_module m (behind ps))) g d.1.1 in (
        applied_closed a.scope args (first ps) _ _ g (d.0, e.0),
        past_arguments missed a args ns ks e.1.1,
      )

  items_closed : (a : Around Scope) (before : Items) (is : ItemTrees) (ns : List Note) (ks : List Token) (ps : List ℕ) → Good a.scope →
      variables a.scope ≡ 0 → 0 < binders a.scope → ClosedItems (binders a.scope) before → Clear missed (notes_items a is ns) (print_items is ks) →
      ClosedItems (binders a.scope) (resolve_items a.scope before is ps) × Clear missed ns ks
  items_closed a before ItemTrees.done ns ks ps g v w b c = (b, c.1)
  items_closed a before (ItemTrees.defined_type t u more) ns ks ps g v w b c =
      let us = notes_items (knowing Sort.«Type» t a) more ns in
      items_closed (knowing Sort.«Type» t a) _ more ns ks
      (past_type u (beyond 3 ps)) (w, g) v w (b, type_closed a u us (print_items more ks) (beyond 3 ps) g c.1.1.1)
      (past_type_lem missed a u us (print_items more ks) c.1.1.1)
  items_closed a before (ItemTrees.value x e more) ns ks ps g v w b c =
      let us = notes_items (knowing Sort.Value x a) more ns in
      items_closed (knowing Sort.Value x a) _ more ns ks
      (past_term e (beyond 3 ps)) (w, g) v w (
        b,
        subst (λ (k : ℕ). ClosedTerm (binders a.scope) k (resolve_term a.scope e (beyond 3 ps))) v
            (term_closed a e us (print_items more ks) (beyond 3 ps) g c.1.1.1),
      )
      (past_term_lem missed a e us (print_items more ks) c.1.1.1)
  items_closed a before (ItemTrees.submodule x m more) ns ks ps g v w b c =
      let e = module_closed a m (notes_items (knowing Sort.Module x a) more ns) (print_items more ks) (beyond 3 ps) g v c.1.1.1 in
      items_closed (knowing Sort.Module x a) _ more ns ks
      (past_module m (beyond 3 ps)) (w, g) v w (b, e.0) e.1

-- ---- texts

pub heads_around : HeadsAround
heads_around = (
  λ s u ps e f.
      let c = stream_clear missed (notes_unit u) s (print_unit u) e f in
      (items_closed (binding Binder.Itself [] outermost) no_items u.items
      (notes_rank outermost u.rank (plain outermost ∷ [])) (print_rank u.rank (text_end ∷ [])) (beyond 4 ps) (tt, tt) refl (omega arith) tt c.1.1.1.1).0,
  λ s t ps e f.
      (signature_closed outermost t (plain outermost ∷ []) (text_end ∷ []) ps tt (stream_clear missed (notes_signature_text t) s (print_signature_text t) e f)).0,
)
