-- Every tree of every symbol comes from one of the symbol's entries; every symbol has a tree.
use Rattle.std.proofs.Common.{◌≡◌, ℕ, Bool, true, false, List, [], ◌∷◌, map, Some, None, Option, refl, ap}
use Rattle.reader.specs.declared.class.Class.{Class}
use Rattle.reader.specs.declared.symbol.Symbol.{Symbol}
use Rattle.reader.specs.declared.symbol.TypeContext.{TypeContext}
use Rattle.reader.specs.declared.symbol.ModuleContext.{ModuleContext}
use Rattle.reader.specs.Tokens.{Token, is_rank}
use Rattle.reader.specs.Syntax.{LongName, ModulePath, TypeTree, TermTree, AtomTree, SignatureTree, SpecTrees, ModuleTree, ItemTrees, RankTree}
use Rattle.reader.specs.Grammar.{◌⇒◌, rows}
use Rattle.reader.proofs.Loads.{Load}
use Rattle.reader.proofs.Shapes.{Tree, print, AfterType, AfterModule}
use Rattle.reader.proofs.Entries.{Trees, Entry, entries, lift, items_entries, specs_entries, module_end_entries, type_end_entries, atom_entries, arguments_entries, token_entries}
use Rattle.reader.proofs.Choosing.{In, here, there, same, Origin}

-- no entry begins with this class
abbrev Apart : {s : Symbol} → Class → List (Entry s) → Type 0
Apart c [] = Unit {0}
Apart c (e ∷ es) = (same e.first c ≡ false) × Apart c es

apart_in : {s : Symbol} (c : Class) (e : Entry s) (es : List (Entry s)) → Apart c es → In e es → same e.first c ≡ false
apart_in c e es a here = a.0
apart_in c e es a (there {es = xs} d i) = apart_in c e xs a.1 i

in_lift :
    {s t : Symbol} (wrap : Tree s → Tree t) (shows : (x : Tree s) (rest : List Token) → print t (wrap x) rest ≡ print s x rest)
    (e : Entry s) (es : List (Entry s)) → In e es →
    In {s = t} (lift {s = s} {t = t} wrap shows e) (map (lift {s = s} {t = t} wrap shows) es)
in_lift wrap shows e es here = here
in_lift wrap shows e es (there {es = xs} d i) = there d (in_lift wrap shows e xs i)

-- a tree of what stands first is a tree of the whole, behind entries that begin otherwise
lifted :
    {s t : Symbol} (wrap : Tree s → Tree t) (shows : (x : Tree s) (rest : List Token) → print t (wrap x) rest ≡ print s x rest)
    (es : List (Entry s)) (x : Tree s) → Origin s es x → Origin t (map (lift {s = s} {t = t} wrap shows) es) (wrap x)
lifted {s} {t} wrap shows es x o =
    record {
      entry = lift {s = s} {t = t} wrap shows o.entry;
      is_in = in_lift {s = s} {t = t} wrap shows o.entry es o.is_in;
      holds = o.holds;
      parts = o.parts;
      made = ap wrap o.made;
    }

-- the same with one entry more in front
behind : {s : Symbol} (e : Entry s) (es : List (Entry s)) (t : Tree s) → Apart e.first es → Origin s es t → Origin s (e ∷ es) t
behind e es t a o =
    record { entry = o.entry; is_in = there (apart_in e.first o.entry es a o.is_in) o.is_in; holds = o.holds; parts = o.parts; made = o.made }

-- an entry at its place, with what it is made from
at :
    {s : Symbol} {e : Entry s} {es : List (Entry s)} (i : In e es) (l : Load e.first) (ts : Trees e.after) →
    Origin s es (e.make l ts)
at {e = e} i l ts = record { entry = e; is_in = i; holds = l; parts = ts; made = refl }

origin_items : (t : ItemTrees) → Origin Symbol.Items items_entries t
origin_items ItemTrees.done = at here tt tt
origin_items (ItemTrees.defined_type x u more) = at (there refl here) tt ((x, (u, more)), tt)
origin_items (ItemTrees.value x e more) = at (there refl (there refl here)) tt ((x, (e, more)), tt)
origin_items (ItemTrees.submodule x m more) = at (there refl (there refl (there refl here))) tt ((x, (m, more)), tt)

origin_specs : (t : SpecTrees) → Origin Symbol.Specs specs_entries t
origin_specs SpecTrees.done = at here tt tt
origin_specs (SpecTrees.abstract_type x more) = at (there refl here) tt ((x, (None, more)), tt)
origin_specs (SpecTrees.defined_type x u more) = at (there refl here) tt ((x, (Some u, more)), tt)
origin_specs (SpecTrees.value x u more) = at (there refl (there refl here)) tt ((x, (u, more)), tt)
origin_specs (SpecTrees.submodule x s more) = at (there refl (there refl (there refl here))) tt ((x, (s, more)), tt)

origin_module_end : (t : Option SignatureTree) → Origin Symbol.ModuleEnd module_end_entries t
origin_module_end None = at here tt tt
origin_module_end (Some s) = at (there refl here) tt (s, (tt, tt))

origin_type_end : (t : Option (TypeTree × ℕ)) → Origin Symbol.TypeEnd type_end_entries t
origin_type_end None = at here tt tt
origin_type_end (Some u) = at (there refl here) tt ((u.0, tt), (u.1, tt))

origin_literal : (ds : List ℕ) (b : Bool) → is_rank ds ≡ b → Origin Symbol.Atom atom_entries (AtomTree.literal ds)
origin_literal ds true e = at here (record { digits = ds; judged = e }) tt
origin_literal ds false e = at (there refl here) (record { digits = ds; judged = e }) tt

origin_atom : (t : AtomTree) → Origin Symbol.Atom atom_entries t
origin_atom (AtomTree.literal ds) = origin_literal ds (is_rank ds) refl
origin_atom (AtomTree.path (LongName.plain x)) = at (there refl (there refl here)) x tt
origin_atom (AtomTree.path (LongName.inside x p)) = at (there refl (there refl (there refl here))) x (tt, (p, tt))
origin_atom (AtomTree.constant o) = at (there refl (there refl (there refl (there refl here)))) o tt
origin_atom (AtomTree.bracket e) = at (there refl (there refl (there refl (there refl (there refl here))))) tt (e, (tt, tt))

origin_term : (t : TermTree) → Origin Symbol.Term (entries Symbol.Term) t
origin_term (TermTree.function x u e) = at here tt (tt, ((x, (u, e)), tt))
origin_term (TermTree.one o a) = at (there refl here) o (a, tt)
origin_term (TermTree.two o a b) = at (there refl (there refl here)) o (a, (b, tt))
origin_term (TermTree.three o a b c) = at (there refl (there refl (there refl here))) o (a, (b, (c, tt)))
origin_term (TermTree.atom a) =
    let o = lifted (λ x. TermTree.atom x) (λ x rest. refl) atom_entries a (origin_atom a) in
    behind _ _ _ (refl, (refl, (refl, (refl, (refl, (refl, (refl, (refl, (refl, tt)))))))))
    (behind _ _ _ (refl, (refl, (refl, (refl, (refl, (refl, (refl, (refl, tt))))))))
    (behind _ _ _ (refl, (refl, (refl, (refl, (refl, (refl, (refl, tt))))))) (behind _ _ _ (refl, (refl, (refl, (refl, (refl, (refl, tt)))))) o)))

origin_signature : (t : SignatureTree) → Origin Symbol.Signature (entries Symbol.Signature) t
origin_signature (SignatureTree.sig_end ss) = at here tt (ss, tt)
origin_signature (SignatureTree.functor x p r) = at (there refl here) tt (tt, ((x, (p, r)), tt))

origin_type_spec_end : (o : Option TypeTree) (more : SpecTrees) → Origin Symbol.TypeSpecEnd (entries Symbol.TypeSpecEnd) (o, more)
origin_type_spec_end None more =
    behind _ _ _ (refl, (refl, (refl, (refl, tt)))) (lifted (λ x. (None, x)) (λ x rest. refl) specs_entries more (origin_specs more))
origin_type_spec_end (Some t) more = at here tt ((t, more), tt)

origin_long_name : (t : LongName) → Origin Symbol.PathEnd (entries Symbol.PathEnd) t
origin_long_name (LongName.plain x) = at here x tt
origin_long_name (LongName.inside x p) = at (there refl here) x (tt, (p, tt))

origin_type : (c : TypeContext) (t : TypeTree) (a : AfterType c) → Origin (Symbol.«Type» c) (entries (Symbol.«Type» c)) (t, a)
origin_type c (TypeTree.path (LongName.plain x) ls) a = at here x ((ls, a), tt)
origin_type c (TypeTree.path (LongName.inside x p) ls) a = at (there refl here) x (tt, (p, ((ls, a), tt)))
origin_type c (TypeTree.constant l ls) a = at (there refl (there refl here)) l ((ls, a), tt)
origin_type c (TypeTree.bracket t ls) a = at (there refl (there refl (there refl here))) tt ((t, None), ((ls, a), tt))
origin_type c (TypeTree.both t u l ls) a = at (there refl (there refl (there refl here))) tt ((t, Some (u, l)), ((ls, a), tt))

origin_no_labels : (c : TypeContext) (a : AfterType c) → Origin (Symbol.Labels c) (entries (Symbol.Labels c)) ([], a)
origin_no_labels TypeContext.Items a =
    behind _ _ _ (refl, (refl, (refl, (refl, tt)))) (lifted (λ x. ([], x)) (λ x rest. refl) items_entries a (origin_items a))
origin_no_labels TypeContext.Specs a =
    behind _ _ _ (refl, (refl, (refl, (refl, tt)))) (lifted (λ x. ([], x)) (λ x rest. refl) specs_entries a (origin_specs a))
origin_no_labels TypeContext.Closed a =
    behind _ _ _ (refl, tt) (lifted (λ x. ([], x)) (λ x rest. refl) (token_entries Class.Close) a (at here tt tt))
origin_no_labels TypeContext.Bracketed a =
    behind _ _ _ (refl, (refl, tt)) (lifted (λ x. ([], x)) (λ x rest. refl) type_end_entries a (origin_type_end a))

origin_labels : (c : TypeContext) (ls : List ℕ) (a : AfterType c) → Origin (Symbol.Labels c) (entries (Symbol.Labels c)) (ls, a)
origin_labels c [] a = origin_no_labels c a
origin_labels TypeContext.Items (l ∷ ls) a = at here l ((ls, a), tt)
origin_labels TypeContext.Specs (l ∷ ls) a = at here l ((ls, a), tt)
origin_labels TypeContext.Closed (l ∷ ls) a = at here l ((ls, a), tt)
origin_labels TypeContext.Bracketed (l ∷ ls) a = at here l ((ls, a), tt)

origin_module : (c : ModuleContext) (m : ModuleTree) (a : AfterModule c) → Origin (Symbol.Module c) (entries (Symbol.Module c)) (m, a)
origin_module c (ModuleTree.functor x s m) a = at here tt (tt, ((x, (s, (m, a))), tt))
origin_module c (ModuleTree.path p ps) a = at (there refl here) p.first ((p.more, (ps, a)), tt)
origin_module c (ModuleTree.struct_end is ps) a = at (there refl (there refl here)) tt (is, ((ps, a), tt))
origin_module c (ModuleTree.bracket m ps) a = at (there refl (there refl (there refl here))) tt ((m, None), ((ps, a), tt))
origin_module c (ModuleTree.ascribed m s ps) a = at (there refl (there refl (there refl here))) tt ((m, Some s), ((ps, a), tt))

origin_no_arguments : (c : ModuleContext) (a : AfterModule c) → Origin (Symbol.Arguments c) (entries (Symbol.Arguments c)) ([], a)
origin_no_arguments ModuleContext.Items a =
    behind _ _ _ (refl, (refl, (refl, (refl, tt)))) (lifted (λ x. ([], x)) (λ x rest. refl) items_entries a (origin_items a))
origin_no_arguments ModuleContext.Bracketed a =
    behind _ _ _ (refl, (refl, tt)) (lifted (λ x. ([], x)) (λ x rest. refl) module_end_entries a (origin_module_end a))

origin_arguments :
    (c : ModuleContext) (ps : List ModulePath) (a : AfterModule c) →
    Origin (Symbol.Arguments c) (entries (Symbol.Arguments c)) (ps, a)
origin_arguments c [] a = origin_no_arguments c a
origin_arguments ModuleContext.Items (p ∷ ps) a = at here tt (p, ((ps, a), tt))
origin_arguments ModuleContext.Bracketed (p ∷ ps) a = at here tt (p, ((ps, a), tt))

dot_apart : (c : ModuleContext) → Apart Class.Dot (map (lift {t = Symbol.«Path» c} (λ x. ([], x)) (λ x rest. refl)) (arguments_entries c))
dot_apart ModuleContext.Items = (refl, (refl, (refl, (refl, (refl, tt)))))
dot_apart ModuleContext.Bracketed = (refl, (refl, (refl, tt)))

origin_path :
    (c : ModuleContext) (xs : List (List ℕ)) (r : List ModulePath × AfterModule c) →
    Origin (Symbol.«Path» c) (entries (Symbol.«Path» c)) (xs, r)
origin_path c [] r =
    behind _ _ _ (dot_apart c) (lifted (λ x. ([], x)) (λ x rest. refl) (arguments_entries c) r (origin_arguments c r.0 r.1))
origin_path c (x ∷ xs) r = at here tt ((record { first = x; more = xs }, r), tt)

origin_argument_end : (xs : List (List ℕ)) → Origin Symbol.ArgumentEnd (entries Symbol.ArgumentEnd) xs
origin_argument_end [] = at (there refl here) tt tt
origin_argument_end (x ∷ xs) = at here tt (record { first = x; more = xs }, tt)

origin_unit_end : (o : Option RankTree) → Origin Symbol.UnitEnd (entries Symbol.UnitEnd) o
origin_unit_end None = at here tt tt
origin_unit_end (Some r) = at (there refl here) tt (tt, (r, (tt, (tt, tt))))

-- the entry that each tree comes from
pub origin : (s : Symbol) (t : Tree s) → Origin s (entries s) t
origin (Symbol.Token c) t = at here t tt
origin Symbol.«Unit» t = at here tt (t.name, (tt, (tt, (t.items, (t.rank, tt)))))
origin Symbol.UnitName t = at here t tt
origin Symbol.UnitEnd t = origin_unit_end t
origin Symbol.RankValue t = at here (record { digits = t.digits; judged = t.small }) tt
origin Symbol.Items t = origin_items t
origin Symbol.TypeItem t = at here t.0 (tt, (t.1, tt))
origin Symbol.ValueItem t = at here t.0 (tt, (t.1.0, (t.1.1, tt)))
origin Symbol.ModuleItem t = at here t.0 (tt, (t.1, tt))
origin (Symbol.Module c) t = origin_module c t.0 t.1
origin (Symbol.Parameter c) t = at here t.0 (tt, (t.1.0, (tt, (tt, (t.1.1, tt)))))
origin (Symbol.«Path» c) t = origin_path c t.0 t.1
origin (Symbol.PathName c) t = at here t.0.first ((t.0.more, t.1), tt)
origin (Symbol.Arguments c) t = origin_arguments c t.0 t.1
origin Symbol.ModuleEnd t = origin_module_end t
origin Symbol.Argument t = at here t.first (t.more, tt)
origin Symbol.ArgumentEnd t = origin_argument_end t
origin Symbol.Signature t = origin_signature t
origin Symbol.SignatureParameter t = at here t.0 (tt, (t.1.0, (tt, (tt, (t.1.1, tt)))))
origin Symbol.Specs t = origin_specs t
origin Symbol.TypeSpec t = at here t.0 (t.1, tt)
origin Symbol.TypeSpecEnd t = origin_type_spec_end t.0 t.1
origin Symbol.ValueSpec t = at here t.0 (tt, (t.1, tt))
origin Symbol.ModuleSpec t = at here t.0 (tt, (t.1.0, (t.1.1, tt)))
origin Symbol.Term t = origin_term t
origin Symbol.Variable t = at here t.0 (tt, ((t.1.0, tt), (tt, (t.1.1, tt))))
origin Symbol.Atom t = origin_atom t
origin Symbol.PathEnd t = origin_long_name t
origin (Symbol.«Type» c) t = origin_type c t.0 t.1
origin (Symbol.Labels c) t = origin_labels c t.0 t.1
origin Symbol.TypeEnd t = origin_type_end t
origin Symbol.ArgumentName t = at here t.first (t.more, tt)

-- the entries are the rows
pub entries_rows : (s : Symbol) → map (λ (e : Entry s). e.first ⇒ e.after) (entries s) ≡ rows s
entries_rows (Symbol.Token c) = refl
entries_rows Symbol.«Unit» = refl
entries_rows Symbol.UnitName = refl
entries_rows Symbol.UnitEnd = refl
entries_rows Symbol.RankValue = refl
entries_rows Symbol.Items = refl
entries_rows Symbol.TypeItem = refl
entries_rows Symbol.ValueItem = refl
entries_rows Symbol.ModuleItem = refl
entries_rows (Symbol.Module c) = refl
entries_rows (Symbol.Parameter c) = refl
entries_rows (Symbol.«Path» ModuleContext.Items) = refl
entries_rows (Symbol.«Path» ModuleContext.Bracketed) = refl
entries_rows (Symbol.PathName c) = refl
entries_rows (Symbol.Arguments ModuleContext.Items) = refl
entries_rows (Symbol.Arguments ModuleContext.Bracketed) = refl
entries_rows Symbol.ModuleEnd = refl
entries_rows Symbol.Argument = refl
entries_rows Symbol.ArgumentEnd = refl
entries_rows Symbol.Signature = refl
entries_rows Symbol.SignatureParameter = refl
entries_rows Symbol.Specs = refl
entries_rows Symbol.TypeSpec = refl
entries_rows Symbol.TypeSpecEnd = refl
entries_rows Symbol.ValueSpec = refl
entries_rows Symbol.ModuleSpec = refl
entries_rows Symbol.Term = refl
entries_rows Symbol.Variable = refl
entries_rows Symbol.Atom = refl
entries_rows Symbol.PathEnd = refl
entries_rows (Symbol.«Type» c) = refl
entries_rows (Symbol.Labels TypeContext.Items) = refl
entries_rows (Symbol.Labels TypeContext.Specs) = refl
entries_rows (Symbol.Labels TypeContext.Closed) = refl
entries_rows (Symbol.Labels TypeContext.Bracketed) = refl
entries_rows Symbol.TypeEnd = refl
entries_rows Symbol.ArgumentName = refl

-- some tree of each symbol
some_load : (c : Class) → Load c
some_load Class.Open = tt
some_load Class.Close = tt
some_load Class.Colon = tt
some_load Class.Equals = tt
some_load Class.Comma = tt
some_load Class.Dot = tt
some_load Class.Arrow = tt
some_load Class.OpenAttribute = tt
some_load Class.CloseAttribute = tt
some_load Class.Module = tt
some_load Class.Struct = tt
some_load Class.Sig = tt
some_load Class.End = tt
some_load Class.Functor = tt
some_load Class.«Type» = tt
some_load Class.Val = tt
some_load Class.Let = tt
some_load Class.Fun = tt
some_load Class.Rank = tt
some_load Class.Lower = []
some_load Class.Upper = []
some_load Class.SmallInteger = record { digits = []; judged = refl }
some_load Class.LargeInteger = record { digits = 57 ∷ 57 ∷ 57 ∷ []; judged = refl }
some_load Class.Label0 = 0
some_load Class.Label1 = 0
some_load Class.Label2 = 0
some_load Class.Operator0 = 0
some_load Class.Operator1 = 0
some_load Class.Operator2 = 0
some_load Class.Operator3 = 0
some_load Class.TextEnd = tt

some_type : TypeTree
some_type = TypeTree.constant 0 []

some_term : TermTree
some_term = TermTree.atom (AtomTree.constant 0)

some_path : ModulePath
some_path = record { first = []; more = [] }

some_module : ModuleTree
some_module = ModuleTree.struct_end ItemTrees.done []

some_signature : SignatureTree
some_signature = SignatureTree.sig_end SpecTrees.done

some_after_type : (c : TypeContext) → AfterType c
some_after_type TypeContext.Items = ItemTrees.done
some_after_type TypeContext.Specs = SpecTrees.done
some_after_type TypeContext.Closed = tt
some_after_type TypeContext.Bracketed = None

some_after_module : (c : ModuleContext) → AfterModule c
some_after_module ModuleContext.Items = ItemTrees.done
some_after_module ModuleContext.Bracketed = None

pub some_tree : (s : Symbol) → Tree s
some_tree (Symbol.Token c) = some_load c
some_tree Symbol.«Unit» = record { name = []; items = ItemTrees.done; rank = None }
some_tree Symbol.UnitName = []
some_tree Symbol.UnitEnd = None
some_tree Symbol.RankValue = record { digits = []; small = refl }
some_tree Symbol.Items = ItemTrees.done
some_tree Symbol.TypeItem = ([], (some_type, ItemTrees.done))
some_tree Symbol.ValueItem = ([], (some_term, ItemTrees.done))
some_tree Symbol.ModuleItem = ([], (some_module, ItemTrees.done))
some_tree (Symbol.Module c) = (some_module, some_after_module c)
some_tree (Symbol.Parameter c) = ([], (some_signature, (some_module, some_after_module c)))
some_tree (Symbol.«Path» c) = ([], ([], some_after_module c))
some_tree (Symbol.PathName c) = (some_path, ([], some_after_module c))
some_tree (Symbol.Arguments c) = ([], some_after_module c)
some_tree Symbol.ModuleEnd = None
some_tree Symbol.Argument = some_path
some_tree Symbol.ArgumentEnd = []
some_tree Symbol.Signature = some_signature
some_tree Symbol.SignatureParameter = ([], (some_signature, some_signature))
some_tree Symbol.Specs = SpecTrees.done
some_tree Symbol.TypeSpec = ([], (None, SpecTrees.done))
some_tree Symbol.TypeSpecEnd = (None, SpecTrees.done)
some_tree Symbol.ValueSpec = ([], (some_type, SpecTrees.done))
some_tree Symbol.ModuleSpec = ([], (some_signature, SpecTrees.done))
some_tree Symbol.Term = some_term
some_tree Symbol.Variable = ([], (some_type, some_term))
some_tree Symbol.Atom = AtomTree.constant 0
some_tree Symbol.PathEnd = LongName.plain []
some_tree (Symbol.«Type» c) = (some_type, some_after_type c)
some_tree (Symbol.Labels c) = ([], some_after_type c)
some_tree Symbol.TypeEnd = None
some_tree Symbol.ArgumentName = some_path
