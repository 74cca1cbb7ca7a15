-- The notes that a reader finds are those of the trees.
use Rattle.std.proofs.Common.{◌≡◌, ℕ, Bool, cond, List, [], ◌∷◌, ◌++◌, map, Some, None, Option, sym, refl, ap, ◌∙◌}
use Rattle.types.specs.Types.{Name}
use Rattle.reader.specs.declared.class.Class.{Class}
use Rattle.reader.specs.declared.scope.Sort.{Sort}
use Rattle.reader.specs.declared.scope.Binder.{Binder}
use Rattle.reader.specs.declared.scope.Inherit.{Inherit}
use Rattle.reader.specs.declared.symbol.Symbol.{Symbol}
use Rattle.reader.specs.declared.symbol.TypeContext.{TypeContext}
use Rattle.reader.specs.declared.symbol.ModuleContext.{ModuleContext}
use Rattle.reader.specs.Tokens.{Token, class_of}
use Rattle.reader.specs.Syntax.{ModulePath, TypeTree, SignatureTree, SpecTrees, ModuleTree, UnitTree}
use Rattle.reader.specs.Grammar.{expand, find, ◌⇒◌}
use Rattle.reader.specs.Scopes.{Scope}
use Rattle.reader.specs.Streams.{Stream, finish, broken, next, tokens_in, in_front}
use Rattle.reader.specs.Notes.{Note, Around, deeper, scoped, entering, with, outermost, plain, naming, notes_tail, notes_names, notes_path, notes_labels, notes_type, notes_term, notes_atom, notes_signature, notes_specs, notes_arguments, notes_module, notes_items, notes_rank, notes_unit, notes_signature_text}
use Rattle.reader.specs.Annotate.{Attr, both, around, note_at, name_of, rules, introduces, entered, inherit, inherits, handed, top_of, below_top, proceed, annotate, with_places}
use Rattle.reader.specs.Print.{print_unit, print_signature_text}
use Rattle.reader.specs.Reading.{unit_start, signature_start}
use Rattle.reader.proofs.Loads.{Load, whole, class_whole, class_same}
use Rattle.reader.proofs.Shapes.{Tree, print, AfterType, AfterModule}
use Rattle.reader.proofs.Entries.{Trees, prints, Entry, entries, closed, enclosed, type_spec}
use Rattle.reader.proofs.Choosing.{In, here, there, Origin}
use Rattle.reader.proofs.Origins.{origin, entries_rows}
use Rattle.reader.proofs.Theory as theory

-- ---- the notes of each symbol's trees

abbrev notes_type_end : Around Scope → Option (TypeTree × ℕ) → List Note → List Note
notes_type_end a None rest = plain a ∷ rest
notes_type_end a (Some e) rest = plain a ∷ notes_type a e.0 (plain a ∷ plain a ∷ rest)

abbrev notes_module_end : Around Scope → Option SignatureTree → List Note → List Note
notes_module_end a None rest = plain a ∷ rest
notes_module_end a (Some s) rest = plain a ∷ notes_signature a s (plain a ∷ rest)

abbrev notes_after_type : (c : TypeContext) → Around Scope → AfterType c → List Note → List Note
notes_after_type TypeContext.Items a t rest = notes_items a t rest
notes_after_type TypeContext.Specs a t rest = notes_specs a t rest
notes_after_type TypeContext.Closed a t rest = plain a ∷ rest
notes_after_type TypeContext.Bracketed a t rest = notes_type_end a t rest

abbrev notes_after_module : (c : ModuleContext) → Around Scope → AfterModule c → List Note → List Note
notes_after_module ModuleContext.Items a t rest = notes_items a t rest
notes_after_module ModuleContext.Bracketed a t rest = notes_module_end a t rest

-- nothing, or `= type`
abbrev notes_definition : Around Scope → Option TypeTree → List Note → List Note
notes_definition a None rest = rest
notes_definition a (Some t) rest = plain a ∷ notes_type a t rest

abbrev notes_sym : (s : Symbol) → Attr Scope → Tree s → List Note → List Note
notes_sym (Symbol.Token c) a t rest = plain a.inner ∷ rest
notes_sym Symbol.«Unit» a t rest =
    plain a.inner ∷ plain a.inner ∷ plain a.inner ∷ plain (deeper 1 a.inner)
    ∷ notes_items (scoped 1 (with Binder.Itself [] a.inner) a.inner) t.items (notes_rank a.inner t.rank (plain a.inner ∷ rest))
notes_sym Symbol.UnitName a t rest = plain a.inner ∷ rest
notes_sym Symbol.UnitEnd a t rest = notes_rank a.inner t (plain a.inner ∷ rest)
notes_sym Symbol.RankValue a t rest = plain a.inner ∷ rest
notes_sym Symbol.Items a t rest = notes_items a.inner t rest
notes_sym Symbol.TypeItem a t rest =
    naming Sort.«Type» a.inner t.0 ∷ plain a.inner
    ∷ notes_type a.inner t.1.0 (notes_items (entering (with (Binder.Component Sort.«Type») t.0 a.inner) a.inner) t.1.1 rest)
notes_sym Symbol.ValueItem a t rest =
    naming Sort.Value a.inner t.0 ∷ plain a.inner
    ∷ notes_term a.inner t.1.0 (notes_items (entering (with (Binder.Component Sort.Value) t.0 a.inner) a.inner) t.1.1 rest)
notes_sym Symbol.ModuleItem a t rest =
    naming Sort.Module a.inner t.0 ∷ plain a.inner
    ∷ notes_module a.inner t.1.0 (notes_items (entering (with (Binder.Component Sort.Module) t.0 a.inner) a.inner) t.1.1 rest)
notes_sym (Symbol.Module c) a t rest = notes_module a.inner t.0 (notes_after_module c a.outer t.1 rest)
notes_sym (Symbol.Parameter c) a t rest =
    plain (deeper 2 a.inner) ∷ plain (deeper 2 a.inner)
    ∷ notes_signature (deeper 2 a.inner) t.1.0
    (plain (deeper 2 a.inner) ∷ plain (deeper 1 a.inner)
    ∷ notes_module (scoped 1 (with Binder.Parameter t.0 a.inner) a.inner) t.1.1.0 (notes_after_module c a.outer t.1.1.1 rest))
notes_sym (Symbol.«Path» c) a t rest =
    notes_names a.inner t.0 (notes_arguments a.inner t.1.0 (notes_after_module c a.outer t.1.1 rest))
notes_sym (Symbol.PathName c) a t rest =
    plain a.inner
    ∷ notes_names a.inner t.0.more (notes_arguments a.inner t.1.0 (notes_after_module c a.outer t.1.1 rest))
notes_sym (Symbol.Arguments c) a t rest = notes_arguments a.inner t.0 (notes_after_module c a.outer t.1 rest)
notes_sym Symbol.ModuleEnd a t rest = notes_module_end a.inner t rest
notes_sym Symbol.Argument a t rest = notes_path a.inner t (plain a.inner ∷ rest)
notes_sym Symbol.ArgumentEnd a t rest = notes_names a.inner t (plain a.inner ∷ rest)
notes_sym Symbol.Signature a t rest = notes_signature a.inner t rest
notes_sym Symbol.SignatureParameter a t rest =
    plain (deeper 2 a.inner) ∷ plain (deeper 2 a.inner)
    ∷ notes_signature (deeper 2 a.inner) t.1.0
    (plain (deeper 2 a.inner) ∷ plain (deeper 1 a.inner)
    ∷ notes_signature (scoped 1 (with Binder.Parameter t.0 a.inner) a.inner) t.1.1 rest)
notes_sym Symbol.Specs a t rest = notes_specs a.inner t rest
notes_sym Symbol.TypeSpec a t rest =
    naming Sort.«Type» a.inner t.0
    ∷ notes_definition a.inner t.1.0
    (notes_specs (entering (with (Binder.Component Sort.«Type») t.0 a.inner) a.inner) t.1.1 rest)
notes_sym Symbol.TypeSpecEnd a t rest = notes_definition a.inner t.0 (notes_specs a.outer t.1 rest)
notes_sym Symbol.ValueSpec a t rest =
    naming Sort.Value a.inner t.0 ∷ plain a.inner
    ∷ notes_type a.inner t.1.0 (notes_specs (entering (with (Binder.Component Sort.Value) t.0 a.inner) a.inner) t.1.1 rest)
notes_sym Symbol.ModuleSpec a t rest =
    naming Sort.Module a.inner t.0 ∷ plain a.inner
    ∷ notes_signature a.inner t.1.0 (notes_specs (entering (with (Binder.Component Sort.Module) t.0 a.inner) a.inner) t.1.1 rest)
notes_sym Symbol.Term a t rest = notes_term a.inner t rest
notes_sym Symbol.Variable a t rest =
    plain (deeper 2 a.inner) ∷ plain (deeper 2 a.inner)
    ∷ notes_type (deeper 2 a.inner) t.1.0
    (plain (deeper 2 a.inner) ∷ plain (deeper 1 a.inner)
    ∷ notes_term (scoped 1 (with Binder.Variable t.0 a.inner) a.inner) t.1.1 rest)
notes_sym Symbol.Atom a t rest = notes_atom a.inner t rest
notes_sym Symbol.PathEnd a t rest = notes_tail a.inner t rest
notes_sym (Symbol.«Type» c) a t rest = notes_type a.inner t.0 (notes_after_type c a.outer t.1 rest)
notes_sym (Symbol.Labels c) a t rest = notes_labels a.inner t.0 (notes_after_type c a.outer t.1 rest)
notes_sym Symbol.TypeEnd a t rest = notes_type_end a.inner t rest
notes_sym Symbol.ArgumentName a t rest = plain a.inner ∷ notes_names a.inner t.more (plain a.inner ∷ rest)

-- the notes of a stack's trees, one behind the other
abbrev notes_all : (σ : List Symbol) → List (Attr Scope) → Trees σ → List Note → List Note
notes_all [] attrs ts rest = rest
notes_all (s ∷ σ) attrs ts rest = notes_sym s (top_of attrs) ts.0 (notes_all σ (below_top attrs) ts.1 rest)

-- ---- each entry gives its token's note, and hands on what the rules say

closed_noted :
    (a : Around Scope) (m : ModuleTree) (o : Option SignatureTree) (ps : List ModulePath) (rest : List Note) →
    notes_module a (closed m o ps) rest
    ≡ plain (deeper 1 a) ∷ notes_module (deeper 1 a) m (notes_module_end (deeper 1 a) o (notes_arguments a ps rest))
closed_noted a m None ps rest = refl
closed_noted a m (Some s) ps rest = refl

enclosed_noted :
    (a : Around Scope) (t : TypeTree) (o : Option (TypeTree × ℕ)) (ls : List ℕ) (rest : List Note) →
    notes_type a (enclosed t o ls) rest
    ≡ plain (deeper 1 a) ∷ notes_type (deeper 1 a) t (notes_type_end (deeper 1 a) o (notes_labels a ls rest))
enclosed_noted a t None ls rest = refl
enclosed_noted a t (Some e) ls rest = refl

type_spec_noted :
    (a : Around Scope) (x : Name) (o : Option TypeTree) (more : SpecTrees) (rest : List Note) →
    notes_specs a (type_spec x o more) rest
    ≡ plain a ∷ naming Sort.«Type» a x
    ∷ notes_definition a o (notes_specs (entering (with (Binder.Component Sort.«Type») x a) a) more rest)
type_spec_noted a x None more rest = refl
type_spec_noted a x (Some u) more rest = refl

abbrev Noted : (s : Symbol) → Entry s → Type 0
Noted s e =
    (l : Load e.first) (ts : Trees e.after) (a : Attr Scope) (rest : List Note) →
    notes_sym s a (e.make l ts) rest
    ≡ note_at s e.first a (name_of (whole e.first l))
    ∷ notes_all e.after (handed s e.first a (name_of (whole e.first l)) e.after) ts rest

abbrev AllNoted : (s : Symbol) → List (Entry s) → Type 0
AllNoted s [] = Unit {0}
AllNoted s (e ∷ es) = Noted s e × AllNoted s es

noted : (s : Symbol) → AllNoted s (entries s)
noted (Symbol.Token c) = (λ l ts a rest. refl, tt)
noted Symbol.«Unit» = (λ l ts a rest. refl, tt)
noted Symbol.UnitName = (λ l ts a rest. refl, tt)
noted Symbol.UnitEnd = (λ l ts a rest. refl, (λ l ts a rest. refl, tt))
noted Symbol.RankValue = (λ l ts a rest. refl, tt)
noted Symbol.Items = (λ l ts a rest. refl, (λ l ts a rest. refl, (λ l ts a rest. refl, (λ l ts a rest. refl, tt))))
noted Symbol.TypeItem = (λ l ts a rest. refl, tt)
noted Symbol.ValueItem = (λ l ts a rest. refl, tt)
noted Symbol.ModuleItem = (λ l ts a rest. refl, tt)
noted (Symbol.Module ModuleContext.Items) = (λ l ts a rest. refl, (λ l ts a rest. refl, (λ l ts a rest. refl, (λ l ts a rest. closed_noted a.inner ts.0.0 ts.0.1 ts.1.0.0 _, tt))))
noted (Symbol.Module ModuleContext.Bracketed) = (λ l ts a rest. refl, (λ l ts a rest. refl, (λ l ts a rest. refl, (λ l ts a rest. closed_noted a.inner ts.0.0 ts.0.1 ts.1.0.0 _, tt))))
noted (Symbol.Parameter ModuleContext.Items) = (λ l ts a rest. refl, tt)
noted (Symbol.Parameter ModuleContext.Bracketed) = (λ l ts a rest. refl, tt)
noted (Symbol.«Path» ModuleContext.Items) = (λ l ts a rest. refl, (λ l ts a rest. refl, (λ l ts a rest. refl, (λ l ts a rest. refl, (λ l ts a rest. refl, (λ l ts a rest. refl, tt))))))
noted (Symbol.«Path» ModuleContext.Bracketed) = (λ l ts a rest. refl, (λ l ts a rest. refl, (λ l ts a rest. refl, (λ l ts a rest. refl, tt))))
noted (Symbol.PathName ModuleContext.Items) = (λ l ts a rest. refl, tt)
noted (Symbol.PathName ModuleContext.Bracketed) = (λ l ts a rest. refl, tt)
noted (Symbol.Arguments ModuleContext.Items) = (λ l ts a rest. refl, (λ l ts a rest. refl, (λ l ts a rest. refl, (λ l ts a rest. refl, (λ l ts a rest. refl, tt)))))
noted (Symbol.Arguments ModuleContext.Bracketed) = (λ l ts a rest. refl, (λ l ts a rest. refl, (λ l ts a rest. refl, tt)))
noted Symbol.ModuleEnd = (λ l ts a rest. refl, (λ l ts a rest. refl, tt))
noted Symbol.Argument = (λ l ts a rest. refl, tt)
noted Symbol.ArgumentEnd = (λ l ts a rest. refl, (λ l ts a rest. refl, tt))
noted Symbol.Signature = (λ l ts a rest. refl, (λ l ts a rest. refl, tt))
noted Symbol.SignatureParameter = (λ l ts a rest. refl, tt)
noted Symbol.Specs = (λ l ts a rest. refl, (λ l ts a rest. type_spec_noted a.inner ts.0.0 ts.0.1.0 ts.0.1.1 rest, (λ l ts a rest. refl, (λ l ts a rest. refl, tt))))
noted Symbol.TypeSpec = (λ l ts a rest. refl, tt)
noted Symbol.TypeSpecEnd = (λ l ts a rest. refl, (λ l ts a rest. refl, (λ l ts a rest. type_spec_noted a.outer ts.0.0 ts.0.1.0 ts.0.1.1 rest, (λ l ts a rest. refl, (λ l ts a rest. refl, tt)))))
noted Symbol.ValueSpec = (λ l ts a rest. refl, tt)
noted Symbol.ModuleSpec = (λ l ts a rest. refl, tt)
noted Symbol.Term = (λ l ts a rest. refl, (λ l ts a rest. refl, (λ l ts a rest. refl, (λ l ts a rest. refl, (λ l ts a rest. refl, (λ l ts a rest. refl, (λ l ts a rest. refl, (λ l ts a rest. refl, (λ l ts a rest. refl, (λ l ts a rest. refl, tt))))))))))
noted Symbol.Variable = (λ l ts a rest. refl, tt)
noted Symbol.Atom = (λ l ts a rest. refl, (λ l ts a rest. refl, (λ l ts a rest. refl, (λ l ts a rest. refl, (λ l ts a rest. refl, (λ l ts a rest. refl, tt))))))
noted Symbol.PathEnd = (λ l ts a rest. refl, (λ l ts a rest. refl, tt))
noted (Symbol.«Type» TypeContext.Items) = (λ l ts a rest. refl, (λ l ts a rest. refl, (λ l ts a rest. refl, (λ l ts a rest. enclosed_noted a.inner ts.0.0 ts.0.1 ts.1.0.0 _, tt))))
noted (Symbol.«Type» TypeContext.Specs) = (λ l ts a rest. refl, (λ l ts a rest. refl, (λ l ts a rest. refl, (λ l ts a rest. enclosed_noted a.inner ts.0.0 ts.0.1 ts.1.0.0 _, tt))))
noted (Symbol.«Type» TypeContext.Closed) = (λ l ts a rest. refl, (λ l ts a rest. refl, (λ l ts a rest. refl, (λ l ts a rest. enclosed_noted a.inner ts.0.0 ts.0.1 ts.1.0.0 _, tt))))
noted (Symbol.«Type» TypeContext.Bracketed) = (λ l ts a rest. refl, (λ l ts a rest. refl, (λ l ts a rest. refl, (λ l ts a rest. enclosed_noted a.inner ts.0.0 ts.0.1 ts.1.0.0 _, tt))))
noted (Symbol.Labels TypeContext.Items) = (λ l ts a rest. refl, (λ l ts a rest. refl, (λ l ts a rest. refl, (λ l ts a rest. refl, (λ l ts a rest. refl, tt)))))
noted (Symbol.Labels TypeContext.Specs) = (λ l ts a rest. refl, (λ l ts a rest. refl, (λ l ts a rest. type_spec_noted a.outer ts.0.0 ts.0.1.0 ts.0.1.1 rest, (λ l ts a rest. refl, (λ l ts a rest. refl, tt)))))
noted (Symbol.Labels TypeContext.Closed) = (λ l ts a rest. refl, (λ l ts a rest. refl, tt))
noted (Symbol.Labels TypeContext.Bracketed) = (λ l ts a rest. refl, (λ l ts a rest. refl, (λ l ts a rest. refl, tt)))
noted Symbol.TypeEnd = (λ l ts a rest. refl, (λ l ts a rest. refl, tt))
noted Symbol.ArgumentName = (λ l ts a rest. refl, tt)

noted_in : (s : Symbol) (es : List (Entry s)) → AllNoted s es → (e : Entry s) → In e es → Noted s e
noted_in s es h e here = h.0
noted_in s es h e (there {es = xs} d i) = noted_in s xs h.1 e i

-- ---- the table finds the entry

find_in : {s : Symbol} (e : Entry s) (es : List (Entry s)) → In e es → find e.first (map (λ (x : Entry s). x.first ⇒ x.after) es) ≡ Some e.after
find_in {s} e es (here {es = xs}) =
    ap (λ (b : Bool). cond b (Some e.after) (find e.first (map (λ (x : Entry s). x.first ⇒ x.after) xs))) (class_same e.first e.first refl)
find_in {s} e es (there {x = y} {es = xs} d i) =
    ap (λ (b : Bool). cond b (Some y.after) (find e.first (map (λ (x : Entry s). x.first ⇒ x.after) xs))) d ∙ find_in e xs i

-- ---- the notes of a stack

notes_join :
    (α σ : List Symbol) (rs : List Inherit) (a : Attr Scope) (x : Around Scope) (new : Scope) (below : List (Attr Scope))
    (us : Trees α) (vs : Trees σ) (rest : List Note) →
    notes_all (α ++ σ) (inherits α rs a x new ++ below) (theory.join Token Symbol Tree print α σ us vs) rest
    ≡ notes_all α (inherits α rs a x new) us (notes_all σ below vs rest)
notes_join [] σ rs a x new below us vs rest = refl
notes_join (s ∷ α) σ [] a x new below us vs rest =
    ap (notes_sym s (both x) us.0) (notes_join α σ [] a x new below us.1 vs rest)
notes_join (s ∷ α) σ (r ∷ rs) a x new below us vs rest =
    ap (notes_sym s (inherit r a x new) us.0) (notes_join α σ rs a x new below us.1 vs rest)

next_step :
    (s : Symbol) (σ : List Symbol) (attrs : List (Attr Scope)) (k : Token) (p : ℕ) (st : Stream) (c : Class) (α : List Symbol) →
    class_of k ≡ c → expand s c ≡ Some α →
    annotate (s ∷ σ) attrs (next k p st)
    ≡ (note_at s c (top_of attrs) (name_of k), p)
    ∷ annotate (α ++ σ) (handed s c (top_of attrs) (name_of k) α ++ below_top attrs) st
next_step s σ attrs k p st c α e x =
    ap (λ (d : Class). (note_at s d (top_of attrs) (name_of k), p)
    ∷ proceed (expand s d) (λ after. annotate (after ++ σ) (handed s d (top_of attrs) (name_of k) after ++ below_top attrs) st)) e
    ∙ ap (λ (o : Option (List Symbol)). (note_at s c (top_of attrs) (name_of k), p)
    ∷ proceed o (λ after. annotate (after ++ σ) (handed s c (top_of attrs) (name_of k) after ++ below_top attrs) st)) x

some_some : {X : Type 0} {x y : X} → Some x ≡ Some y → x ≡ y
some_some e = cc

none_some : {X : Type 0} {x : X} → None ≡ Some x → ⊥
none_some e = cc

cons_head : {X : Type 0} {x y : X} {xs ys : List X} → x ∷ xs ≡ y ∷ ys → x ≡ y
cons_head e = cc

cons_tail : {X : Type 0} {x y : X} {xs ys : List X} → x ∷ xs ≡ y ∷ ys → xs ≡ ys
cons_tail e = cc

cons_nil : {X : Type 0} {x : X} {xs : List X} → x ∷ xs ≡ [] → ⊥
cons_nil e = cc

front_is : (k k' : Token) (ks : List Token) (o : Option (List Token)) → in_front k o ≡ Some (k' ∷ ks) → (k ≡ k') × (o ≡ Some ks)
front_is k k' ks None e = absurd (none_some e)
front_is k k' ks (Some xs) e = (cons_head (some_some e), ap Some (cons_tail (some_some e)))

front_never : (k : Token) (o : Option (List Token)) → in_front k o ≡ Some [] → ⊥
front_never k None e = none_some e
front_never k (Some xs) e = cons_nil (some_some e)

-- a tree by its entry: its print, its notes, and what the table says
module _ (s : Symbol) (t : Tree s) (o : Origin s (entries s) t) where
  abbrev token_of : Token
  token_of = whole o.entry.first o.holds

  print_is : (rest : List Token) → print s t rest ≡ token_of ∷ prints o.entry.after o.parts rest
  print_is rest = ap (λ (u : Tree s). print s u rest) (sym o.made) ∙ o.entry.shown o.holds o.parts rest

  notes_are :
      (a : Attr Scope) (rest : List Note) →
      notes_sym s a t rest
      ≡ note_at s o.entry.first a (name_of token_of)
      ∷ notes_all o.entry.after (handed s o.entry.first a (name_of token_of) o.entry.after) o.parts rest
  notes_are a rest =
      ap (λ (u : Tree s). notes_sym s a u rest) (sym o.made)
      ∙ noted_in s (entries s) (noted s) o.entry o.is_in o.holds o.parts a rest

  table_is : expand s o.entry.first ≡ Some o.entry.after
  table_is = ap (find o.entry.first) (sym (entries_rows s)) ∙ find_in o.entry (entries s) o.is_in

pub annotated :
    (st : Stream) (σ : List Symbol) (attrs : List (Attr Scope)) (vs : Trees σ) → tokens_in st ≡ Some (prints σ vs []) →
    annotate σ attrs st ≡ with_places (notes_all σ attrs vs []) st
annotated (finish p) [] attrs vs e = refl
annotated (broken p) [] attrs vs e = refl
annotated (next k p st) [] attrs vs e = refl
annotated (broken p) (s ∷ σ) attrs vs e = absurd (none_some e)
annotated (finish p) (s ∷ σ) attrs vs e =
    let o = origin s vs.0 in
    let k = cons_head (some_some e ∙ print_is s vs.0 o (prints σ vs.1 [])) in
    let c : Class.TextEnd ≡ o.entry.first = ap class_of k ∙ class_whole o.entry.first o.holds in
    ap (λ (d : Class). (note_at s d (top_of attrs) [], p) ∷ []) c
    ∙ ap (λ (x : Token). (note_at s o.entry.first (top_of attrs) (name_of x), p) ∷ []) k
    ∙ ap (λ (ns : List Note). with_places ns (finish p)) (sym (notes_are s vs.0 o (top_of attrs) (notes_all σ (below_top attrs) vs.1 [])))
annotated (next k p st) (s ∷ σ) attrs vs e =
    let o = origin s vs.0 in
    let α : List Symbol = o.entry.after in
    let f = front_is k (token_of s vs.0 o) (prints α o.parts (prints σ vs.1 [])) (tokens_in st)
    (e ∙ ap Some (print_is s vs.0 o (prints σ vs.1 []))) in
    let c : class_of k ≡ o.entry.first = ap class_of f.0 ∙ class_whole o.entry.first o.holds in
    let ih = annotated st (α ++ σ) (handed s o.entry.first (top_of attrs) (name_of k) α ++ below_top attrs)
    (theory.join Token Symbol Tree print α σ o.parts vs.1)
    (f.1 ∙ ap Some (sym (theory.prints_join Token Symbol Tree print α σ o.parts vs.1 []))) in
    let j = notes_join α σ (rules s o.entry.first) (top_of attrs) (around s o.entry.first (top_of attrs))
    (entered (introduces s o.entry.first) (name_of k) (around s o.entry.first (top_of attrs)).scope) (below_top attrs) o.parts vs.1 [] in
    next_step s σ attrs k p st o.entry.first α c (table_is s vs.0 o)
    ∙ ap (λ (ns : List (Note × ℕ)). (note_at s o.entry.first (top_of attrs) (name_of k), p) ∷ ns)
    (ih ∙ ap (λ (ns : List Note). with_places ns st) j)
    ∙ ap (λ (x : Token). with_places (note_at s o.entry.first (top_of attrs) (name_of x)
    ∷ notes_all α (handed s o.entry.first (top_of attrs) (name_of x) α) o.parts (notes_all σ (below_top attrs) vs.1 [])) (next k p st)) f.0
    ∙ ap (λ (ns : List Note). with_places ns (next k p st)) (sym (notes_are s vs.0 o (top_of attrs) (notes_all σ (below_top attrs) vs.1 [])))

-- a unit's notes, and a signature's
pub unit_annotated :
    (st : Stream) (u : UnitTree) → tokens_in st ≡ Some (print_unit u) →
    annotate unit_start (both outermost ∷ []) st ≡ with_places (notes_unit u) st
unit_annotated st u e = annotated st unit_start (both outermost ∷ []) (u, tt) e

pub signature_annotated :
    (st : Stream) (t : SignatureTree) → tokens_in st ≡ Some (print_signature_text t) →
    annotate signature_start (both outermost ∷ both outermost ∷ []) st ≡ with_places (notes_signature_text t) st
signature_annotated st t e = annotated st signature_start (both outermost ∷ both outermost ∷ []) (t, (tt, tt)) e
