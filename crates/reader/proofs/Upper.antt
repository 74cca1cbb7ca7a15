-- A head that names a unit is an upper name, which the lexer finds again at its place.
use Rattle.std.proofs.Common.{◌≡◌, ℕ, zero, suc, ◌+◌, ◌<◌, Bool, true, false, cond, ◌&&◌, leb, List, [], ◌∷◌, ◌++◌, map, length, get_or, drop, Some, None, Option, sym, refl, ap, ◌∙◌, arith}
use Rattle.std.proofs.lemmas.List.{drop-drop}
use Rattle.tokens.specs.Lexer.{Next, at_end, token, no_token, piece, found, next_from, next_token, token_front}
use Rattle.tokens.specs.Pieces.{Piece, written}
use Rattle.tokens.proofs.Unique.{not_blank}
use Rattle.tokens.proofs.Walk.{advance}
use Rattle.types.specs.Types.{Name}
use Rattle.cores.specs.Meaning.{Word}
use Rattle.reader.specs.declared.class.Class.{Class}
use Rattle.reader.specs.declared.scope.Sort.{Sort}
use Rattle.reader.specs.declared.scope.PathHead.{PathHead}
use Rattle.reader.specs.declared.symbol.Symbol.{Symbol}
use Rattle.reader.specs.Tokens.{Token, upper, class_of, token_of}
use Rattle.reader.specs.Grammar.{expand}
use Rattle.reader.specs.Scopes.{Scope, Resolution, component, bound, nowhere, seek}
use Rattle.reader.specs.Streams.{Stream, finish, broken, next, ahead, stream_from}
use Rattle.reader.specs.Notes.{Note, lower_head}
use Rattle.reader.specs.Annotate.{Attr, is, around, head_kind, path_head, module_head, head_of, is_unit, names_unit, unit_places, name_of, note_at, handed, top_of, below_top, proceed, annotate, first_where, with_places}
use Rattle.reader.specs.Answers.{upper_at}
use Rattle.reader.specs.Mentions.{mentions_in, first_from, name_from, name_alone, head_name}
use Rattle.reader.proofs.Choosing.{loaded}
use Rattle.reader.proofs.Means.{upper_piece_lem}
use Rattle.reader.proofs.Places.{stand_of}

false_true : false ≡ true → ⊥
false_true e = cc

-- ---- the lexer finds a token again at its place

nothing_there : (p : Piece) → token_front [] ≡ piece p → ⊥
nothing_there p e = cc

found_at : (at : ℕ) (bs : List ℕ) (p : Piece) → token_front bs ≡ piece p → next_from at bs ≡ token p at (at + length (written p))
found_at at [] p e = absurd (nothing_there p e)
found_at at (b ∷ bs) p e =
    ap (λ (t : Bool). cond t (next_from (suc at) bs) (found at (token_front (b ∷ bs)))) (not_blank (b ∷ bs) p e) ∙ ap (found at) e

found_again : (text : List ℕ) (from place end : ℕ) (p : Piece) → next_token text from ≡ token p place end → upper_at (next_token text place) ≡ upper_at (token p place end)
found_again text from place end p e =
    let s = stand_of from (drop from text) p place end e in
    let at : drop s.ahead (drop from text) ≡ drop place text =
    drop-drop s.ahead from text ∙ ap (λ (n : ℕ). drop n text) (sym s.there) in
    ap upper_at (found_at place (drop place text) p (ap token_front (sym at) ∙ s.front))

-- ---- a head that names a unit is an upper name

lower_no_unit : (r : Resolution) → is_unit (lower_head r) ≡ false
lower_no_unit (component n) = refl
lower_no_unit (bound n) = refl
lower_no_unit nowhere = refl

upper_only : (b : Bool) (x : Name) (scope : Scope) → is_unit (head_of (cond b (Some PathHead.Upper) None) x scope) ≡ true → b ≡ true
upper_only true x scope e = refl
upper_only false x scope e = e

path_upper : (s : Sort) (c : Class) (x : Name) (scope : Scope) → is_unit (head_of (path_head s c) x scope) ≡ true → is c Class.Upper ≡ true
path_upper s c x scope e = go (is c Class.Lower) e
  where
    go : (b : Bool) → is_unit (head_of (cond b (Some (PathHead.Lower s)) (cond (is c Class.Upper) (Some PathHead.Upper) None)) x scope) ≡ true → is c Class.Upper ≡ true
    go true h = absurd (false_true (sym (lower_no_unit (seek s x scope)) ∙ h))
    go false h = upper_only (is c Class.Upper) x scope h

module_upper : (c : Class) (x : Name) (scope : Scope) → is_unit (head_of (module_head c) x scope) ≡ true → is c Class.Upper ≡ true
module_upper c x scope e = upper_only (is c Class.Upper) x scope e

unit_upper : (s : Symbol) (c : Class) (x : Name) (scope : Scope) → is_unit (head_of (head_kind s c) x scope) ≡ true → is c Class.Upper ≡ true
unit_upper (Symbol.Token d) c x scope e = absurd (false_true e)
unit_upper Symbol.«Unit» c x scope e = absurd (false_true e)
unit_upper Symbol.UnitName c x scope e = absurd (false_true e)
unit_upper Symbol.UnitEnd c x scope e = absurd (false_true e)
unit_upper Symbol.RankValue c x scope e = absurd (false_true e)
unit_upper Symbol.Items c x scope e = absurd (false_true e)
unit_upper Symbol.TypeItem c x scope e = absurd (false_true e)
unit_upper Symbol.ValueItem c x scope e = absurd (false_true e)
unit_upper Symbol.ModuleItem c x scope e = absurd (false_true e)
unit_upper (Symbol.Module d) c x scope e = module_upper c x scope e
unit_upper (Symbol.Parameter d) c x scope e = absurd (false_true e)
unit_upper (Symbol.«Path» d) c x scope e = absurd (false_true e)
unit_upper (Symbol.PathName d) c x scope e = absurd (false_true e)
unit_upper (Symbol.Arguments d) c x scope e = absurd (false_true e)
unit_upper Symbol.ModuleEnd c x scope e = absurd (false_true e)
unit_upper Symbol.Argument c x scope e = module_upper c x scope e
unit_upper Symbol.ArgumentEnd c x scope e = absurd (false_true e)
unit_upper Symbol.Signature c x scope e = absurd (false_true e)
unit_upper Symbol.SignatureParameter c x scope e = absurd (false_true e)
unit_upper Symbol.Specs c x scope e = absurd (false_true e)
unit_upper Symbol.TypeSpec c x scope e = absurd (false_true e)
unit_upper Symbol.TypeSpecEnd c x scope e = absurd (false_true e)
unit_upper Symbol.ValueSpec c x scope e = absurd (false_true e)
unit_upper Symbol.ModuleSpec c x scope e = absurd (false_true e)
unit_upper Symbol.Term c x scope e = path_upper Sort.Value c x scope e
unit_upper Symbol.Variable c x scope e = absurd (false_true e)
unit_upper Symbol.Atom c x scope e = path_upper Sort.Value c x scope e
unit_upper Symbol.PathEnd c x scope e = absurd (false_true e)
unit_upper (Symbol.«Type» d) c x scope e = path_upper Sort.«Type» c x scope e
unit_upper (Symbol.Labels d) c x scope e = absurd (false_true e)
unit_upper Symbol.TypeEnd c x scope e = absurd (false_true e)
unit_upper Symbol.ArgumentName c x scope e = absurd (false_true e)

-- a token of that class is an upper name
upper_token : (k : Token) → is (class_of k) Class.Upper ≡ true → k ≡ upper (name_of k)
upper_token k e = let l = loaded k Class.Upper e in sym l.1 ∙ ap (λ (y : Name). upper y) (ap name_of l.1)

-- ---- mentions by the notes that the reader finds

abbrev pub mentions_of : List (Note × ℕ) → Stream → List (Name × ℕ)
mentions_of [] s = []
mentions_of (n ∷ ns) (finish p) = cond (is_unit n.0.head) (([], p) ∷ []) []
mentions_of (n ∷ ns) (broken p) = []
mentions_of (n ∷ ns) (next k p s) = cond (is_unit n.0.head) ((name_of k, p) ∷ mentions_of ns s) (mentions_of ns s)

pub mentions_same : (ns : List Note) (s : Stream) → mentions_of (with_places ns s) s ≡ mentions_in ns s
mentions_same [] s = refl
mentions_same (n ∷ ns) (finish p) = refl
mentions_same (n ∷ ns) (broken p) = refl
mentions_same (n ∷ ns) (next k p s) = ap (λ (ms : List (Name × ℕ)). cond (is_unit n.head) ((name_of k, p) ∷ ms) ms) (mentions_same ns s)

-- one token: its own mention, or the rest
step_first : (text : List ℕ) (from p : ℕ) (x : Name) (b : Bool) (rest : Option ℕ) (ms : List (Name × ℕ)) →
    (b ≡ true → upper_at (next_token text p) ≡ Some (x, p)) → name_from text rest ≡ first_from from ms →
    name_from text (cond (b && leb from p) (Some p) rest) ≡ first_from from (cond b ((x, p) ∷ ms) ms)
step_first text from p x false rest ms h ih = ih
step_first text from p x true rest ms h ih = go (leb from p)
  where
    go : (t : Bool) → name_from text (cond t (Some p) rest) ≡ cond t (Some (x, p)) (first_from from ms)
    go true = h refl
    go false = ih

last_none : (text : List ℕ) (from p : ℕ) (b : Bool) → b ≡ false → name_from text (cond (b && leb from p) (Some p) None) ≡ first_from from (cond b (([], p) ∷ []) [])
last_none text from p true e = absurd (false_true (sym e))
last_none text from p false e = refl

pub end_no_unit : (t : Symbol) (x : Name) (scope : Scope) (b : Bool) → is_unit (head_of (head_kind t Class.TextEnd) x scope) ≡ b → b ≡ false
end_no_unit t x scope true e = sym (unit_upper t Class.TextEnd x scope e)
end_no_unit t x scope false e = refl

-- what an upper token that names a unit is found to be
named_there :
    (ws : List Word) (text : List ℕ) (at place end : ℕ) (p : Piece) (t : Symbol) (a : Attr Scope) → next_token text at ≡ token p place end →
    is_unit (note_at t (class_of (token_of ws p)) a (name_of (token_of ws p))).head ≡ true →
    upper_at (next_token text place) ≡ Some (name_of (token_of ws p), place)
named_there ws text at place end p t a e u =
    let c = unit_upper t (class_of (token_of ws p)) (name_of (token_of ws p)) (around t (class_of (token_of ws p)) a).scope u in
    found_again text at place end p e ∙ upper_piece_lem ws p (name_of (token_of ws p)) place (upper_token (token_of ws p) c)

-- the name at the first place is the name of the first mention
abbrev pub First : List Word → List ℕ → ℕ → List Symbol → List (Attr Scope) → Stream → Type 0
First ws text from σ attrs s = name_from text (first_where (names_unit from) (annotate σ attrs s)) ≡ first_from from (mentions_of (annotate σ attrs s) s)

first_finish : (ws : List Word) (text : List ℕ) (from p : ℕ) (σ : List Symbol) (attrs : List (Attr Scope)) → First ws text from σ attrs (finish p)
first_finish ws text from p [] attrs = refl
first_finish ws text from p (t ∷ σ) attrs =
    let h = head_of (head_kind t Class.TextEnd) [] (around t Class.TextEnd (top_of attrs)).scope in
    last_none text from p (is_unit h) (end_no_unit t [] (around t Class.TextEnd (top_of attrs)).scope (is_unit h) refl)

first_next :
    (ws : List Word) (text : List ℕ) (from at place end : ℕ) (p : Piece) (s : Stream) → next_token text at ≡ token p place end →
    ((σ : List Symbol) (attrs : List (Attr Scope)) → First ws text from σ attrs s) →
    (σ : List Symbol) (attrs : List (Attr Scope)) → First ws text from σ attrs (next (token_of ws p) place s)
first_next ws text from at place end p s e ih [] attrs = refl
first_next ws text from at place end p s e ih (t ∷ σ) attrs =
    let k = token_of ws p in
    let ns : List (Note × ℕ) = proceed (expand t (class_of k)) (λ after. annotate (after ++ σ) (handed t (class_of k) (top_of attrs) (name_of k) after ++ below_top attrs) s) in
    step_first text from place (name_of k) (is_unit (note_at t (class_of k) (top_of attrs) (name_of k)).head) (first_where (names_unit from) ns) (mentions_of ns s)
    (named_there ws text at place end p t (top_of attrs) e) (go (expand t (class_of k)))
  where
    go : (o : Option (List Symbol)) →
        name_from text (first_where (names_unit from) (proceed o (λ after. annotate (after ++ σ) (handed t (class_of (token_of ws p)) (top_of attrs) (name_of (token_of ws p)) after ++ below_top attrs) s)))
        ≡ first_from from (mentions_of (proceed o (λ after. annotate (after ++ σ) (handed t (class_of (token_of ws p)) (top_of attrs) (name_of (token_of ws p)) after ++ below_top attrs) s)) s)
    go None = refl
    go (Some after) = ih (after ++ σ) (handed t (class_of (token_of ws p)) (top_of attrs) (name_of (token_of ws p)) after ++ below_top attrs)

first_broken : (ws : List Word) (text : List ℕ) (from p : ℕ) (σ : List Symbol) (attrs : List (Attr Scope)) → First ws text from σ attrs (broken p)
first_broken ws text from p [] attrs = refl
first_broken ws text from p (t ∷ σ) attrs = refl

pub name_of_first : (n : ℕ) (ws : List Word) (text : List ℕ) (at from : ℕ) (σ : List Symbol) (attrs : List (Attr Scope)) → First ws text from σ attrs (stream_from n ws text at)
name_of_first zero ws text at from σ attrs = first_finish ws text from (length text) σ attrs
name_of_first (suc n) ws text at from σ attrs = go (λ end τ bs. name_of_first n ws text end from τ bs) (next_token text at) refl
  where
    go : ((end : ℕ) (τ : List Symbol) (bs : List (Attr Scope)) → First ws text from τ bs (stream_from n ws text end)) →
        (x : Next) → next_token text at ≡ x → First ws text from σ attrs (ahead ws (length text) x (λ end. stream_from n ws text end))
    go ih at_end e = first_finish ws text from (length text) σ attrs
    go ih (token p place end) e = first_next ws text from at place end p (stream_from n ws text end) e (ih end) σ attrs
    go ih (no_token r place) e = first_broken ws text from place σ attrs

-- ---- all heads that name units

-- the places of the notes are those of the mentions
pub mention_places : (ns : List Note) (s : Stream) → unit_places (with_places ns s) ≡ map (λ (m : Name × ℕ). m.1) (mentions_in ns s)
mention_places [] s = refl
mention_places (n ∷ ns) (finish p) = go (is_unit n.head)
  where
    go : (b : Bool) → cond b (p ∷ []) [] ≡ map (λ (m : Name × ℕ). m.1) (cond b (([], p) ∷ []) [])
    go true = refl
    go false = refl
mention_places (n ∷ ns) (broken p) = refl
mention_places (n ∷ ns) (next k p s) = go (mention_places ns s) (is_unit n.head)
  where
    go : unit_places (with_places ns s) ≡ map (λ (m : Name × ℕ). m.1) (mentions_in ns s) → (b : Bool) →
        cond b (p ∷ unit_places (with_places ns s)) (unit_places (with_places ns s))
        ≡ map (λ (m : Name × ℕ). m.1) (cond b ((name_of k, p) ∷ mentions_in ns s) (mentions_in ns s))
    go ih true = ap (λ (ps : List ℕ). p ∷ ps) ih
    go ih false = ih

abbrev pub some_names : List (Name × ℕ) → List (Option Name)
some_names ms = map (λ (m : Name × ℕ). Some m.0) ms

-- one token: its own mention in front of the others
step_names : (text : List ℕ) (p : ℕ) (x : Name) (b : Bool) (ps : List ℕ) (ms : List (Name × ℕ)) →
    (b ≡ true → upper_at (next_token text p) ≡ Some (x, p)) → map (head_name text) ps ≡ some_names ms →
    map (head_name text) (cond b (p ∷ ps) ps) ≡ some_names (cond b ((x, p) ∷ ms) ms)
step_names text p x false ps ms h ih = ih
step_names text p x true ps ms h ih =
    ap (λ (o : Option (Name × ℕ)). name_alone o ∷ map (head_name text) ps) (h refl) ∙ ap (λ (os : List (Option Name)). Some x ∷ os) ih

last_unnamed : (text : List ℕ) (p : ℕ) (b : Bool) → b ≡ false → map (head_name text) (cond b (p ∷ []) []) ≡ some_names (cond b (([], p) ∷ []) [])
last_unnamed text p true e = absurd (false_true (sym e))
last_unnamed text p false e = refl

-- the names at the places are the names of the mentions
abbrev pub Named : List ℕ → List Symbol → List (Attr Scope) → Stream → Type 0
Named text σ attrs s = map (head_name text) (unit_places (annotate σ attrs s)) ≡ some_names (mentions_of (annotate σ attrs s) s)

named_finish : (text : List ℕ) (p : ℕ) (σ : List Symbol) (attrs : List (Attr Scope)) → Named text σ attrs (finish p)
named_finish text p [] attrs = refl
named_finish text p (t ∷ σ) attrs =
    let h = head_of (head_kind t Class.TextEnd) [] (around t Class.TextEnd (top_of attrs)).scope in
    last_unnamed text p (is_unit h) (end_no_unit t [] (around t Class.TextEnd (top_of attrs)).scope (is_unit h) refl)

named_next :
    (ws : List Word) (text : List ℕ) (at place end : ℕ) (p : Piece) (s : Stream) → next_token text at ≡ token p place end →
    ((σ : List Symbol) (attrs : List (Attr Scope)) → Named text σ attrs s) →
    (σ : List Symbol) (attrs : List (Attr Scope)) → Named text σ attrs (next (token_of ws p) place s)
named_next ws text at place end p s e ih [] attrs = refl
named_next ws text at place end p s e ih (t ∷ σ) attrs =
    let k = token_of ws p in
    let ns : List (Note × ℕ) = proceed (expand t (class_of k))
    (λ after. annotate (after ++ σ) (handed t (class_of k) (top_of attrs) (name_of k) after ++ below_top attrs) s) in
    step_names text place (name_of k) (is_unit (note_at t (class_of k) (top_of attrs) (name_of k)).head) (unit_places ns) (mentions_of ns s)
    (named_there ws text at place end p t (top_of attrs) e) (go (expand t (class_of k)))
  where
    go : (o : Option (List Symbol)) →
        map (head_name text) (unit_places (proceed o (λ after. annotate (after ++ σ)
        (handed t (class_of (token_of ws p)) (top_of attrs) (name_of (token_of ws p)) after ++ below_top attrs) s)))
        ≡ some_names (mentions_of (proceed o (λ after. annotate (after ++ σ)
        (handed t (class_of (token_of ws p)) (top_of attrs) (name_of (token_of ws p)) after ++ below_top attrs) s)) s)
    go None = refl
    go (Some after) = ih (after ++ σ) (handed t (class_of (token_of ws p)) (top_of attrs) (name_of (token_of ws p)) after ++ below_top attrs)

named_broken : (text : List ℕ) (p : ℕ) (σ : List Symbol) (attrs : List (Attr Scope)) → Named text σ attrs (broken p)
named_broken text p [] attrs = refl
named_broken text p (t ∷ σ) attrs = refl

pub names_there : (n : ℕ) (ws : List Word) (text : List ℕ) (at : ℕ) (σ : List Symbol) (attrs : List (Attr Scope)) → Named text σ attrs (stream_from n ws text at)
names_there zero ws text at σ attrs = named_finish text (length text) σ attrs
names_there (suc n) ws text at σ attrs = go (λ end τ bs. names_there n ws text end τ bs) (next_token text at) refl
  where
    go : ((end : ℕ) (τ : List Symbol) (bs : List (Attr Scope)) → Named text τ bs (stream_from n ws text end)) →
        (x : Next) → next_token text at ≡ x → Named text σ attrs (ahead ws (length text) x (λ end. stream_from n ws text end))
    go ih at_end e = named_finish text (length text) σ attrs
    go ih (token p place end) e = named_next ws text at place end p (stream_from n ws text end) e (ih end) σ attrs
    go ih (no_token r place) e = named_broken text place σ attrs

-- ---- where a name comes next the text goes on

name_inside : (text : List ℕ) (p : ℕ) (x : Name) → head_name text p ≡ Some x → p < length text
name_inside text p x e = go (next_token text p) refl e
  where
    go : (n : Next) → next_token text p ≡ n → name_alone (upper_at n) ≡ Some x → p < length text
    go at_end is e = cc
    go (token q place end) is e = let a = advance text p place end q is in omega (arith, a.forward, a.inside)
    go (no_token r place) is e = cc

first_same : {X : Type 0} {x y : X} {xs ys : List X} → x ∷ xs ≡ y ∷ ys → x ≡ y
first_same e = cc

rest_same : {X : Type 0} {x y : X} {xs ys : List X} → x ∷ xs ≡ y ∷ ys → xs ≡ ys
rest_same e = cc

pub names_inside : (text ps : List ℕ) (ms : List (Name × ℕ)) → map (head_name text) ps ≡ some_names ms → (i : ℕ) → i < length ps → get_or ps i 0 < length text
names_inside text [] ms e i h = absurd (omega arith)
names_inside text (p ∷ ps) [] e i h = cc
names_inside text (p ∷ ps) (m ∷ ms) e zero h = name_inside text p m.0 (first_same e)
names_inside text (p ∷ ps) (m ∷ ms) e (suc i) h = names_inside text ps ms (rest_same e) i (omega arith)
