-- The turns of the second pass.
use Rattle.std.proofs.Common.{◌≡◌, ℕ, zero, suc, ◌+◌, ◌*◌, ◌<◌, ◌≤◌, Bool, true, false, cond, List, [], ◌∷◌, ◌++◌, length, Some, None, Option, sym, refl, ap, ◌∙◌, subst, append_assoc, arith}
use Rattle.tokens.specs.Lexer.{Next, at_end, token, next_token}
use Rattle.tokens.specs.Pieces.{Piece}
use Rattle.tokens.proofs.Walk.{advance}
use Rattle.types.specs.Types.{Name}
use Rattle.cores.specs.Meaning.{Word}
use Rattle.reader.specs.declared.class.Class.{Class}
use Rattle.reader.specs.declared.notes.Firsts.{Firsts}
use Rattle.reader.specs.declared.scope.Inherit.{Inherit}
use Rattle.reader.specs.declared.symbol.Symbol.{Symbol}
use Rattle.reader.specs.Tokens.{Token, class_of, token_of}
use Rattle.reader.specs.Grammar.{expand}
use Rattle.reader.specs.Scopes.{Scope}
use Rattle.reader.specs.Streams.{ahead, stream_from}
use Rattle.reader.specs.Notes.{Note, Around}
use Rattle.reader.specs.Annotate.{Attr, both, is_outside, around, name_of, note_at, rules, introduces, entered, inherit, inherits, handed, proceed, annotate, is_too_deep, is_again, is_undeclared, is_unit, names_unit, first_where, unit_places}
use Rattle.reader.specs.Rows.{scope_of, part_of}
use Rattle.reader.specs.Firsts.{first_of, listed, EnteredRow}

-- ---- scopes by numbers and scopes

abbrev pub map_around : (ℕ → Scope) → Around ℕ → Around Scope
map_around D x = record { opened = x.opened; scope = D x.scope }

abbrev pub map_attr : (ℕ → Scope) → Attr ℕ → Attr Scope
map_attr D a = record { inner = map_around D a.inner; outer = map_around D a.outer }

abbrev pub map_attrs : (ℕ → Scope) → List (Attr ℕ) → List (Attr Scope)
map_attrs D [] = []
map_attrs D (a ∷ attrs) = map_attr D a ∷ map_attrs D attrs

maps_append : (D : ℕ → Scope) (xs ys : List (Attr ℕ)) → map_attrs D (xs ++ ys) ≡ map_attrs D xs ++ map_attrs D ys
maps_append D [] ys = refl
maps_append D (x ∷ xs) ys = ap (λ (z : List (Attr Scope)). map_attr D x ∷ z) (maps_append D xs ys)

pub around_map : (D : ℕ → Scope) (s : Symbol) (c : Class) (a : Attr ℕ) → around s c (map_attr D a) ≡ map_around D (around s c a)
around_map D s c a = go (is_outside s c)
  where
    go : (b : Bool) → cond b (map_around D a.outer) (map_around D a.inner) ≡ map_around D (cond b a.outer a.inner)
    go true = refl
    go false = refl

inherit_map : (D : ℕ → Scope) (r : Inherit) (a : Attr ℕ) (x : Around ℕ) (new : ℕ) →
    map_attr D (inherit r a x new) ≡ inherit r (map_attr D a) (map_around D x) (D new)
inherit_map D Inherit.Here a x new = refl
inherit_map D Inherit.Same a x new = refl
inherit_map D Inherit.Inside a x new = refl
inherit_map D Inherit.Bracket a x new = refl
inherit_map D Inherit.Entered a x new = refl
inherit_map D Inherit.Opened a x new = refl
inherit_map D Inherit.Declared a x new = refl
inherit_map D Inherit.Body a x new = refl

inherits_map : (D : ℕ → Scope) (after : List Symbol) (rs : List Inherit) (a : Attr ℕ) (x : Around ℕ) (new : ℕ) →
    map_attrs D (inherits after rs a x new) ≡ inherits after rs (map_attr D a) (map_around D x) (D new)
inherits_map D [] rs a x new = refl
inherits_map D (s ∷ after) [] a x new = ap (λ (z : List (Attr Scope)). both (map_around D x) ∷ z) (inherits_map D after [] a x new)
inherits_map D (s ∷ after) (r ∷ rs) a x new =
    ap (λ (z : Attr Scope). z ∷ map_attrs D (inherits after rs a x new)) (inherit_map D r a x new)
    ∙ ap (λ (z : List (Attr Scope)). inherit r (map_attr D a) (map_around D x) (D new) ∷ z) (inherits_map D after rs a x new)

-- ---- numbers that stay small

abbrev pub SmallPlace : ℕ → ℕ → Around ℕ → Type 0
SmallPlace count limit x = (x.scope ≤ count) × (x.opened ≤ limit)

abbrev pub SmallAttr : ℕ → ℕ → Attr ℕ → Type 0
SmallAttr count limit a = SmallPlace count limit a.inner × SmallPlace count limit a.outer

abbrev pub Small : ℕ → ℕ → List (Attr ℕ) → Type 0
Small count limit [] = Unit {0}
Small count limit (a ∷ attrs) = SmallAttr count limit a × Small count limit attrs

small_more : (count count' limit limit' : ℕ) (attrs : List (Attr ℕ)) → count ≤ count' → limit ≤ limit' → Small count limit attrs → Small count' limit' attrs
small_more count count' limit limit' [] p q h = tt
small_more count count' limit limit' (a ∷ attrs) p q h =
    (((omega arith, omega arith), (omega arith, omega arith)), small_more count count' limit limit' attrs p q h.1)

small_append : (count limit : ℕ) (xs ys : List (Attr ℕ)) → Small count limit xs → Small count limit ys → Small count limit (xs ++ ys)
small_append count limit [] ys h k = k
small_append count limit (x ∷ xs) ys h k = (h.0, small_append count limit xs ys h.1 k)

pub small_around : (count limit : ℕ) (s : Symbol) (c : Class) (a : Attr ℕ) → SmallAttr count limit a → SmallPlace count limit (around s c a)
small_around count limit s c a h = go (is_outside s c)
  where
    go : (b : Bool) → SmallPlace count limit (cond b a.outer a.inner)
    go true = h.1
    go false = h.0

small_inherit : (count count' limit new : ℕ) (r : Inherit) (a : Attr ℕ) (x : Around ℕ) → count ≤ count' → new ≤ count' →
    SmallAttr count limit a → SmallPlace count limit x → SmallAttr count' (limit + 2) (inherit r a x new)
small_inherit count count' limit new Inherit.Here a x p q h k = ((omega arith, omega arith), (omega arith, omega arith))
small_inherit count count' limit new Inherit.Same a x p q h k = ((omega arith, omega arith), (omega arith, omega arith))
small_inherit count count' limit new Inherit.Inside a x p q h k = ((omega arith, omega arith), (omega arith, omega arith))
small_inherit count count' limit new Inherit.Bracket a x p q h k = ((omega arith, omega arith), (omega arith, omega arith))
small_inherit count count' limit new Inherit.Entered a x p q h k = ((omega arith, omega arith), (omega arith, omega arith))
small_inherit count count' limit new Inherit.Opened a x p q h k = ((omega arith, omega arith), (omega arith, omega arith))
small_inherit count count' limit new Inherit.Declared a x p q h k = ((omega arith, omega arith), (omega arith, omega arith))
small_inherit count count' limit new Inherit.Body a x p q h k = ((omega arith, omega arith), (omega arith, omega arith))

small_inherits : (count count' limit new : ℕ) (after : List Symbol) (rs : List Inherit) (a : Attr ℕ) (x : Around ℕ) → count ≤ count' → new ≤ count' →
    SmallAttr count limit a → SmallPlace count limit x → Small count' (limit + 2) (inherits after rs a x new)
small_inherits count count' limit new [] rs a x p q h k = tt
small_inherits count count' limit new (s ∷ after) [] a x p q h k =
    (((omega arith, omega arith), (omega arith, omega arith)), small_inherits count count' limit new after [] a x p q h k)
small_inherits count count' limit new (s ∷ after) (r ∷ rs) a x p q h k =
    (small_inherit count count' limit new r a x p q h k, small_inherits count count' limit new after rs a x p q h k)

-- scopes that are kept
kept_attr : (D D' : ℕ → Scope) (count limit : ℕ) (a : Attr ℕ) → ((i : ℕ) → i ≤ count → D' i ≡ D i) → SmallAttr count limit a → map_attr D' a ≡ map_attr D a
kept_attr D D' count limit a kept h =
    λ k. record {
      inner = record { opened = a.inner.opened; scope = kept a.inner.scope h.0.0 k };
      outer = record { opened = a.outer.opened; scope = kept a.outer.scope h.1.0 k };
    }

kept_attrs : (D D' : ℕ → Scope) (count limit : ℕ) (attrs : List (Attr ℕ)) → ((i : ℕ) → i ≤ count → D' i ≡ D i) → Small count limit attrs →
    map_attrs D' attrs ≡ map_attrs D attrs
kept_attrs D D' count limit [] kept h = refl
kept_attrs D D' count limit (a ∷ attrs) kept h =
    ap (λ (z : Attr Scope). z ∷ map_attrs D' attrs) (kept_attr D D' count limit a kept h.0)
    ∙ ap (λ (z : List (Attr Scope)). map_attr D a ∷ z) (kept_attrs D D' count limit attrs kept h.1)

-- ---- the first bad place

abbrev pub or_else : Option ℕ → Option ℕ → Option ℕ
or_else None rest = rest
or_else (Some p) rest = Some p

or_step : (test : Note × ℕ → Bool) (old : Option ℕ) (n : Note) (p : ℕ) (ns : List (Note × ℕ)) →
    or_else (first_of old (test (n, p)) p) (first_where test ns) ≡ or_else old (first_where test ((n, p) ∷ ns))
or_step test (Some q) n p ns = refl
or_step test None n p ns = go (test (n, p))
  where
    go : (b : Bool) → or_else (cond b (Some p) None) (first_where test ns) ≡ cond b (Some p) (first_where test ns)
    go true = refl
    go false = refl

-- a first place goes on
first_goes : (test : Note × ℕ → Bool) (old new : Option ℕ) (n : Note) (p : ℕ) → new ≡ first_of old (test (n, p)) p →
    (ns : List (Note × ℕ)) → or_else new (first_where test ns) ≡ or_else old (first_where test ((n, p) ∷ ns))
first_goes test old new n p e ns = ap (λ (o : Option ℕ). or_else o (first_where test ns)) e ∙ or_step test old n p ns

-- the places of heads go on
heads_go : (hs hs' : List ℕ) (n : Note) (p : ℕ) → hs' ≡ listed hs (is_unit n.head) p →
    (ns : List (Note × ℕ)) → hs' ++ unit_places ns ≡ hs ++ unit_places ((n, p) ∷ ns)
heads_go hs hs' n p e ns = ap (λ (x : List ℕ). x ++ unit_places ns) e ∙ go (is_unit n.head)
  where
    go : (b : Bool) → listed hs b p ++ unit_places ns ≡ hs ++ cond b (p ∷ unit_places ns) (unit_places ns)
    go true = append_assoc hs (p ∷ []) (unit_places ns)
    go false = refl

-- ---- the state of the second pass

pub record Noting (ws : List Word) (text : List ℕ) (asked : ℕ) (all : List (Note × ℕ)) (σ : List Symbol) (attrs : List (Attr ℕ)) (row : List ℕ) (count from : ℕ) (f : Firsts)
    (hs : List ℕ) : Type 0 where
  pub fuel : ℕ
  pub enough : length text < fuel + from
  pub deep : or_else f.deep (first_where is_too_deep (annotate σ (map_attrs (scope_of row text) attrs) (stream_from fuel ws text from))) ≡ first_where is_too_deep all
  pub again : or_else f.again (first_where is_again (annotate σ (map_attrs (scope_of row text) attrs) (stream_from fuel ws text from))) ≡ first_where is_again all
  pub missing : or_else f.missing (first_where is_undeclared (annotate σ (map_attrs (scope_of row text) attrs) (stream_from fuel ws text from))) ≡ first_where is_undeclared all
  pub mention : or_else f.mention (first_where (names_unit asked) (annotate σ (map_attrs (scope_of row text) attrs) (stream_from fuel ws text from))) ≡ first_where (names_unit asked) all
  pub heads : hs ++ unit_places (annotate σ (map_attrs (scope_of row text) attrs) (stream_from fuel ws text from)) ≡ unit_places all
  pub small : Small count (2 * from) attrs
  pub few : count ≤ from

-- what a token's note says of the first places
pub record FirstsAfter (asked : ℕ) (old new : Firsts) (n : Note) (p : ℕ) : Type 0 where
  pub deep : new.deep ≡ first_of old.deep (is_too_deep (n, p)) p
  pub again : new.again ≡ first_of old.again (is_again (n, p)) p
  pub missing : new.missing ≡ first_of old.missing (is_undeclared (n, p)) p
  pub mention : new.mention ≡ first_of old.mention (names_unit asked (n, p)) p

module _ (ws : List Word) (text : List ℕ) (asked : ℕ) (all : List (Note × ℕ)) (t : Symbol) (σ : List Symbol) (a : Attr ℕ) (attrs : List (Attr ℕ))
    (row : List ℕ) (count from : ℕ) (f : Firsts) (hs : List ℕ) (s : Noting ws text asked all (t ∷ σ) (a ∷ attrs) row count from f hs) (inside : from ≤ length text) where
  abbrev D : ℕ → Scope
  D i = scope_of row text i

  step_of : (n : ℕ) → length text < n + from → (m : ℕ) × (n ≡ suc m)
  step_of zero h = absurd (omega arith)
  step_of (suc m) h = (m, refl)

  -- what is left to be noted, by what comes next
  left_by : {Y : Type 0} (G : List (Note × ℕ) → Y) (y : Y) (m : ℕ) (x : Next) → s.fuel ≡ suc m → next_token text from ≡ x →
      G (annotate (t ∷ σ) (map_attr D a ∷ map_attrs D attrs) (stream_from s.fuel ws text from)) ≡ y →
      G (annotate (t ∷ σ) (map_attr D a ∷ map_attrs D attrs) (ahead ws (length text) x (λ end. stream_from m ws text end))) ≡ y
  left_by G y m x e n h =
      ap (λ (z : Next). G (annotate (t ∷ σ) (map_attr D a ∷ map_attrs D attrs) (ahead ws (length text) z (λ end. stream_from m ws text end)))) (sym n)
      ∙ subst (λ (k : ℕ). G (annotate (t ∷ σ) (map_attr D a ∷ map_attrs D attrs) (stream_from k ws text from)) ≡ y) e h

  module _ (p : Piece) (place end : ℕ) (found : next_token text from ≡ token p place end) (α : List Symbol)
      (x : Around ℕ) (row' : List ℕ) (b e new count' : ℕ) (f' : Firsts) (hs' : List ℕ)
      (expands : expand t (class_of (token_of ws p)) ≡ Some α) (surrounds : x ≡ around t (class_of (token_of ws p)) a)
      (named : part_of text b e ≡ name_of (token_of ws p))
      (enters : EnteredRow row row' count (introduces t (class_of (token_of ws p))) x.scope b e new count')
      (firsts : FirstsAfter asked f f' (note_at t (class_of (token_of ws p)) (map_attr D a) (name_of (token_of ws p))) place)
      (heads : hs' ≡ listed hs (is_unit (note_at t (class_of (token_of ws p)) (map_attr D a) (name_of (token_of ws p))).head) place) where
    abbrev k : Token
    k = token_of ws p

    abbrev c : Class
    c = class_of (token_of ws p)

    -- the attributes that are pushed are those that the definition hands on
    same_attrs :
        map_attrs (scope_of row' text) (inherits α (rules t c) a x new ++ attrs)
        ≡ handed t c (map_attr D a) (name_of k) α ++ map_attrs D attrs
    same_attrs =
        let kept : (i : ℕ) → i ≤ count → scope_of row' text i ≡ D i = λ i h. enters.kept text i h in
        let here : map_around D x ≡ around t c (map_attr D a) = ap (map_around D) surrounds ∙ sym (around_map D t c a) in
        let small_x : SmallPlace count (2 * from) x = subst (SmallPlace count (2 * from)) (sym surrounds) (small_around count (2 * from) t c a s.small.0) in
        let there : map_around (scope_of row' text) x ≡ map_around D x = λ j. record { opened = x.opened; scope = kept x.scope small_x.0 j } in
        let fresh : scope_of row' text new ≡ entered (introduces t c) (name_of k) (around t c (map_attr D a)).scope =
        enters.behind text
        ∙ ap (λ (y : Name). entered (introduces t c) y (D x.scope)) named
        ∙ ap (λ (y : Around Scope). entered (introduces t c) (name_of k) y.scope) here in
        maps_append (scope_of row' text) (inherits α (rules t c) a x new) attrs
        ∙ ap (λ (z : List (Attr Scope)). z ++ map_attrs (scope_of row' text) attrs) (inherits_map (scope_of row' text) α (rules t c) a x new)
        ∙ ap (λ (z : List (Attr Scope)). inherits α (rules t c) (map_attr (scope_of row' text) a) (map_around (scope_of row' text) x) (scope_of row' text new) ++ z)
        (kept_attrs D (scope_of row' text) count (2 * from) attrs kept s.small.1)
        ∙ ap (λ (z : Attr Scope). inherits α (rules t c) z (map_around (scope_of row' text) x) (scope_of row' text new) ++ map_attrs D attrs)
        (kept_attr D (scope_of row' text) count (2 * from) a kept s.small.0)
        ∙ ap (λ (z : Around Scope). inherits α (rules t c) (map_attr D a) z (scope_of row' text new) ++ map_attrs D attrs) (there ∙ here)
        ∙ ap (λ (z : Scope). inherits α (rules t c) (map_attr D a) (around t c (map_attr D a)) z ++ map_attrs D attrs) fresh

    -- what is told of all notes by those before and those left is told after the token too
    goes_on_lem : {Y : Type 0} (G G' : List (Note × ℕ) → Y) (y : Y) (m : ℕ) → s.fuel ≡ suc m →
        ((ns : List (Note × ℕ)) → G' ns ≡ G ((note_at t c (map_attr D a) (name_of k), place) ∷ ns)) →
        G (annotate (t ∷ σ) (map_attr D a ∷ map_attrs D attrs) (stream_from s.fuel ws text from)) ≡ y →
        G' (annotate (α ++ σ) (map_attrs (scope_of row' text) (inherits α (rules t c) a x new ++ attrs)) (stream_from m ws text end)) ≡ y
    goes_on_lem G G' y m fe step h =
        let st = stream_from m ws text end in
        ap (λ (z : List (Attr Scope)). G' (annotate (α ++ σ) z st)) same_attrs
        ∙ step (annotate (α ++ σ) (handed t c (map_attr D a) (name_of k) α ++ map_attrs D attrs) st)
        ∙ ap (λ (o : Option (List Symbol)). G ((note_at t c (map_attr D a) (name_of k), place)
        ∷ proceed o (λ after. annotate (after ++ σ) (handed t c (map_attr D a) (name_of k) after ++ map_attrs D attrs) st))) (sym expands)
        ∙ left_by G y m (token p place end) fe found h

    first_on : (test : Note × ℕ → Bool) (m : ℕ) (old new' : Option ℕ) → s.fuel ≡ suc m →
        new' ≡ first_of old (test (note_at t c (map_attr D a) (name_of k), place)) place →
        or_else old (first_where test (annotate (t ∷ σ) (map_attr D a ∷ map_attrs D attrs) (stream_from s.fuel ws text from))) ≡ first_where test all →
        or_else new' (first_where test (annotate (α ++ σ) (map_attrs (scope_of row' text) (inherits α (rules t c) a x new ++ attrs))
        (stream_from m ws text end))) ≡ first_where test all
    first_on test m old new' fe is h =
        goes_on_lem (λ ns. or_else old (first_where test ns)) (λ ns. or_else new' (first_where test ns)) (first_where test all) m fe
        (first_goes test old new' (note_at t c (map_attr D a) (name_of k)) place is) h

    pub noting_on : Noting ws text asked all (α ++ σ) (inherits α (rules t c) a x new ++ attrs) row' count' end f' hs'
    noting_on =
        let fs = step_of s.fuel s.enough in
        let adv = advance text from place end p found in
        let more : length text < suc fs.0 + from = subst (λ (n : ℕ). length text < n + from) fs.1 s.enough in
        let small_x : SmallPlace count (2 * from) x = subst (SmallPlace count (2 * from)) (sym surrounds) (small_around count (2 * from) t c a s.small.0) in
        record {
          fuel = fs.0;
          enough = omega (arith, adv.forward, more);
          deep = first_on is_too_deep fs.0 f.deep f'.deep fs.1 firsts.deep s.deep;
          again = first_on is_again fs.0 f.again f'.again fs.1 firsts.again s.again;
          missing = first_on is_undeclared fs.0 f.missing f'.missing fs.1 firsts.missing s.missing;
          mention = first_on (names_unit asked) fs.0 f.mention f'.mention fs.1 firsts.mention s.mention;
          heads = goes_on_lem (λ ns. hs ++ unit_places ns) (λ ns. hs' ++ unit_places ns) (unit_places all) fs.0 fs.1
              (heads_go hs hs' (note_at t c (map_attr D a) (name_of k)) place heads) s.heads;
          small = small_append count' (2 * end) (inherits α (rules t c) a x new) attrs
              (small_more count' count' (2 * from + 2) (2 * end) (inherits α (rules t c) a x new) (omega arith) (omega (arith, adv.forward))
              (small_inherits count count' (2 * from) new α (rules t c) a x enters.grown enters.within s.small.0 small_x))
              (small_more count count' (2 * from) (2 * end) attrs enters.grown (omega (arith, adv.forward)) s.small.1);
          few = omega (arith, enters.few, adv.forward, s.few);
        }

  -- at the end one note is left
  pub noted_end : {Y : Type 0} (G : List (Note × ℕ) → Y) (y : Y) → next_token text from ≡ at_end →
      G (annotate (t ∷ σ) (map_attr D a ∷ map_attrs D attrs) (stream_from s.fuel ws text from)) ≡ y →
      G ((note_at t Class.TextEnd (map_attr D a) [], length text) ∷ []) ≡ y
  noted_end G y n h = let fs = step_of s.fuel s.enough in left_by G y fs.0 at_end fs.1 n h

-- the last note completes a first place
pub first_ends : (test : Note × ℕ → Bool) (old : Option ℕ) (n : Note) (p : ℕ) → first_of old (test (n, p)) p ≡ or_else old (first_where test ((n, p) ∷ []))
first_ends test None n p = refl
first_ends test (Some q) n p = refl
