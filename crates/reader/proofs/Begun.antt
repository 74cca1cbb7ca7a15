-- The second pass as it begins.
use Rattle.std.proofs.Common.{◌≡◌, ℕ, suc, ◌*◌, ◌<◌, ◌≤◌, true, List, [], ◌++◌, length, None, sym, refl, ap, ◌∙◌, subst, append-nil, arith}
use Rattle.cores.specs.Meaning.{Word}
use Rattle.reader.specs.declared.notes.Firsts.{Firsts}
use Rattle.reader.specs.declared.parse.Start.{Start}
use Rattle.reader.specs.declared.symbol.Symbol.{Symbol}
use Rattle.reader.specs.Parsing.{start_of}
use Rattle.reader.specs.Notes.{Note}
use Rattle.reader.specs.Annotate.{Attr, annotate, first_where, is_too_deep, is_again, is_undeclared, names_unit, unit_places}
use Rattle.reader.specs.Rows.{scope_of}
use Rattle.reader.specs.Frames.{Framed, symbols_of, attrs_of}
use Rattle.reader.specs.Firsts.{start_attrs, root_attrs, text_notes}
use Rattle.reader.specs.Reading.{default_rank}
use Rattle.reader.specs.Streams.{stream_of}
use Rattle.reader.proofs.Checks.{sealed}
use Rattle.reader.proofs.Framed.{symbols_long}
use Rattle.reader.proofs.Noting.{Noting, Small, map_attrs}
use Rattle.reader.proofs.Passes.{Pass}
use Rattle.reader.proofs.Turns.{State, begin}

pub begun_attrs : (w : List ℕ) (d : ℕ) (xs : List Symbol) (s : Start) → attrs_of w d ≡ root_attrs xs ++ [] → xs ≡ start_of s → attrs_of w d ≡ root_attrs (start_of s)
begun_attrs w d xs s a b = a ∙ append-nil (root_attrs xs) ∙ ap root_attrs b

start_sealed : (s : Start) → sealed (start_of s) ≡ true
start_sealed Start.«Unit» = refl
start_sealed Start.Signature = refl

start_small : (s : Start) → Small 0 (2 * 0) (root_attrs (start_of s))
start_small Start.«Unit» = (((omega arith, omega arith), (omega arith, omega arith)), tt)
start_small Start.Signature = (((omega arith, omega arith), (omega arith, omega arith)), (((omega arith, omega arith), (omega arith, omega arith)), tt))

pub start_long : (s : Start) → length (start_of s) ≤ 2
start_long Start.«Unit» = omega arith
start_long Start.Signature = omega arith

-- as many frames as symbols
pub begun_deep : (w : List ℕ) (d : ℕ) (s : Start) → symbols_of w d ≡ start_of s → (0 < d) × (d ≤ 2)
begun_deep w d Start.«Unit» e = let k = ap length e in (omega (arith, k, symbols_long w d), omega (arith, k, symbols_long w d))
begun_deep w d Start.Signature e = let k = ap length e in (omega (arith, k, symbols_long w d), omega (arith, k, symbols_long w d))

-- the notes from the first frames
abbrev pub begun_notes : List Word → List ℕ → List ℕ → List ℕ → ℕ → List (Note × ℕ)
begun_notes ws text row w d = annotate (symbols_of w d) (map_attrs (scope_of row text) (attrs_of w d)) (stream_of ws text)

pub begun_noting : (ws : List Word) (text : List ℕ) (asked : ℕ) (row w : List ℕ) (d : ℕ) (s : Start) → attrs_of w d ≡ root_attrs (start_of s) →
    Noting ws text asked (begun_notes ws text row w d) (symbols_of w d) (attrs_of w d) row 0 0
    (record { deep = None; again = None; missing = None; mention = None }) []
begun_noting ws text asked row w d s e =
    record {
      fuel = suc (length text);
      enough = omega arith;
      deep = refl;
      again = refl;
      missing = refl;
      mention = refl;
      heads = refl;
      small = subst (Small 0 (2 * 0)) (sym e) (start_small s);
      few = omega arith;
    }

first_scopes : (row text : List ℕ) (s : Start) → map_attrs (scope_of row text) (root_attrs (start_of s)) ≡ start_attrs s
first_scopes row text Start.«Unit» = refl
first_scopes row text Start.Signature = refl

-- the notes from the first frames are those of the definition
pub all_notes : (ws : List Word) (text row w : List ℕ) (d : ℕ) (s : Start) → symbols_of w d ≡ start_of s → attrs_of w d ≡ root_attrs (start_of s) →
    begun_notes ws text row w d ≡ text_notes s ws text
all_notes ws text row w d s e f =
    ap (λ (x : List Symbol). annotate x (map_attrs (scope_of row text) (attrs_of w d)) (stream_of ws text)) e
    ∙ ap (λ (x : List (Attr ℕ)). annotate (start_of s) (map_attrs (scope_of row text) x) (stream_of ws text)) f
    ∙ ap (λ x. annotate (start_of s) x (stream_of ws text)) (first_scopes row text s)

pub none_yet : (f : Firsts) → (f.deep ≡ None) × ((f.again ≡ None) × ((f.missing ≡ None) × (f.mention ≡ None))) →
    f ≡ record { deep = None; again = None; missing = None; mention = None }
none_yet f e = λ k. record { deep = e.0 k; again = e.1.0 k; missing = e.1.1.0 k; mention = e.1.1.1 k }

-- the notes from the first frames are those of the definition
first_noting : (ws : List Word) (text : List ℕ) (s : Start) (asked : ℕ) (row : List ℕ) (f : Firsts) → f ≡ record { deep = None; again = None; missing = None; mention = None } →
    Noting ws text asked (text_notes s ws text) (start_of s) (root_attrs (start_of s)) row 0 0 f []
first_noting ws text s asked row f e =
    let all : annotate (start_of s) (map_attrs (scope_of row text) (root_attrs (start_of s))) (stream_of ws text) ≡ text_notes s ws text =
    ap (λ x. annotate (start_of s) x (stream_of ws text)) (first_scopes row text s) in
    subst (λ (x : Firsts). Noting ws text asked (text_notes s ws text) (start_of s) (root_attrs (start_of s)) row 0 0 x []) (sym e)
    (record {
      fuel = suc (length text);
      enough = omega arith;
      deep = ap (first_where is_too_deep) all;
      again = ap (first_where is_again) all;
      missing = ap (first_where is_undeclared) all;
      mention = ap (first_where (names_unit asked)) all;
      heads = ap unit_places all;
      small = start_small s;
      few = omega arith;
    })

pub begun : (ws : List Word) (text : List ℕ) (s : Start) (asked : ℕ) (row : List ℕ) (v : Framed) (f : Firsts) → v.symbols ≡ start_of s → v.attrs ≡ root_attrs (start_of s) →
    f ≡ record { deep = None; again = None; missing = None; mention = None } → Pass ws text s asked v row 0 0 f []
begun ws text s asked row v f e h n =
    record {
      rank = default_rank;
      state = subst (λ (x : List Symbol). State ws text (start_of s) x 0 default_rank) (sym e) (begin ws text (start_of s) (start_sealed s));
      noting = subst (λ (x : List Symbol). Noting ws text asked (text_notes s ws text) x v.attrs row 0 0 f []) (sym e)
          (subst (λ (x : List (Attr ℕ)). Noting ws text asked (text_notes s ws text) (start_of s) x row 0 0 f []) (sym h) (first_noting ws text s asked row f n));
      inside = omega arith;
      listed = omega arith;
    }
