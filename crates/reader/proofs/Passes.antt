-- One turn of the second pass, by what the code tells.
use Rattle.std.proofs.Common.{◌≡◌, ℕ, suc, ◌+◌, ◌-◌, ◌*◌, ◌<◌, ◌≤◌, Bool, true, false, cond, ◌&&◌, ltb, leb, List, [], ◌∷◌, ◌++◌, length, Some, None, Option, sym, refl, ap, ◌∙◌, subst, append-nil, arith, length-append}
use Rattle.tokens.specs.Lexer.{at_end, token, no_token, next_token}
use Rattle.tokens.specs.Pieces.{Piece}
use Rattle.tokens.specs.declared.lexer.Reason.{Reason}
use Rattle.tokens.proofs.Walk.{advance}
use Rattle.types.specs.Types.{Name}
use Rattle.cores.specs.Meaning.{Word}
use Rattle.reader.specs.declared.class.Class.{Class}
use Rattle.reader.specs.declared.frame.Place.{Place}
use Rattle.reader.specs.declared.frame.Frame.{Frame}
use Rattle.reader.specs.declared.notes.Firsts.{Firsts}
use Rattle.reader.specs.declared.parse.Start.{Start}
use Rattle.reader.specs.declared.symbol.Symbol.{Symbol}
use Rattle.reader.specs.Tokens.{class_of, token_of}
use Rattle.reader.specs.Grammar.{expand}
use Rattle.reader.specs.Scopes.{Scope}
use Rattle.reader.specs.Streams.{stream_from, stream_of}
use Rattle.reader.specs.Reading.{Outcome, accepted, refused, reads, learn, default_rank}
use Rattle.reader.specs.Parsing.{start_of, is_accepted}
use Rattle.reader.specs.Notes.{Note, Around}
use Rattle.reader.specs.Annotate.{Attr, around, extra, raised, declaring, again_of, head_kind, head_of, is_missing, is_unit, names_unit, name_of, note_at, rules, introduces, inherits, annotate, is_too_deep, is_again, is_undeclared, first_where, unit_places}
use Rattle.reader.specs.Rows.{scope_of, part_of}
use Rattle.reader.specs.Frames.{Framed, placed, attr_of}
use Rattle.reader.specs.Firsts.{first_of, listed, span_of, text_notes, EnteredRow}
use Rattle.reader.specs.Surveys.{Surveyed}
use Rattle.reader.proofs.Capacity.{not_deep}
use Rattle.reader.proofs.Noting.{Noting, FirstsAfter, map_around, map_attr, map_attrs, around_map, SmallPlace, SmallAttr, small_around, noting_on, noted_end, first_ends, or_else}
use Rattle.reader.proofs.Places.{named_part}
use Rattle.reader.proofs.Turns.{State, goes_on_lem, stops, no_token_lem, deep}
use Rattle.reader.proofs.Upper.{end_no_unit}

-- the first places after a token, by what the code tells of them
firsts_after :
    (D : ℕ → Scope) (t : Symbol) (c : Class) (a : Attr ℕ) (x : Around ℕ) (name : Name) (asked : ℕ) (f f' : Firsts) (p : ℕ) → x ≡ around t c a →
    f'.deep ≡ first_of f.deep (ltb 12 (raised (extra t c) x.opened)) p →
    f'.again ≡ first_of f.again (again_of (declaring t) name (D x.scope)) p →
    f'.missing ≡ first_of f.missing (is_missing (head_of (head_kind t c) name (D x.scope))) p →
    f'.mention ≡ first_of f.mention (is_unit (head_of (head_kind t c) name (D x.scope)) && leb asked p) p →
    FirstsAfter asked f f' (note_at t c (map_attr D a) name) p
firsts_after D t c a x name asked f f' p e d g m u =
    let h : map_around D x ≡ around t c (map_attr D a) = ap (map_around D) e ∙ sym (around_map D t c a) in
    record {
      deep = d ∙ ap (λ (y : Around Scope). first_of f.deep (ltb 12 (raised (extra t c) y.opened)) p) h;
      again = g ∙ ap (λ (y : Around Scope). first_of f.again (again_of (declaring t) name y.scope) p) h;
      missing = m ∙ ap (λ (y : Around Scope). first_of f.missing (is_missing (head_of (head_kind t c) name y.scope)) p) h;
      mention = u ∙ ap (λ (y : Around Scope). first_of f.mention (is_unit (head_of (head_kind t c) name y.scope) && leb asked p) p) h;
    }

-- the places of heads after a token
heads_after : (D : ℕ → Scope) (t : Symbol) (c : Class) (a : Attr ℕ) (x : Around ℕ) (name : Name) (hs hs' : List ℕ) (p : ℕ) → x ≡ around t c a →
    hs' ≡ listed hs (is_unit (head_of (head_kind t c) name (D x.scope))) p → hs' ≡ listed hs (is_unit (note_at t c (map_attr D a) name).head) p
heads_after D t c a x name hs hs' p e h =
    let same : map_around D x ≡ around t c (map_attr D a) = ap (map_around D) e ∙ sym (around_map D t c a) in
    h ∙ ap (λ (y : Around Scope). listed hs (is_unit (head_of (head_kind t c) name y.scope)) p) same

none_some : (p n : ℕ) → refused p ≡ accepted n → ⊥
none_some p n e = cc

accepted_is : (o : Outcome) → is_accepted o ≡ true → (n : ℕ) × (o ≡ accepted n)
accepted_is (accepted n) e = (n, refl)
accepted_is (refused p) e = cc

-- one place more at most
listed_long : (hs : List ℕ) (b : Bool) (p : ℕ) → length (listed hs b p) ≤ length hs + 1
listed_long hs true p = omega (arith, length-append hs (p ∷ []))
listed_long hs false p = omega arith

-- the second pass before a token: what lies on the stack reads the rest of the text, and its notes complete the first places and
-- the places of heads
pub record Pass (ws : List Word) (text : List ℕ) (start : Start) (asked : ℕ) (v : Framed) (row : List ℕ) (count from : ℕ) (f : Firsts) (hs : List ℕ) : Type 0 where
  pub rank : ℕ
  pub state : State ws text (start_of start) v.symbols from rank
  pub noting : Noting ws text asked (text_notes start ws text) v.symbols v.attrs row count from f hs
  pub inside : from ≤ length text
  pub listed : length hs ≤ from

module _ (ws : List Word) (text : List ℕ) (start : Start) (asked : ℕ) (v : Framed) (row : List ℕ) (count from : ℕ) (f : Firsts) (hs : List ℕ)
    (q : Pass ws text start asked v row count from f hs)
    (ok : is_accepted (reads (start_of start) (stream_of ws text) default_rank) ≡ true) where
  pub not_empty : 0 < length v.symbols
  not_empty = deep ws text (start_of start) v.symbols from q.rank q.state

  -- a place without a token does not come
  pub never_broken : (r : Reason) (place : ℕ) → next_token text from ≡ no_token r place → ⊥
  never_broken r place e =
      let n = accepted_is (reads (start_of start) (stream_of ws text) default_rank) ok in
      none_some place n.0 (sym (no_token_lem ws text (start_of start) v.symbols from q.rank q.state q.inside r place e) ∙ n.1)

  module _ (t : Symbol) (fr : Frame) (rest : Framed) (popped : v ≡ record { symbols = t ∷ rest.symbols; attrs = attr_of fr ∷ rest.attrs; room = rest.room }) where
    topped : State ws text (start_of start) (t ∷ rest.symbols) from q.rank
    topped = subst (λ (x : Framed). State ws text (start_of start) x.symbols from q.rank) popped q.state

    noting_top : Noting ws text asked (text_notes start ws text) (t ∷ rest.symbols) (attr_of fr ∷ rest.attrs) row count from f hs
    noting_top = subst (λ (x : Framed). Noting ws text asked (text_notes start ws text) x.symbols x.attrs row count from f hs) popped q.noting

    -- numbers in the top frame are small
    pub small_place : (class : Class) (place : Place) → placed place ≡ around t class (attr_of fr) → (place.scope ≤ count) × (place.opened ≤ 2 * from)
    small_place class place pl =
        let small : SmallAttr count (2 * from) (attr_of fr) = noting_top.small.0 in
        subst (SmallPlace count (2 * from)) (sym pl) (small_around count (2 * from) t class (attr_of fr) small)

    module _ (p : Piece) (place end : ℕ) (class : Class) (found : next_token text from ≡ token p place end) (of : class ≡ class_of (token_of ws p)) where
      looked_up : (o : Option (List Symbol)) → o ≡ expand t class → expand t (class_of (token_of ws p)) ≡ o
      looked_up o e = ap (expand t) (sym of) ∙ sym e

      -- the text reads, so the table takes the token
      pub never_stuck : None ≡ expand t class → ⊥
      never_stuck e =
          let n = accepted_is (reads (start_of start) (stream_of ws text) default_rank) ok in
          none_some place n.0 (sym (stops ws text (start_of start) t rest.symbols from q.rank topped q.inside p place end found (looked_up None e)) ∙ n.1)

      next_state : (α : List Symbol) → Some α ≡ expand t class → State ws text (start_of start) (α ++ rest.symbols) end (learn t (token_of ws p) q.rank)
      next_state α e = goes_on_lem ws text (start_of start) t rest.symbols from q.rank topped q.inside p place end α found (looked_up (Some α) e)

      -- what is pushed has room
      pub room_after : (α : List Symbol) → Some α ≡ expand t class → length α + length rest.symbols ≤ suc (length text - end)
      room_after α e =
          let n = accepted_is (reads (start_of start) (stream_of ws text) default_rank) ok in
          let adv = advance text from place end p found in
          let h = not_deep ws text (start_of start) (α ++ rest.symbols) end (learn t (token_of ws p) q.rank) n.0 (next_state α e) adv.inside n.1 in
          omega (arith, h, length-append α rest.symbols)

      module _ (α : List Symbol) (expands : Some α ≡ expand t class) (around' : Place) (pl : placed around' ≡ around t class (attr_of fr))
          (span : ℕ × ℕ) (sp : span ≡ span_of class place end) (name : Name) (nm : name ≡ part_of text span.0 span.1)
          (row' : List ℕ) (new count' : ℕ) (f' : Firsts) (hs' : List ℕ)
          (enters : EnteredRow row row' count (introduces t class) around'.scope span.0 span.1 new count')
          (deep' : f'.deep ≡ first_of f.deep (ltb 12 (raised (extra t class) around'.opened)) place)
          (again' : f'.again ≡ first_of f.again (again_of (declaring t) name (scope_of row text around'.scope)) place)
          (missing' : f'.missing ≡ first_of f.missing (is_missing (head_of (head_kind t class) name (scope_of row text around'.scope))) place)
          (mention' : f'.mention ≡ first_of f.mention (is_unit (head_of (head_kind t class) name (scope_of row text around'.scope)) && leb asked place) place)
          (heads' : hs' ≡ listed hs (is_unit (head_of (head_kind t class) name (scope_of row text around'.scope))) place)
          (after : Framed)
          (pushed : after ≡ record { symbols = α ++ rest.symbols; attrs = inherits α (rules t class) (attr_of fr) (placed around') new ++ rest.attrs; room = rest.room }) where
        the_name : part_of text span.0 span.1 ≡ name_of (token_of ws p)
        the_name =
            ap (λ (x : ℕ × ℕ). part_of text x.0 x.1) (sp ∙ ap (λ (c : Class). span_of c place end) of)
            ∙ named_part ws text from place end p found

        -- everything told of the class at hand is told of the token
        moved : (P : Class → Type 0) → P class → P (class_of (token_of ws p))
        moved P h = subst P of h

        surrounds : placed around' ≡ around t (class_of (token_of ws p)) (attr_of fr)
        surrounds = moved (λ c. placed around' ≡ around t c (attr_of fr)) pl

        told : FirstsAfter asked f f' (note_at t (class_of (token_of ws p)) (map_attr (scope_of row text) (attr_of fr)) (name_of (token_of ws p))) place
        told =
            let n : name ≡ name_of (token_of ws p) = nm ∙ the_name in
            firsts_after (scope_of row text) t (class_of (token_of ws p)) (attr_of fr) (placed around') (name_of (token_of ws p)) asked f f' place surrounds
            (moved (λ c. f'.deep ≡ first_of f.deep (ltb 12 (raised (extra t c) around'.opened)) place) deep')
            (again' ∙ ap (λ (y : Name). first_of f.again (again_of (declaring t) y (scope_of row text around'.scope)) place) n)
            (moved (λ c. f'.missing ≡ first_of f.missing (is_missing (head_of (head_kind t c) (name_of (token_of ws p)) (scope_of row text around'.scope))) place)
            (missing' ∙ ap (λ (y : Name). first_of f.missing (is_missing (head_of (head_kind t class) y (scope_of row text around'.scope))) place) n))
            (moved (λ c. f'.mention ≡ first_of f.mention (is_unit (head_of (head_kind t c) (name_of (token_of ws p)) (scope_of row text around'.scope)) && leb asked place) place)
            (mention' ∙ ap (λ (y : Name). first_of f.mention (is_unit (head_of (head_kind t class) y (scope_of row text around'.scope)) && leb asked place) place) n))

        told_heads : hs' ≡ listed hs (is_unit (note_at t (class_of (token_of ws p)) (map_attr (scope_of row text) (attr_of fr)) (name_of (token_of ws p))).head) place
        told_heads =
            let n : name ≡ name_of (token_of ws p) = nm ∙ the_name in
            heads_after (scope_of row text) t (class_of (token_of ws p)) (attr_of fr) (placed around') (name_of (token_of ws p)) hs hs' place surrounds
            (moved (λ c. hs' ≡ listed hs (is_unit (head_of (head_kind t c) (name_of (token_of ws p)) (scope_of row text around'.scope))) place)
            (heads' ∙ ap (λ (y : Name). listed hs (is_unit (head_of (head_kind t class) y (scope_of row text around'.scope))) place) n))

        pub turned : Pass ws text start asked after row' count' end f' hs'
        turned =
            let adv = advance text from place end p found in
            let h = noting_on ws text asked (text_notes start ws text) t rest.symbols (attr_of fr) rest.attrs row count from f hs noting_top q.inside p place end found α
            (placed around') row' span.0 span.1 new count' f' hs' (looked_up (Some α) expands) surrounds the_name
            (moved (λ c. EnteredRow row row' count (introduces t c) around'.scope span.0 span.1 new count') enters) told told_heads in
            let same : inherits α (rules t (class_of (token_of ws p))) (attr_of fr) (placed around') new ++ rest.attrs ≡ after.attrs =
            ap (λ (c : Class). inherits α (rules t c) (attr_of fr) (placed around') new ++ rest.attrs) (sym of) ∙ sym (ap (λ (x : Framed). x.attrs) pushed) in
            let syms : α ++ rest.symbols ≡ after.symbols = sym (ap (λ (x : Framed). x.symbols) pushed) in
            record {
              rank = learn t (token_of ws p) q.rank;
              state = subst (λ (x : List Symbol). State ws text (start_of start) x end (learn t (token_of ws p) q.rank)) syms (next_state α expands);
              noting = subst (λ (x : List (Attr ℕ)). Noting ws text asked (text_notes start ws text) after.symbols x row' count' end f' hs') same
                  (subst (λ (x : List Symbol). Noting ws text asked (text_notes start ws text) x (inherits α (rules t (class_of (token_of ws p))) (attr_of fr) (placed around') new
                  ++ rest.attrs) row' count' end f' hs') syms h);
              inside = adv.inside;
              listed = omega (arith, ap length heads', listed_long hs (is_unit (head_of (head_kind t class) name (scope_of row text around'.scope))) place, q.listed, adv.forward);
            }

    -- at the end one note is left
    ends_all : {Y : Type 0} (G : List (Note × ℕ) → Y) (y : Y) → next_token text from ≡ at_end →
        G (annotate (t ∷ rest.symbols) (map_attrs (scope_of row text) (attr_of fr ∷ rest.attrs)) (stream_from noting_top.fuel ws text from)) ≡ y →
        G ((note_at t Class.TextEnd (map_attr (scope_of row text) (attr_of fr)) [], length text) ∷ []) ≡ y
    ends_all G y n h = noted_end ws text asked (text_notes start ws text) t rest.symbols (attr_of fr) rest.attrs row count from f hs noting_top q.inside G y n h

    -- the text's end is no head
    pub last_heads : next_token text from ≡ at_end → hs ≡ unit_places (text_notes start ws text)
    last_heads n =
        let x = (around t Class.TextEnd (map_attr (scope_of row text) (attr_of fr))).scope in
        sym (append-nil hs)
        ∙ ap (λ (b : Bool). hs ++ cond b (length text ∷ []) []) (sym (end_no_unit t [] x (is_unit (head_of (head_kind t Class.TextEnd) [] x)) refl))
        ∙ ends_all (λ ns. hs ++ unit_places ns) (unit_places (text_notes start ws text)) n noting_top.heads

    -- the last note completes the first places
    module _ (around' : Place) (f' : Firsts) (n : next_token text from ≡ at_end) (pl : placed around' ≡ around t Class.TextEnd (attr_of fr))
        (deep' : f'.deep ≡ first_of f.deep (ltb 12 (raised (extra t Class.TextEnd) around'.opened)) (length text))
        (again' : f'.again ≡ first_of f.again (again_of (declaring t) [] (scope_of row text around'.scope)) (length text))
        (missing' : f'.missing ≡ first_of f.missing (is_missing (head_of (head_kind t Class.TextEnd) [] (scope_of row text around'.scope))) (length text))
        (mention' : f'.mention ≡ first_of f.mention (is_unit (head_of (head_kind t Class.TextEnd) [] (scope_of row text around'.scope)) && leb asked (length text)) (length text)) where
      pub last_firsts : Surveyed asked (text_notes start ws text) f'
      last_firsts =
          let all = text_notes start ws text in
          let told = firsts_after (scope_of row text) t Class.TextEnd (attr_of fr) (placed around') [] asked f f' (length text) pl deep' again' missing' mention' in
          let note = note_at t Class.TextEnd (map_attr (scope_of row text) (attr_of fr)) [] in
          record {
            deep = told.deep ∙ first_ends is_too_deep f.deep note (length text)
                ∙ ends_all (λ ns. or_else f.deep (first_where is_too_deep ns)) (first_where is_too_deep all) n noting_top.deep;
            again = told.again ∙ first_ends is_again f.again note (length text)
                ∙ ends_all (λ ns. or_else f.again (first_where is_again ns)) (first_where is_again all) n noting_top.again;
            missing = told.missing ∙ first_ends is_undeclared f.missing note (length text)
                ∙ ends_all (λ ns. or_else f.missing (first_where is_undeclared ns)) (first_where is_undeclared all) n noting_top.missing;
            mention = told.mention ∙ first_ends (names_unit asked) f.mention note (length text)
                ∙ ends_all (λ ns. or_else f.mention (first_where (names_unit asked) ns)) (first_where (names_unit asked) all) n noting_top.mention;
          }
