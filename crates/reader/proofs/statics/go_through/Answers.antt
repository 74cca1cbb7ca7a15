use Rattle.std.proofs.Common.{◌≡◌, ℕ, Bool, ◌&&◌, leb, List, [], ◌++◌, length, Some, Option, sym, ap, ◌∙◌, append-nil, arith}
use Rattle.tokens.specs.Lexer.{view}
use Rattle.tokens.specs.declared.lexer.Tokens.{Tokens}
use Rattle.tokens.proofs.Walk.{advance}
use Rattle.tokens.proofs.Turns.{Turn, turn, turn_fault, turn_end}
use Rattle.reader.specs.declared.class.Class.{Class}
use Rattle.reader.specs.declared.scope.Inherit.{Inherit}
use Rattle.reader.specs.Annotate.{inherits, declaring, again_of, head_kind, head_of, is_missing, is_unit}
use Rattle.reader.specs.Firsts.{first_of, listed, Listing, root_attrs}
use Rattle.reader.specs.Frames.{Framed, attr_of, placed}
use Rattle.reader.specs.Rows.{Entered}
use Rattle.reader.specs.Scopes.{Scope}
use Rattle.reader.proofs.Begun.{begun, none_yet, start_long}
use Rattle.reader.proofs.Passes.{never_broken, never_stuck, room_after, small_place, turned, last_firsts, last_heads}
use Rattle.reader.proofs.Places.{span_low, place_low}
use Rattle.reader.proofs.Turns.{found_proper}
use Rattle.reader.proofs.statics.go_through.Given as given
use Rattle.reader.proofs.statics.go_through.Goals as goal
use Rattle.reader.proofs.statics.go_through.Goals.{In_ok-found, In-None, then-is_unit, else-is_unit}

-- the token of this turn
here : (g : given.Over) (c : In_ok-found g) → Turn c.args.text.now c.tokens.found-iterator c.next.new.self c.in_ok-found.found
here g c = turn _ _ _ _ _ _ c.tokens.invariant.same_text c.next.ensures.steps c.in-Some.is c.in_ok-found.was

-- a first place by what a token is told
after_note : (old : Option ℕ) (p : ℕ) {new : Option ℕ} {b b' : Bool} → new ≡ first_of old b p → b ≡ b' → new ≡ first_of old b' p
after_note old p e f = e ∙ ap (λ (b : Bool). first_of old b p) f

pub push_all-requires : goal.push_all-requires
push_all-requires g c =
    let none = ap (λ (v : Framed). length v.symbols) c.new-frames.ensures in
    let room = ap (λ (v : Framed). v.room) c.new-frames.ensures in
    omega (arith, none, room, ap length c.symbols.ensures, start_long c.args.start, c.requires.scratch_len)

pub tokens-init : goal.tokens-init
tokens-init g c =
    let at : c.into_iter-found-iterator.result.from ≡ 0 = ap (λ (t : Tokens). t.from) c.into_iter-found-iterator.ensures.into_iter_gives ∙ c.new-found-items.ensures.1 in
    let none : c.new-entries.result.count ≡ 0 = ap (λ (v : Entered). v.count) c.new-entries.ensures in
    let empty : c.new-heads.result.places ≡ [] = ap (λ (v : Listing). v.places) c.new-heads.ensures in
    let syms = ap (λ (v : Framed). v.symbols) c.push_all.ensures ∙ ap (λ (v : Framed). c.symbols.result.now ++ v.symbols) c.new-frames.ensures
    ∙ append-nil c.symbols.result.now ∙ c.symbols.ensures in
    let attrs = ap (λ (v : Framed). v.attrs) c.push_all.ensures ∙ ap (λ (v : Framed). root_attrs c.symbols.result.now ++ v.attrs) c.new-frames.ensures
    ∙ append-nil (root_attrs c.symbols.result.now) ∙ ap root_attrs c.symbols.ensures in
    record {
      same_text = ap (λ (t : Tokens). t.text.now) c.into_iter-found-iterator.ensures.into_iter_gives ∙ ap (λ b. b.now) c.new-found-items.ensures.0;
      pass = rw (none, at, empty) (begun _ _ _ _ _ _ _ syms attrs (none_yet c.default-firsts.result c.default-firsts.ensures));
      frames_room = omega (arith, ap (λ (v : Framed). v.room) c.push_all.ensures, ap (λ (v : Framed). v.room) c.new-frames.ensures, c.requires.scratch_len);
      entries_room = omega (arith, ap (λ (v : Entered). length v.words) c.new-entries.ensures, c.requires.scratch_len);
      heads_room = omega (arith, ap (λ (v : Listing). v.room) c.new-heads.ensures, c.requires.scratch_len);
    }

pub returns-in_err-found : goal.returns-in_err-found
returns-in_err-found g c =
    let i = c.tokens.invariant in
    absurd (never_broken _ _ _ _ _ _ _ _ _ _ i.pass c.requires.accepted _ _ (turn_fault _ _ _ _ _ _ i.same_text c.next.ensures.steps c.in-Some.is c.in_err-found.was))

pub class_of-class-requires : goal.class_of-class-requires
class_of-class-requires g c = found_proper c.args.text.now c.tokens.found-iterator.from _ _ _ (here g (goal.at.class_of-class-requires g c).In_ok-found).next

pub returns-in_default : goal.returns-in_default
returns-in_default g c =
    let t = here g (goal.at.returns-in_default g c).In_ok-found in
    absurd (never_stuck _ _ _ _ _ _ _ _ _ _ c.tokens.invariant.pass c.requires.accepted _ _ _ c.pop-symbol.ensures _ _ _ _ t.next c.class_of-class.ensures c.in_default.ensures)

pub push-requires-clause-place_bound : goal.push-requires-clause-place_bound
push-requires-clause-place_bound g c =
    let t = here g (goal.at.push-requires-clause-place_bound g c).In_ok-found in
    let adv = advance c.args.text.now c.tokens.found-iterator.from c.in_ok-found.found.place c.in_ok-found.found.end (view c.in_ok-found.found.token) t.next in
    let low = place_low c.args.text.now c.tokens.found-iterator.from c.in_ok-found.found.place c.in_ok-found.found.end (view c.in_ok-found.found.token) t.next in
    omega (arith, low, adv.inside, c.requires.text_len_bound)

pub overflow_cast-from : goal.overflow_cast-from
overflow_cast-from g c =
    let t = here g (goal.at.overflow_cast-from g c).In_ok-found in
    let adv = advance c.args.text.now c.tokens.found-iterator.from c.in_ok-found.found.place c.in_ok-found.found.end (view c.in_ok-found.found.token) t.next in
    let low = place_low c.args.text.now c.tokens.found-iterator.from c.in_ok-found.found.place c.in_ok-found.found.end (view c.in_ok-found.found.token) t.next in
    let part = span_low c.class_of-class.result c.in_ok-found.found.place c.in_ok-found.found.end c.span-from.result c.span-from.ensures in
    omega (arith, part.0, low, adv.inside, c.requires.text_len_bound)

pub overflow_cast-end : goal.overflow_cast-end
overflow_cast-end g c =
    let t = here g (goal.at.overflow_cast-end g c).In_ok-found in
    let adv = advance c.args.text.now c.tokens.found-iterator.from c.in_ok-found.found.place c.in_ok-found.found.end (view c.in_ok-found.found.token) t.next in
    let part = span_low c.class_of-class.result c.in_ok-found.found.place c.in_ok-found.found.end c.span-from.result c.span-from.ensures in
    omega (arith, part.1, adv.inside, c.requires.text_len_bound)

pub enter-new-requires-clause-parent_le_count : goal.enter-new-requires-clause-parent_le_count
enter-new-requires-clause-parent_le_count g c =
    (small_place _ _ _ _ _ _ _ _ _ _ c.tokens.invariant.pass c.requires.accepted _ _ _ c.pop-symbol.ensures c.class_of-class.result c.place_of-place.result c.place_of-place.ensures).0

pub invariant_of-origin : goal.invariant_of-origin
invariant_of-origin g c =
    let i = c.tokens.invariant in
    let small = small_place _ _ _ _ _ _ _ _ _ _ i.pass c.requires.accepted _ _ _ c.pop-symbol.ensures c.class_of-class.result c.place_of-place.result c.place_of-place.ensures in
    record { room = omega (arith, small.1, i.pass.inside, c.requires.text_len_bound) }

pub push_all-requires-in-tokens : goal.push_all-requires-in-tokens
push_all-requires-in-tokens g c =
    let i = c.tokens.invariant in
    let t = here g (goal.at.push_all-requires-in-tokens g c).In_ok-found in
    let row = ap Some c.as_slice.ensures.value ∙ c.in-Some-expand.ensures in
    let deep = room_after _ _ _ _ _ _ _ _ _ _ i.pass c.requires.accepted _ _ _ c.pop-symbol.ensures _ _ _ _ t.next c.class_of-class.ensures c.as_slice.result.now row in
    omega (arith, deep, ap (λ (v : Framed). v.room) c.pop-symbol.ensures, i.frames_room, c.requires.text_len_bound)

pub tokens-preserved : goal.tokens-preserved
tokens-preserved g c =
    let i = c.tokens.invariant in
    let t = here g (goal.at.tokens-preserved g c).In_ok-found in
    let row = ap Some c.as_slice.ensures.value ∙ c.in-Some-expand.ensures in
    let symbol = c.pop-symbol.result.0 in
    let class = c.class_of-class.result in
    let name = c.part.result.now in
    let place = c.in_ok-found.found.place in
    let scope = c.scope-scope.ensures in
    let missing = c.note_of-note.ensures.missing ∙ ap (λ (x : Scope). is_missing (head_of (head_kind symbol class) name x)) scope in
    let unit = c.note_of-note.ensures.unit ∙ ap (λ (x : Scope). is_unit (head_of (head_kind symbol class) name x)) scope in
    let listing : (c.if-is_unit.heads.places ≡ listed c.tokens.heads.places c.is_unit.result place) × (c.if-is_unit.heads.room ≡ c.tokens.heads.room) = elim c.if-is_unit.branch [
      | then-is_unit b ↦ rw b.if-is_unit.true (ap (λ (v : Listing). v.places) (b.heads-is ∙ b.push.ensures), ap (λ (v : Listing). v.room) (b.heads-is ∙ b.push.ensures))
      | else-is_unit b ↦ rw b.if-is_unit.false (ap (λ (v : Listing). v.places) b.heads-is, ap (λ (v : Listing). v.room) b.heads-is)
    ] in
    record {
      same_text = t.same_text;
      pass = rw t.behind (turned _ _ _ _ _ _ _ _ _ _ i.pass c.requires.accepted _ _ _ c.pop-symbol.ensures _ _ _ _ t.next c.class_of-class.ensures c.as_slice.result.now row
          c.place_of-place.result c.place_of-place.ensures c.span-from.result c.span-from.ensures name c.part.ensures c.enter-new.new.self.words c.enter-new.result c.enter-new.new.self.count
          c.after-firsts.result c.if-is_unit.heads.places
          (rw (sym c.introduced.ensures) c.enter-new.ensures.entered)
          (after_note c.tokens.firsts.deep place c.after-firsts.ensures.deep c.note_of-note.ensures.deep)
          (after_note c.tokens.firsts.again place c.after-firsts.ensures.again (c.note_of-note.ensures.again ∙ ap (again_of (declaring symbol) name) scope))
          (after_note c.tokens.firsts.missing place c.after-firsts.ensures.missing missing)
          (after_note c.tokens.firsts.mention place c.after-firsts.ensures.mention (ap (λ (b : Bool). b && leb c.args.asked place) unit))
          (listing.0 ∙ ap (λ (b : Bool). listed c.tokens.heads.places b place) (c.is_unit.ensures ∙ unit))
          c.push_all-in-tokens.new.self
          (c.push_all-in-tokens.ensures
          ∙ ap (λ (rs : List Inherit). record {
            symbols = c.as_slice.result.now ++ c.pop-symbol.new.self.symbols;
            attrs = inherits c.as_slice.result.now rs (attr_of c.pop-symbol.result.1) (placed c.place_of-place.result) c.enter-new.result ++ c.pop-symbol.new.self.attrs;
            room = c.pop-symbol.new.self.room;
          }) c.rules.ensures));
      frames_room = ap (λ (v : Framed). v.room) c.push_all-in-tokens.ensures ∙ sym (ap (λ (v : Framed). v.room) c.pop-symbol.ensures) ∙ i.frames_room;
      entries_room = c.enter-new.ensures.room ∙ i.entries_room;
      heads_room = listing.1 ∙ i.heads_room;
    }

pub returns : goal.returns
returns g c =
    let i = c.tokens.invariant in
    let done = turn_end _ _ _ _ i.same_text c.next.ensures.steps c.in-None.is in
    let symbol = c.pop-last.result.0 in
    let scope = c.scope-scope-2.ensures in
    let missing = c.note_of-note-2.ensures.missing ∙ ap (λ (x : Scope). is_missing (head_of (head_kind symbol Class.TextEnd) [] x)) scope in
    let unit = c.note_of-note-2.ensures.unit ∙ ap (λ (x : Scope). is_unit (head_of (head_kind symbol Class.TextEnd) [] x)) scope in (
      last_firsts _ _ _ _ _ _ _ _ _ _ i.pass c.requires.accepted _ _ _ c.pop-last.ensures c.place_of-place-2.result c.after.result done c.place_of-place-2.ensures
          (after_note c.tokens.firsts.deep (length c.args.text.now) c.after.ensures.deep c.note_of-note-2.ensures.deep)
          (after_note c.tokens.firsts.again (length c.args.text.now) c.after.ensures.again (c.note_of-note-2.ensures.again ∙ ap (again_of (declaring symbol) []) scope))
          (after_note c.tokens.firsts.missing (length c.args.text.now) c.after.ensures.missing missing)
          (after_note c.tokens.firsts.mention (length c.args.text.now) c.after.ensures.mention (ap (λ (b : Bool). b && leb c.args.asked (length c.args.text.now)) unit)),
      c.into_places.ensures ∙ last_heads _ _ _ _ _ _ _ _ _ _ i.pass c.requires.accepted _ _ _ c.pop-last.ensures done,
    )
