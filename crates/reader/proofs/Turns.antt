-- The turns of the reading loop.
use Rattle.std.proofs.Common.{◌≡◌, ℕ, zero, suc, ◌+◌, ◌<◌, ◌≤◌, Bool, true, false, cond, eqb, List, [], ◌∷◌, ◌++◌, length, drop, Some, None, Option, sym, refl, ap, ◌∙◌, subst, arith}
use Rattle.tokens.specs.Lexer.{Next, at_end, token, no_token, next_token}
use Rattle.tokens.specs.Pieces.{Piece, Proper, Cuts}
use Rattle.tokens.specs.declared.lexer.Reason.{Reason}
use Rattle.tokens.specs.declared.token.Mark.{Mark}
use Rattle.tokens.specs.declared.token.Keyword.{Keyword}
use Rattle.tokens.proofs.Walk.{advance}
use Rattle.cores.specs.Meaning.{Word, lookup}
use Rattle.cores.specs.declared.interface.Found.{Found}
use Rattle.cores.specs.declared.interface.Kind.{Kind}
use Rattle.reader.specs.declared.class.Class.{Class}
use Rattle.reader.specs.declared.symbol.Symbol.{Symbol}
use Rattle.reader.specs.Tokens.{Token, class_of, token_of, name_token, word_token, mark_class, keyword_class, is_rank, label2, lower, operator3}
use Rattle.reader.specs.Grammar.{expand}
use Rattle.reader.specs.Streams.{ahead, stream_from, stream_of}
use Rattle.reader.specs.Reading.{refused, reads, learn, onward, ending, default_rank}
use Rattle.reader.specs.Stacks.{Stacked}
use Rattle.reader.proofs.Checks.{sealed, stays_sealed}
use Rattle.reader.proofs.Choosing.{same}

-- what is left to be read gives what the whole text gives
pub record State (ws : List Word) (text : List ℕ) (start stack : List Symbol) (from rank : ℕ) : Type 0 where
  pub fuel : ℕ
  pub enough : length text < fuel + from
  pub same_end : reads stack (stream_from fuel ws text from) rank ≡ reads start (stream_of ws text) default_rank
  pub closed : sealed stack ≡ true

pub begin : (ws : List Word) (text : List ℕ) (start : List Symbol) → sealed start ≡ true → State ws text start start 0 default_rank
begin ws text start h = record { fuel = suc (length text); enough = omega arith; same_end = refl; closed = h }

-- a token of a text is never its end
pick_two : (a b : Token) → same (class_of a) Class.TextEnd ≡ false → same (class_of b) Class.TextEnd ≡ false →
    (p : Bool) → same (class_of (cond p a b)) Class.TextEnd ≡ false
pick_two a b x y true = x
pick_two a b x y false = y

word_no_end : (k : Kind) (n : ℕ) (x : List ℕ) → same (class_of (word_token k n x)) Class.TextEnd ≡ false
word_no_end (Kind.Label p) n x =
    pick_two _ _ refl (pick_two _ _ refl (pick_two (label2 n) (lower x) refl refl (eqb p 2)) (eqb p 1)) (eqb p 0)
word_no_end (Kind.Operator p) n x =
    pick_two _ _ refl
    (pick_two _ _ refl (pick_two _ _ refl (pick_two (operator3 n) (lower x) refl refl (eqb p 3)) (eqb p 2)) (eqb p 1)) (eqb p 0)

name_no_end : (f : Option Found) (x : List ℕ) → same (class_of (name_token f x)) Class.TextEnd ≡ false
name_no_end None x = refl
name_no_end (Some f) x = word_no_end f.kind f.number x

mark_no_end : (m : Mark) → same (mark_class m) Class.TextEnd ≡ false
mark_no_end Mark.Open = refl
mark_no_end Mark.Close = refl
mark_no_end Mark.Colon = refl
mark_no_end Mark.Equals = refl
mark_no_end Mark.Comma = refl
mark_no_end Mark.Dot = refl
mark_no_end Mark.Arrow = refl
mark_no_end Mark.OpenAttribute = refl
mark_no_end Mark.CloseAttribute = refl

keyword_no_end : (k : Keyword) → same (keyword_class k) Class.TextEnd ≡ false
keyword_no_end Keyword.Module = refl
keyword_no_end Keyword.Struct = refl
keyword_no_end Keyword.Sig = refl
keyword_no_end Keyword.End = refl
keyword_no_end Keyword.Functor = refl
keyword_no_end Keyword.«Type» = refl
keyword_no_end Keyword.Val = refl
keyword_no_end Keyword.Let = refl
keyword_no_end Keyword.Fun = refl
keyword_no_end Keyword.Rank = refl

integer_no_end : (b : Bool) → same (cond b Class.SmallInteger Class.LargeInteger) Class.TextEnd ≡ false
integer_no_end true = refl
integer_no_end false = refl

pub token_no_end : (ws : List Word) (p : Piece) → same (class_of (token_of ws p)) Class.TextEnd ≡ false
token_no_end ws (Piece.blank b) = refl
token_no_end ws (Piece.mark m) = mark_no_end m
token_no_end ws (Piece.keyword k) = keyword_no_end k
token_no_end ws (Piece.lower x) = name_no_end (lookup ws x) x
token_no_end ws (Piece.upper x) = refl
token_no_end ws (Piece.integer ds) = integer_no_end (is_rank ds)

-- a token that the lexer finds is a proper one
last_proper : (gaps : List Piece) (p : Piece) (a b : List ℕ) → Cuts (gaps ++ p ∷ []) a b → Proper p
last_proper [] p a b h = h.1.proper
last_proper (g ∷ gaps) p a b h = last_proper gaps p h.0 b h.2

pub found_proper : (text : List ℕ) (from place end : ℕ) (p : Piece) → next_token text from ≡ token p place end → Proper p
found_proper text from place end p e =
    let a = advance text from place end p e in
    last_proper a.gaps p (drop from text) (drop end text) a.cuts

module _ (ws : List Word) (text : List ℕ) (start : List Symbol) (t : Symbol) (σ : List Symbol) (from rank : ℕ)
    (s : State ws text start (t ∷ σ) from rank) (inside : from ≤ length text) where
  -- the fuel is not spent
  step_of : (n : ℕ) → length text < n + from → (m : ℕ) × (n ≡ suc m)
  step_of zero h = absurd (omega arith)
  step_of (suc m) h = (m, refl)

  -- what reading the rest comes to, by what comes next
  by_next :
      (x : Next) → next_token text from ≡ x →
      (m : ℕ) × (length text < suc m + from)
      × (reads (t ∷ σ) (ahead ws (length text) x (λ end. stream_from m ws text end)) rank ≡ reads start (stream_of ws text) default_rank)
  by_next x e =
      let f = step_of s.fuel s.enough in (
        f.0,
        subst (λ (n : ℕ). length text < n + from) f.1 s.enough,
        ap (λ (y : Next). reads (t ∷ σ) (ahead ws (length text) y (λ end. stream_from f.0 ws text end)) rank) (sym e)
            ∙ subst (λ (n : ℕ). reads (t ∷ σ) (stream_from n ws text from) rank ≡ reads start (stream_of ws text) default_rank) f.1 s.same_end,
      )

  pub goes_on_lem :
      (p : Piece) (place end : ℕ) (α : List Symbol) → next_token text from ≡ token p place end →
      expand t (class_of (token_of ws p)) ≡ Some α → State ws text start (α ++ σ) end (learn t (token_of ws p) rank)
  goes_on_lem p place end α e x =
      let a = advance text from place end p e in
      let b = by_next (token p place end) e in
      record {
        fuel = b.0;
        enough = omega (arith, a.forward, b.1);
        same_end =
            ap (λ (o : Option (List Symbol)). onward o place (λ after. reads (after ++ σ) (stream_from b.0 ws text end) (learn t (token_of ws p) rank)))
            (sym x) ∙ b.2;
        closed = stays_sealed t σ (class_of (token_of ws p)) α s.closed x (token_no_end ws p);
      }

  pub stops :
      (p : Piece) (place end : ℕ) → next_token text from ≡ token p place end → expand t (class_of (token_of ws p)) ≡ None →
      reads start (stream_of ws text) default_rank ≡ refused place
  stops p place end e x =
      let b = by_next (token p place end) e in
      sym b.2
      ∙ ap (λ (o : Option (List Symbol)). onward o place (λ after. reads (after ++ σ) (stream_from b.0 ws text end) (learn t (token_of ws p) rank))) x

  pub breaks :
      (r : Reason) (place : ℕ) → next_token text from ≡ no_token r place → reads start (stream_of ws text) default_rank ≡ refused place
  breaks r place e = sym (by_next (no_token r place) e).2

  pub ends :
      next_token text from ≡ at_end → reads start (stream_of ws text) default_rank ≡ ending (expand t Class.TextEnd) (length text) rank
  ends e = sym (by_next at_end e).2

-- the same by what a stack was before its top was taken away
module _ (ws : List Word) (text : List ℕ) (start : List Symbol) (v : Stacked) (t : Symbol) (rest : Stacked) (from rank : ℕ)
    (s : State ws text start v.symbols from rank) (inside : from ≤ length text)
    (popped : v ≡ record { symbols = t ∷ rest.symbols; room = rest.room }) where
  topped : State ws text start (t ∷ rest.symbols) from rank
  topped = subst (λ (x : Stacked). State ws text start x.symbols from rank) popped s

  pub next_turn :
      (p : Piece) (place end : ℕ) (class : Class) (α : List Symbol) (after : Stacked) (rank' : ℕ) →
      next_token text from ≡ token p place end → class ≡ class_of (token_of ws p) → Some α ≡ expand t class →
      after ≡ record { symbols = α ++ rest.symbols; room = rest.room } → rank' ≡ learn t (token_of ws p) rank →
      State ws text start after.symbols end rank'
  next_turn p place end class α after rank' e b x st r =
      rw (st, r) (goes_on_lem ws text start t rest.symbols from rank topped inside p place end α e (ap (expand t) (sym b) ∙ sym x))

  pub refuses :
      (p : Piece) (place end : ℕ) (class : Class) → next_token text from ≡ token p place end → class ≡ class_of (token_of ws p) →
      None ≡ expand t class → reads start (stream_of ws text) default_rank ≡ refused place
  refuses p place end class e b x =
      stops ws text start t rest.symbols from rank topped inside p place end e (ap (expand t) (sym b) ∙ sym x)

  pub at_the_end :
      (o : Option (List Symbol)) → next_token text from ≡ at_end → o ≡ expand t Class.TextEnd →
      reads start (stream_of ws text) default_rank ≡ ending o (length text) rank
  at_the_end o e x =
      ends ws text start t rest.symbols from rank topped inside e ∙ ap (λ (y : Option (List Symbol)). ending y (length text) rank) (sym x)

-- where no token stands, nothing is taken from the stack
pub no_token_lem :
    (ws : List Word) (text : List ℕ) (start σ : List Symbol) (from rank : ℕ) → State ws text start σ from rank → from ≤ length text →
    (r : Reason) (place : ℕ) → next_token text from ≡ no_token r place → reads start (stream_of ws text) default_rank ≡ refused place
no_token_lem ws text start [] from rank s inside r place e = cc (s.closed)
no_token_lem ws text start (t ∷ σ) from rank s inside r place e = breaks ws text start t σ from rank s inside r place e

-- a stack that goes on is not empty
pub deep : (ws : List Word) (text : List ℕ) (start σ : List Symbol) (from rank : ℕ) → State ws text start σ from rank → 0 < length σ
deep ws text start [] from rank s = cc (s.closed)
deep ws text start (t ∷ σ) from rank s = omega arith
