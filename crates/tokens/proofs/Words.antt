-- A keyword is told from the bytes that spell it, and from no others.
use Rattle.std.proofs.Common.{◌≡◌, ℕ, Bool, true, false, cond, List, [], ◌∷◌, Some, None, sym, refl, ap, ◌∙◌, arith}
use Rattle.std.proofs.lemmas.Slice.Eq.{bytes_eq-Decides}
use Rattle.std.specs.Str.{bytes_eq}
use Rattle.tokens.specs.Keywords.{keyword_bytes, keyword_among, keyword_of, keywords}
use Rattle.tokens.specs.Pieces.{NoKeyword}
use Rattle.tokens.specs.declared.token.Keyword.{Keyword}
use Rattle.tokens.specs.declared.token.Keyword.TheVariants.{Module, Struct, Sig, End, Functor, «Type», Val, Let, Fun, Rank}

among_spells : (ks : List Keyword) (bs : List ℕ) (k : Keyword) → keyword_among ks bs ≡ Some k → keyword_bytes k ≡ bs
among_spells [] bs k e = absurd (let z : ◌≡◌ {A = ℕ} 0 1 = cc in omega arith)
among_spells (x ∷ ks) bs k e = go (bytes_eq bs (keyword_bytes x)) refl e (among_spells ks bs k)
  where
    go : (t : Bool) → bytes_eq bs (keyword_bytes x) ≡ t → cond t (Some x) (keyword_among ks bs) ≡ Some k → (keyword_among ks bs ≡ Some k → keyword_bytes k ≡ bs) → keyword_bytes k ≡ bs
    go true same e later =
        let is : x ≡ k = cc in
        ap keyword_bytes (sym is) ∙ sym ((bytes_eq-Decides bs (keyword_bytes x)).0 same)
    go false same e later = later e

-- the bytes that tell a keyword are what it is written as
pub keyword_spells : (bs : List ℕ) (k : Keyword) → keyword_of bs ≡ Some k → keyword_bytes k ≡ bs
keyword_spells bs k e = among_spells keywords bs k e

-- what a keyword is written as tells it
pub keyword_told : (k : Keyword) → keyword_of (keyword_bytes k) ≡ Some k
keyword_told Module = refl
keyword_told Struct = refl
keyword_told Sig = refl
keyword_told End = refl
keyword_told Functor = refl
keyword_told «Type» = refl
keyword_told Val = refl
keyword_told Let = refl
keyword_told Fun = refl
keyword_told Rank = refl

-- bytes that tell no keyword are written for none
pub no_keyword : (bs : List ℕ) → keyword_of bs ≡ None → NoKeyword bs
no_keyword bs e k is =
    let told = keyword_told k in
    let z : ◌≡◌ {A = ℕ} 0 1 = cc (told, ap keyword_of is, e) in
    omega arith
