-- What holds of every row of the grammar: where the text's end may be read, which symbols lead to no rank, how many symbols follow.
use Rattle.std.proofs.Common.{◌≡◌, ◌≤◌, Bool, true, false, cond, eqb, leb, List, [], ◌∷◌, ◌++◌, length, Some, sym, refl, ap, ◌∙◌, subst, leb-true}
use Rattle.std.proofs.lemmas.List.{append-nil}
use Rattle.std.specs.List.{list_all}
use Rattle.reader.specs.declared.class.Class.{Class}
use Rattle.reader.specs.declared.symbol.Symbol.{Symbol}
use Rattle.reader.specs.Reading.{is_rank_value}
use Rattle.reader.specs.Grammar.{Row, find, rows, expand}
use Rattle.reader.specs.Codes.{symbols, symbol_number}
use Rattle.reader.proofs.AllSymbols.{parts_true, of_every}
use Rattle.reader.proofs.Choosing.{same}
use Rattle.reader.proofs.Loads.{same_class}

-- what a test says of every row holds of what is found
find_every :
    (test : Class → List Symbol → Bool) (c : Class) (rs : List Row) → list_all (λ r. test r.first r.after) rs ≡ true →
    (α : List Symbol) → find c rs ≡ Some α → test c α ≡ true
find_every test c [] h α e = cc
find_every test c (r ∷ rs) h α e =
    let parts = parts_true _ _ h in one (find_every test c rs parts.1 α) parts.0 (same c r.first) refl e
  where
    one :
        (find c rs ≡ Some α → test c α ≡ true) → test r.first r.after ≡ true → (b : Bool) → same c r.first ≡ b →
        cond b (Some r.after) (find c rs) ≡ Some α → test c α ≡ true
    one ih here true is f =
        subst (λ (x : Class). test x α ≡ true) (sym (same_class c r.first is)) (subst (λ (x : List Symbol). test r.first x ≡ true) (cc) here)
    one ih here false is f = ih f

-- what a test says of every row of every symbol holds of what follows
after_every :
    (test : Symbol → Class → List Symbol → Bool) → list_all (λ s. list_all (λ r. test s r.first r.after) (rows s)) symbols ≡ true →
    (s : Symbol) (c : Class) (α : List Symbol) → expand s c ≡ Some α → test s c α ≡ true
after_every test h s c α e = find_every (test s) c (rows s) (of_every (λ s. list_all (λ r. test s r.first r.after) (rows s)) h s) α e

-- ---- the text's end

-- the symbols that take the text's end, or that end with one that does
abbrev pub is_final : Symbol → Bool
is_final (Symbol.Token c) = same c Class.TextEnd
is_final Symbol.«Unit» = true
is_final Symbol.UnitName = false
is_final Symbol.UnitEnd = true
is_final Symbol.RankValue = false
is_final Symbol.Items = false
is_final Symbol.TypeItem = false
is_final Symbol.ValueItem = false
is_final Symbol.ModuleItem = false
is_final (Symbol.Module c) = false
is_final (Symbol.Parameter c) = false
is_final (Symbol.«Path» c) = false
is_final (Symbol.PathName c) = false
is_final (Symbol.Arguments c) = false
is_final Symbol.ModuleEnd = false
is_final Symbol.Argument = false
is_final Symbol.ArgumentEnd = false
is_final Symbol.Signature = false
is_final Symbol.SignatureParameter = false
is_final Symbol.Specs = false
is_final Symbol.TypeSpec = false
is_final Symbol.TypeSpecEnd = false
is_final Symbol.ValueSpec = false
is_final Symbol.ModuleSpec = false
is_final Symbol.Term = false
is_final Symbol.Variable = false
is_final Symbol.Atom = false
is_final Symbol.PathEnd = false
is_final (Symbol.«Type» c) = false
is_final (Symbol.Labels c) = false
is_final Symbol.TypeEnd = false
is_final Symbol.ArgumentName = false

abbrev pub is_empty : List Symbol → Bool
is_empty [] = true
is_empty (s ∷ σ) = false

-- none of these takes the text's end
abbrev pub all_open : List Symbol → Bool
all_open [] = true
all_open (s ∷ σ) = cond (is_final s) false (all_open σ)

-- the last one takes the text's end, and no other
abbrev pub sealed : List Symbol → Bool
sealed [] = false
sealed (s ∷ σ) = cond (is_final s) (is_empty σ) (sealed σ)

-- what may follow a token, by whether the symbol is final and whether the token is the text's end
abbrev fits : Bool → Bool → List Symbol → Bool
fits true true α = is_empty α
fits true false α = sealed α
fits false true α = false
fits false false α = all_open α

ends : (s : Symbol) (c : Class) (α : List Symbol) → expand s c ≡ Some α → fits (is_final s) (same c Class.TextEnd) α ≡ true
ends = after_every (λ s c α. fits (is_final s) (same c Class.TextEnd) α) refl

empty_is : (σ : List Symbol) → is_empty σ ≡ true → σ ≡ []
empty_is [] e = refl
empty_is (s ∷ σ) e = cc

open_sealed : (α σ : List Symbol) → all_open α ≡ true → sealed σ ≡ true → sealed (α ++ σ) ≡ true
open_sealed [] σ a h = h
open_sealed (s ∷ α) σ a h = one (λ g. open_sealed α σ g h) (is_final s) a
  where
    one : (all_open α ≡ true → sealed (α ++ σ) ≡ true) → (b : Bool) → cond b false (all_open α) ≡ true → cond b (is_empty (α ++ σ)) (sealed (α ++ σ)) ≡ true
    one ih true e = cc
    one ih false e = ih e

sealed_by : (b : Bool) (σ α : List Symbol) → cond b (is_empty σ) (sealed σ) ≡ true → fits b false α ≡ true → sealed (α ++ σ) ≡ true
sealed_by true σ α h f =
    subst (λ (x : List Symbol). sealed (α ++ x) ≡ true) (sym (empty_is σ h))
    (subst (λ (x : List Symbol). sealed x ≡ true) (sym (append-nil α)) f)
sealed_by false σ α h f = open_sealed α σ f h

emptied_by : (b : Bool) (σ α : List Symbol) → cond b (is_empty σ) (sealed σ) ≡ true → fits b true α ≡ true → α ++ σ ≡ []
emptied_by true σ α h f = ap (λ (x : List Symbol). x ++ σ) (empty_is α f) ∙ empty_is σ h
emptied_by false σ α h f = cc

-- a token that is not the text's end leaves the stack sealed
pub stays_sealed :
    (s : Symbol) (σ : List Symbol) (c : Class) (α : List Symbol) → sealed (s ∷ σ) ≡ true → expand s c ≡ Some α →
    same c Class.TextEnd ≡ false → sealed (α ++ σ) ≡ true
stays_sealed s σ c α h e n =
    sealed_by (is_final s) σ α h
    (subst (λ (x : Bool). fits (is_final s) x α ≡ true) n (ends s c α e))

-- the text's end leaves nothing
pub gets_empty :
    (s : Symbol) (σ : List Symbol) (c : Class) (α : List Symbol) → sealed (s ∷ σ) ≡ true → expand s c ≡ Some α →
    same c Class.TextEnd ≡ true → α ++ σ ≡ []
gets_empty s σ c α h e n =
    emptied_by (is_final s) σ α h
    (subst (λ (x : Bool). fits (is_final s) x α ≡ true) n (ends s c α e))

-- ---- ranks

-- no rank can be read for this symbol
abbrev pub quiet : Symbol → Bool
quiet s =
    cond (is_rank_value s) false
    (cond (eqb (symbol_number s) (symbol_number Symbol.UnitEnd)) false
    (cond (eqb (symbol_number s) (symbol_number Symbol.«Unit»)) false true))

abbrev pub all_quiet : List Symbol → Type 0
all_quiet [] = Unit {0}
all_quiet (s ∷ σ) = (quiet s ≡ true) × all_quiet σ

pub quiet_no_rank : (s : Symbol) → quiet s ≡ true → is_rank_value s ≡ false
quiet_no_rank s q = one (is_rank_value s) q
  where
    one : (b : Bool) → cond b false (cond (eqb (symbol_number s) (symbol_number Symbol.UnitEnd)) false (cond (eqb (symbol_number s) (symbol_number Symbol.«Unit»)) false true)) ≡ true → b ≡ false
    one true e = cc
    one false e = refl

-- as a test, for the rows
abbrev quiet_list : List Symbol → Bool
quiet_list [] = true
quiet_list (s ∷ σ) = cond (quiet s) (quiet_list σ) false

quiet_all : (σ : List Symbol) → quiet_list σ ≡ true → all_quiet σ
quiet_all [] e = tt
quiet_all (s ∷ σ) e = one (quiet_all σ) (quiet s) refl e
  where
    one : (quiet_list σ ≡ true → all_quiet σ) → (b : Bool) → quiet s ≡ b → cond b (quiet_list σ) false ≡ true → (quiet s ≡ true) × all_quiet σ
    one ih true q f = (q, ih f)
    one ih false q f = cc

pub quiet_after : (s : Symbol) (c : Class) (α : List Symbol) → quiet s ≡ true → expand s c ≡ Some α → all_quiet α
quiet_after s c α q e =
    quiet_all α
    (subst (λ (b : Bool). cond b (quiet_list α) true ≡ true) q (after_every (λ s c α. cond (quiet s) (quiet_list α) true) refl s c α e))

pub quiet_append : (α σ : List Symbol) → all_quiet α → all_quiet σ → all_quiet (α ++ σ)
quiet_append [] σ a b = b
quiet_append (s ∷ α) σ a b = (a.0, quiet_append α σ a.1 b)

-- ---- how many symbols follow

pub short : (s : Symbol) (c : Class) (α : List Symbol) → expand s c ≡ Some α → length α ≤ 5
short s c α e = leb-true (length α) 5 (after_every (λ s c α. leb (length α) 5) refl s c α e)
