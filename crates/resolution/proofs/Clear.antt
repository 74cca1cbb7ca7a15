-- Notes of which none is bad, and the notes behind a part of a text.
use Rattle.std.proofs.Common.{◌≡◌, ℕ, Bool, true, false, cond, List, [], ◌∷◌, Some, None, refl, subst}
use Rattle.types.specs.Types.{Name}
use Rattle.reader.specs.declared.scope.Sort.{Sort}
use Rattle.reader.specs.declared.scope.Binder.{Binder}
use Rattle.reader.specs.Tokens.{Token, label2}
use Rattle.reader.specs.Syntax.{LongName, ModulePath, TypeTree, TermTree, AtomTree}
use Rattle.reader.specs.Print.{print_long_name, print_names, print_labels, print_type, print_term, print_atom, print_arguments, close, comma, arrow}
use Rattle.reader.specs.Scopes.{Scope}
use Rattle.reader.specs.Streams.{Stream, finish, broken, next, tokens_in}
use Rattle.reader.specs.Notes.{Note, Around, deeper, plain, notes_tail, notes_long_name, notes_names, notes_labels, notes_type, notes_term, notes_atom, notes_arguments}
use Rattle.reader.specs.Annotate.{first_where, with_places}
use Rattle.resolution.proofs.Common.{binding, last_token, no_tokens, next_token}

-- no note of a token is bad
abbrev pub Clear : (Note → Bool) → List Note → List Token → Type 0
Clear bad [] ks = Unit {0}
Clear bad (n ∷ ns) [] = Unit {0}
Clear bad (n ∷ ns) (k ∷ ks) = (bad n ≡ false) × Clear bad ns ks

none_clear : (bad : Note → Bool) (ns : List Note) → Clear bad ns []
none_clear bad [] = tt
none_clear bad (n ∷ ns) = tt

-- where the first bad one is none, the note in front is not bad, and none behind it
first_clear : (bad : Note → Bool) (n : Note) (p : ℕ) (rest : List (Note × ℕ)) →
    first_where (λ m. bad m.0) ((n, p) ∷ rest) ≡ None → (bad n ≡ false) × (first_where (λ m. bad m.0) rest ≡ None)
first_clear bad n p rest = go (bad n)
  where
    go : (b : Bool) → cond b (Some p) (first_where (λ m. bad m.0) rest) ≡ None → (b ≡ false) × (first_where (λ m. bad m.0) rest ≡ None)
    go true e = cc
    go false e = (refl, e)

-- a stream of these tokens in whose notes the first bad one is none
pub stream_clear : (bad : Note → Bool) (ns : List Note) (s : Stream) (ks : List Token) → tokens_in s ≡ Some ks →
    first_where (λ n. bad n.0) (with_places ns s) ≡ None → Clear bad ns ks
stream_clear bad [] s ks e f = tt
stream_clear bad (n ∷ ns) (finish p) ks e f =
    subst (Clear bad (n ∷ ns)) (last_token p ks e) ((first_clear bad n p [] f).0, none_clear bad ns)
stream_clear bad (n ∷ ns) (broken p) ks e f = no_tokens p ks e
stream_clear bad (n ∷ ns) (next k p s) ks e f =
    let g = next_token k p s ks e in
    let c = first_clear bad n p (with_places ns s) f in
    subst (Clear bad (n ∷ ns)) g.2 (c.0, stream_clear bad ns s g.0 g.1 c.1)

-- ---- behind a part

module _ (bad : Note → Bool) where
  pub past_tail : (a : Around Scope) (p : LongName) (ns : List Note) (ks : List Token) →
      Clear bad (notes_tail a p ns) (print_long_name p ks) → Clear bad ns ks
  past_tail a (LongName.plain x) ns ks c = c.1
  past_tail a (LongName.inside m p) ns ks c = past_tail a p ns ks c.1.1

  pub past_long : (s : Sort) (a : Around Scope) (p : LongName) (ns : List Note) (ks : List Token) →
      Clear bad (notes_long_name s a p ns) (print_long_name p ks) → Clear bad ns ks
  past_long s a (LongName.plain x) ns ks c = c.1
  past_long s a (LongName.inside m p) ns ks c = past_tail a p ns ks c.1.1

  pub past_names : (a : Around Scope) (ms : List Name) (ns : List Note) (ks : List Token) →
      Clear bad (notes_names a ms ns) (print_names ms ks) → Clear bad ns ks
  past_names a [] ns ks c = c
  past_names a (m ∷ ms) ns ks c = past_names a ms ns ks c.1.1

  pub past_labels : (a : Around Scope) (ls : List ℕ) (ns : List Note) (ks : List Token) →
      Clear bad (notes_labels a ls ns) (print_labels ls ks) → Clear bad ns ks
  past_labels a [] ns ks c = c
  past_labels a (l ∷ ls) ns ks c = past_labels a ls ns ks c.1

  pub past_arguments : (a : Around Scope) (args : List ModulePath) (ns : List Note) (ks : List Token) →
      Clear bad (notes_arguments a args ns) (print_arguments args ks) → Clear bad ns ks
  past_arguments a [] ns ks c = c
  past_arguments a (p ∷ args) ns ks c =
      past_arguments a args ns ks
      (past_names (deeper 1 a) p.more (plain (deeper 1 a) ∷ notes_arguments a args ns) (close ∷ print_arguments args ks) c.1.1).1

  pub past_type_lem : (a : Around Scope) (t : TypeTree) (ns : List Note) (ks : List Token) →
      Clear bad (notes_type a t ns) (print_type t ks) → Clear bad ns ks
  past_type_lem a (TypeTree.path p ls) ns ks c =
      past_labels a ls ns ks (past_long Sort.«Type» a p (notes_labels a ls ns) (print_labels ls ks) c)
  past_type_lem a (TypeTree.constant l ls) ns ks c = past_labels a ls ns ks c.1
  past_type_lem a (TypeTree.bracket t ls) ns ks c =
      past_labels a ls ns ks (past_type_lem (deeper 1 a) t (plain (deeper 1 a) ∷ notes_labels a ls ns) (close ∷ print_labels ls ks) c.1).1
  past_type_lem a (TypeTree.both t u l ls) ns ks c =
      let d = past_type_lem (deeper 1 a) t
      (plain (deeper 1 a) ∷ notes_type (deeper 1 a) u (plain (deeper 1 a) ∷ plain (deeper 1 a) ∷ notes_labels a ls ns))
      (comma ∷ print_type u (close ∷ label2 l ∷ print_labels ls ks)) c.1 in
      let e = past_type_lem (deeper 1 a) u (plain (deeper 1 a) ∷ plain (deeper 1 a) ∷ notes_labels a ls ns)
      (close ∷ label2 l ∷ print_labels ls ks) d.1 in
      past_labels a ls ns ks e.1.1

  mutual
    pub past_term_lem : (a : Around Scope) (e : TermTree) (ns : List Note) (ks : List Token) →
        Clear bad (notes_term a e ns) (print_term e ks) → Clear bad ns ks
    past_term_lem a (TermTree.function x t e) ns ks c =
        let d = past_type_lem (deeper 2 a) t
        (plain (deeper 2 a) ∷ plain (deeper 1 a) ∷ notes_term (binding Binder.Variable x a) e ns)
        (close ∷ arrow ∷ print_term e ks) c.1.1.1.1 in
        past_term_lem (binding Binder.Variable x a) e ns ks d.1.1
    past_term_lem a (TermTree.one o b) ns ks c = past_atom_lem a b ns ks c.1
    past_term_lem a (TermTree.two o b d) ns ks c =
        past_atom_lem a d ns ks (past_atom_lem a b (notes_atom a d ns) (print_atom d ks) c.1)
    past_term_lem a (TermTree.three o b d e) ns ks c =
        past_atom_lem a e ns ks
        (past_atom_lem a d (notes_atom a e ns) (print_atom e ks)
        (past_atom_lem a b (notes_atom a d (notes_atom a e ns)) (print_atom d (print_atom e ks)) c.1))
    past_term_lem a (TermTree.atom b) ns ks c = past_atom_lem a b ns ks c

    pub past_atom_lem : (a : Around Scope) (b : AtomTree) (ns : List Note) (ks : List Token) →
        Clear bad (notes_atom a b ns) (print_atom b ks) → Clear bad ns ks
    past_atom_lem a (AtomTree.literal ds) ns ks c = c.1
    past_atom_lem a (AtomTree.path p) ns ks c = past_long Sort.Value a p ns ks c
    past_atom_lem a (AtomTree.constant o) ns ks c = c.1
    past_atom_lem a (AtomTree.bracket e) ns ks c = (past_term_lem (deeper 1 a) e (plain (deeper 1 a) ∷ ns) (close ∷ ks) c.1).1
