-- Reading is what the grammar says: the laws of the reader over streams of tokens.
use Rattle.std.proofs.Common.{◌≡◌, ℕ, Bool, true, false, cond, List, [], ◌∷◌, ◌++◌, Some, None, Option, sym, refl, ap, ◌∙◌, subst, append_assoc}
use Rattle.std.proofs.lemmas.List.{append-nil}
use Rattle.tokens.specs.Integers.{decimal}
use Rattle.tokens.specs.declared.token.Mark.{Mark}
use Rattle.reader.specs.declared.class.Class.{Class}
use Rattle.reader.specs.declared.symbol.Symbol.{Symbol}
use Rattle.reader.specs.Tokens.{Token, mark, keyword, lower, upper, integer, label0, label1, label2, operator0, operator1, operator2, operator3, text_end, class_of}
use Rattle.reader.specs.Syntax.{UnitTree, RankTree}
use Rattle.reader.specs.Print.{print_unit, print_rank, print_items, print_signature_text}
use Rattle.reader.specs.Grammar.{find, expand}
use Rattle.reader.specs.Streams.{Stream, finish, broken, next, tokens_in, in_front}
use Rattle.reader.specs.Reading.{Outcome, accepted, refused, default_rank, learn, onward, ending, reads, unit_start, signature_start, rank_of, Begins, StandsAt, NeverGoesOn, FirstRefused, UnitOutcome, SignatureOutcome, UnitsAreRead, SignaturesAreRead, OneTree}
use Rattle.reader.proofs.Shapes.{Tree, print}
use Rattle.reader.proofs.Entries.{Trees, prints, entries}
use Rattle.reader.proofs.Choosing.{choose, picked_rows, from_origin, same}
use Rattle.reader.proofs.Origins.{origin, entries_rows, some_tree}
use Rattle.reader.proofs.Checks.{sealed, stays_sealed, gets_empty, quiet, all_quiet, quiet_no_rank, quiet_after, quiet_append}
use Rattle.reader.proofs.Theory as theory

abbrev From : (s : Symbol) (k : Token) → Tree s → Type 0
From s k t = theory.From Token Symbol Tree print choose s k t

from : (s : Symbol) (t : Tree s) → (k : Token) × From s k t
from s t = from_origin s t (origin s t)

abbrev pub run : List Symbol → List Token → Option (List Symbol)
run σ ts = theory.run Token Symbol Tree print choose σ ts

-- the chosen alternative leaves what the table says
expand_is : (s : Symbol) (k : Token) → theory.afters Token Symbol Tree print (choose s k) ≡ expand s (class_of k)
expand_is s k = picked_rows k (entries s) ∙ ap (find (class_of k)) (entries_rows s)

step_some :
    (s : Symbol) (σ : List Symbol) (k : Token) (ks : List Token) (α : List Symbol) → expand s (class_of k) ≡ Some α →
    run (s ∷ σ) (k ∷ ks) ≡ run (α ++ σ) ks
step_some s σ k ks α e =
    ap (λ (o : Option (List Symbol)). theory.onward Token Symbol Tree print choose o σ (λ τ. run τ ks)) (expand_is s k ∙ e)

step_none :
    (s : Symbol) (σ : List Symbol) (k : Token) (ks : List Token) → expand s (class_of k) ≡ None → run (s ∷ σ) (k ∷ ks) ≡ None
step_none s σ k ks e =
    ap (λ (o : Option (List Symbol)). theory.onward Token Symbol Tree print choose o σ (λ τ. run τ ks)) (expand_is s k ∙ e)

-- ---- the rank over a list of tokens

abbrev pub go_rank : Option (List Symbol) → (List Symbol → Option ℕ) → Option ℕ
go_rank None go = None
go_rank (Some α) go = go α

abbrev pub rank_run : List Symbol → List Token → ℕ → Option ℕ
rank_run [] [] r = Some r
rank_run [] (k ∷ ks) r = None
rank_run (t ∷ σ) [] r = None
rank_run (t ∷ σ) (k ∷ ks) r = go_rank (expand t (class_of k)) (λ α. rank_run (α ++ σ) ks (learn t k r))

rank_step :
    (t : Symbol) (σ : List Symbol) (k : Token) (ks : List Token) (r : ℕ) (α : List Symbol) → expand t (class_of k) ≡ Some α →
    rank_run (t ∷ σ) (k ∷ ks) r ≡ rank_run (α ++ σ) ks (learn t k r)
rank_step t σ k ks r α e = ap (λ (o : Option (List Symbol)). go_rank o (λ α. rank_run (α ++ σ) ks (learn t k r))) e

-- ---- what an outcome tells of the runs

-- behind these tokens the next one cannot be read
abbrev pub Stuck : List Symbol → List Token → Option Token → Type 0
Stuck σ before None = Unit {0}
Stuck σ before (Some k) = run σ (before ++ k ∷ []) ≡ None

abbrev pub Described : List Symbol → Stream → ℕ → Outcome → Type 0
Described σ s r (accepted n) =
    (ts : List Token) × (tokens_in s ≡ Some ts) × (run σ ts ≡ Some []) × (rank_run σ ts r ≡ Some n)
Described σ s r (refused p) =
    (before : List Token) × (bad : Option Token) × StandsAt s before bad p
    × ((τ : List Symbol) × (run σ before ≡ Some τ)) × Stuck σ before bad

stuck_on :
    (t : Symbol) (σ : List Symbol) (k : Token) (α : List Symbol) (before : List Token) (bad : Option Token) →
    expand t (class_of k) ≡ Some α → Stuck (α ++ σ) before bad → Stuck (t ∷ σ) (k ∷ before) bad
stuck_on t σ k α before None e h = tt
stuck_on t σ k α before (Some b) e h = step_some t σ k (before ++ b ∷ []) α e ∙ h

-- one token more in front
described_on :
    (t : Symbol) (σ : List Symbol) (k : Token) (p r : ℕ) (s : Stream) (α : List Symbol) → expand t (class_of k) ≡ Some α →
    (o : Outcome) → Described (α ++ σ) s (learn t k r) o → Described (t ∷ σ) (next k p s) r o
described_on t σ k p r s α e (accepted n) d =
    (k ∷ d.0, ap (in_front k) d.1, step_some t σ k d.0 α e ∙ d.2, rank_step t σ k d.0 r α e ∙ d.3)
described_on t σ k p r s α e (refused q) d =
    (k ∷ d.0, d.1, (refl, d.2), (d.3.0, step_some t σ k d.0 α e ∙ d.3.1), stuck_on t σ k α d.0 d.1 e d.4)

describe_empty : (s : Stream) (r : ℕ) → Described [] s r (reads [] s r)
describe_empty (finish p) r = ([], Some text_end, (refl, refl, refl), ([], refl), refl)
describe_empty (broken p) r = ([], None, (refl, refl, refl), ([], refl), tt)
describe_empty (next k p s) r = ([], Some k, (refl, refl), ([], refl), refl)

describe_finish :
    (t : Symbol) (σ : List Symbol) (p r : ℕ) → sealed (t ∷ σ) ≡ true → (o : Option (List Symbol)) →
    expand t Class.TextEnd ≡ o → Described (t ∷ σ) (finish p) r (ending o p r)
describe_finish t σ p r h None e = ([], Some text_end, (refl, refl, refl), (t ∷ σ, refl), step_none t σ text_end [] e)
describe_finish t σ p r h (Some α) e =
    let z = gets_empty t σ Class.TextEnd α h e refl in (
      text_end ∷ [],
      refl,
      step_some t σ text_end [] α e ∙ ap Some z,
      rank_step t σ text_end [] r α e ∙ ap (λ (x : List Symbol). rank_run x [] r) z,
    )

describe_next :
    (t : Symbol) (σ : List Symbol) (k : Token) (p r : ℕ) (s : Stream) → sealed (t ∷ σ) ≡ true →
    ((τ : List Symbol) (q : ℕ) → sealed τ ≡ true → Described τ s q (reads τ s q)) →
    (o : Option (List Symbol)) → expand t (class_of k) ≡ o →
    Described (t ∷ σ) (next k p s) r (onward o p (λ after. reads (after ++ σ) s (learn t k r)))
describe_next t σ k p r s h ih None e = ([], Some k, (refl, refl), (t ∷ σ, refl), step_none t σ k [] e)
describe_next t σ k p r s h ih (Some α) e =
    described_on t σ k p r s α e (reads (α ++ σ) s (learn t k r)) (rest (same (class_of k) Class.TextEnd) refl)
  where
    rest : (b : Bool) → same (class_of k) Class.TextEnd ≡ b → Described (α ++ σ) s (learn t k r) (reads (α ++ σ) s (learn t k r))
    rest true n =
        subst (λ (τ : List Symbol). Described τ s (learn t k r) (reads τ s (learn t k r)))
        (sym (gets_empty t σ (class_of k) α h e n)) (describe_empty s (learn t k r))
    rest false n = ih (α ++ σ) (learn t k r) (stays_sealed t σ (class_of k) α h e n)

pub describe : (s : Stream) (σ : List Symbol) (r : ℕ) → sealed σ ≡ true → Described σ s r (reads σ s r)
describe (finish p) [] r h = cc
describe (broken p) [] r h = cc
describe (next k p s) [] r h = cc
describe (finish p) (t ∷ σ) r h = describe_finish t σ p r h (expand t Class.TextEnd) refl
describe (broken p) (t ∷ σ) r h = ([], None, (refl, refl, refl), (t ∷ σ, refl), tt)
describe (next k p s) (t ∷ σ) r h =
    describe_next t σ k p r s h (λ τ q g. describe s τ q g) (expand t (class_of k)) refl

-- ---- from runs to trees

some_trees : (σ : List Symbol) → Trees σ
some_trees [] = tt
some_trees (s ∷ σ) = (some_tree s, some_trees σ)

-- tokens that were read begin the print of some trees
goes_on_lem :
    (σ : List Symbol) (before : List Token) (τ : List Symbol) → run σ before ≡ Some τ →
    (vs : Trees σ) × Begins before (prints σ vs [])
goes_on_lem σ before τ e =
    let h = theory.sound Token Symbol Tree print choose before σ τ e (some_trees τ) [] in
    (h.0, (prints τ (some_trees τ) [], sym h.1))

-- tokens that cannot be read begin the print of no trees
never :
    (σ : List Symbol) (ts : List Token) → run σ ts ≡ None → (vs : Trees σ) → Begins ts (prints σ vs []) → ⊥
never σ ts e vs b =
    let h = theory.complete Token Symbol Tree print choose from ts σ vs b.0 (sym b.1) in
    cc (e, h.1)

never_goes_on :
    {T : Type 0} (show : T → List Token) (σ : List Symbol) (trees : T → Trees σ) →
    ((t : T) → prints σ (trees t) [] ≡ show t) → (before : List Token) (bad : Option Token) → Stuck σ before bad →
    NeverGoesOn show before bad
never_goes_on show σ trees same-print before None h = tt
never_goes_on show σ trees same-print before (Some k) h =
    λ t b. never σ (before ++ k ∷ []) h (trees t) (b.0, b.1 ∙ sym (same-print t))

first_refused :
    {T : Type 0} (show : T → List Token) (σ : List Symbol) (tree : Trees σ → T) (trees : T → Trees σ) →
    ((vs : Trees σ) → show (tree vs) ≡ prints σ vs []) → ((t : T) → prints σ (trees t) [] ≡ show t) →
    (s : Stream) (r p : ℕ) → Described σ s r (refused p) → FirstRefused show s p
first_refused show σ tree trees one two s r p d =
    let g = goes_on_lem σ d.0 d.3.0 d.3.1 in
    record {
      before = d.0;
      bad = d.1;
      stands = d.2;
      goes_on = (tree g.0, (g.1.0, g.1.1 ∙ sym (one g.0)));
      stops = never_goes_on show σ trees two d.0 d.1 d.4;
    }

-- tokens that were read whole are the print of trees
whole_print :
    (σ : List Symbol) (ts : List Token) → run σ ts ≡ Some [] → (vs : Trees σ) × (ts ≡ prints σ vs [])
whole_print σ ts e =
    let h = theory.sound Token Symbol Tree print choose ts σ [] e tt [] in
    (h.0, sym (append-nil ts) ∙ sym h.1)

-- ---- the rank

learn_quiet : (s : Symbol) (k : Token) (r : ℕ) → quiet s ≡ true → learn s k r ≡ r
learn_quiet s (mark m) r q = refl
learn_quiet s (keyword k) r q = refl
learn_quiet s (lower x) r q = refl
learn_quiet s (upper x) r q = refl
learn_quiet s (integer ds) r q = ap (λ (b : Bool). cond b (decimal ds) r) (quiet_no_rank s q)
learn_quiet s (label0 l) r q = refl
learn_quiet s (label1 l) r q = refl
learn_quiet s (label2 l) r q = refl
learn_quiet s (operator0 o) r q = refl
learn_quiet s (operator1 o) r q = refl
learn_quiet s (operator2 o) r q = refl
learn_quiet s (operator3 o) r q = refl
learn_quiet s text_end r q = refl

-- quiet symbols leave the rank
quiet_run :
    (ts : List Token) (σ τ : List Symbol) (vs : Trees σ) (rest : List Token) (r : ℕ) → all_quiet σ → prints σ vs rest ≡ ts →
    rank_run (σ ++ τ) ts r ≡ rank_run τ rest r
quiet_run ts [] τ vs rest r q e = ap (λ (x : List Token). rank_run τ x r) (sym e)
quiet_run [] (s ∷ σ) τ vs rest r q e =
    let o = from s vs.0 in
    absurd (theory.nil_cons Token Symbol Tree print choose from
    (sym e ∙ theory.from_shown Token Symbol Tree print choose from s o.0 vs.0 o.1 (prints σ vs.1 rest)))
quiet_run (k ∷ ks) (s ∷ σ) τ vs rest r q e =
    let f = theory.begins Token Symbol Tree print choose from s vs.0 (prints σ vs.1 rest) k ks e in
    let g = theory.begins_rest Token Symbol Tree print choose from s vs.0 (prints σ vs.1 rest) k ks f e in
    let α : List Symbol = f.way.after in
    let x : expand s (class_of k) ≡ Some α = sym (expand_is s k) ∙ ap (theory.afters Token Symbol Tree print) f.chosen in
    let ih = quiet_run ks (α ++ σ) τ (theory.join Token Symbol Tree print α σ f.parts vs.1) rest r
    (quiet_append α σ (quiet_after s (class_of k) α q.0 x) q.1)
    (theory.prints_join Token Symbol Tree print α σ f.parts vs.1 rest ∙ g) in
    rank_step s (σ ++ τ) k ks r α x
    ∙ ap (λ (n : ℕ). rank_run (α ++ (σ ++ τ)) ks n) (learn_quiet s k r q.0)
    ∙ ap (λ (ρ : List Symbol). rank_run ρ ks r) (sym (append_assoc α σ τ))
    ∙ ih

rank_end : (o : Option RankTree) → rank_run (Symbol.UnitEnd ∷ []) (print_rank o (text_end ∷ [])) default_rank ≡ Some (rank_of o)
rank_end None = refl
rank_end (Some n) =
    rank_step Symbol.RankValue (Symbol.Token Class.CloseAttribute ∷ Symbol.Token Class.TextEnd ∷ []) (integer n.digits)
    (mark Mark.CloseAttribute ∷ text_end ∷ []) default_rank []
    (ap (λ (b : Bool). expand Symbol.RankValue (cond b Class.SmallInteger Class.LargeInteger)) n.small)

unit_rank : (u : UnitTree) → rank_run unit_start (print_unit u) default_rank ≡ Some (rank_of u.rank)
unit_rank u =
    quiet_run (print_items u.items (print_rank u.rank (text_end ∷ []))) (Symbol.Items ∷ []) (Symbol.UnitEnd ∷ [])
    (u.items, tt) (print_rank u.rank (text_end ∷ [])) default_rank (refl, tt) refl
    ∙ rank_end u.rank

-- ---- the laws

unit_law : (s : Stream) (o : Outcome) → Described unit_start s default_rank o → UnitOutcome s o
unit_law s (accepted n) d =
    let w = whole_print unit_start d.0 d.2 in (
      w.0.0,
      d.1 ∙ ap Some w.1,
      cc (sym d.3 ∙ ap (λ (x : List Token). rank_run unit_start x default_rank) w.1 ∙ unit_rank w.0.0),
    )
unit_law s (refused p) d =
    first_refused print_unit unit_start (λ vs. vs.0) (λ u. (u, tt)) (λ vs. refl) (λ u. refl) s default_rank p d

pub units_are_read : UnitsAreRead
units_are_read s = unit_law s (reads unit_start s default_rank) (describe s unit_start default_rank refl)

signature_law : (s : Stream) (o : Outcome) → Described signature_start s default_rank o → SignatureOutcome s o
signature_law s (accepted n) d =
    let w = whole_print signature_start d.0 d.2 in
    (w.0.0, d.1 ∙ ap Some w.1)
signature_law s (refused p) d =
    first_refused print_signature_text signature_start (λ vs. vs.0) (λ t. (t, (tt, tt))) (λ vs. refl) (λ t. refl) s default_rank p d

pub signatures_are_read : SignaturesAreRead
signatures_are_read s = signature_law s (reads signature_start s default_rank) (describe s signature_start default_rank refl)

pub one_tree : OneTree
one_tree = (
  λ u v e. ap (λ (x : Trees unit_start). x.0)
      (theory.unique Token Symbol Tree print choose from (print_unit v) unit_start (u, tt) (v, tt) e refl),
  λ u v e. ap (λ (x : Trees signature_start). x.0)
      (theory.unique Token Symbol Tree print choose from (print_signature_text v) signature_start (u, (tt, tt)) (v, (tt, tt)) e refl),
)
