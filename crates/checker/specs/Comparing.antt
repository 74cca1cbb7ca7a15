-- Matching of numbered signatures: the first component that fails, in the order of the signature wanted.
use Rattle.std.specs.Prelude.{ℕ, zero, suc, ◌+◌, Bool, cond, Some, None, Option}
use Rattle.types.specs.Types.{Name, same}
use Rattle.checker.specs.Numbered.{Sig, sig, functor_sig, Parts, no_parts, more_parts, Part, abstract_part, defined_part, value_part, module_part, sort_of_part, find_part, size_of}
use Rattle.checker.specs.Meanings.{Meaning, itself, bind, meant}
use Rattle.checker.specs.Faults.{Mismatch, missing, other_value, other_type, other_kind}

-- the signatures match, and the wanted side's numbers then mean this; or the component reached and the cause
pub data Verdict : Type 0 where
  matched : Meaning → Verdict
  differs : Option Name → Mismatch → Verdict

-- go on where all has matched so far
abbrev pub onward : Verdict → (Meaning → Verdict) → Verdict
onward (matched σ) f = f σ
onward (differs x m) f = differs x m

-- a question about a component: goes on with this meaning, or differs there
abbrev pub asked : Bool → Name → Mismatch → Meaning → Verdict
asked b x m σ = cond b (matched σ) (differs (Some x) m)

-- how one signature is matched with another: the given one with its meaning, the wanted one with its own, and the component around them
abbrev pub Matcher : Type 0
Matcher = Meaning → Sig → Meaning → Sig → Option Name → Verdict

-- a component of the wanted signature against its partner of the same sort and name; nested modules are left to a matcher.
-- A wanted abstract type means from then on what its partner means.
abbrev pub match_part : Matcher → Meaning → Option Part → Meaning → Name → Part → Verdict
match_part m σ None τ x d = differs (Some x) missing
match_part m σ (Some (abstract_part k)) τ x (abstract_part n) = matched (bind n (σ k) τ)
match_part m σ (Some (abstract_part k)) τ x (defined_part t) = asked (same (σ k) (meant τ t)) x other_type τ
match_part m σ (Some (abstract_part k)) τ x (value_part t) = differs (Some x) missing
match_part m σ (Some (abstract_part k)) τ x (module_part w) = differs (Some x) missing
match_part m σ (Some (defined_part g)) τ x (abstract_part n) = matched (bind n (meant σ g) τ)
match_part m σ (Some (defined_part g)) τ x (defined_part t) = asked (same (meant σ g) (meant τ t)) x other_type τ
match_part m σ (Some (defined_part g)) τ x (value_part t) = differs (Some x) missing
match_part m σ (Some (defined_part g)) τ x (module_part w) = differs (Some x) missing
match_part m σ (Some (value_part g)) τ x (abstract_part n) = differs (Some x) missing
match_part m σ (Some (value_part g)) τ x (defined_part t) = differs (Some x) missing
match_part m σ (Some (value_part g)) τ x (value_part t) = asked (same (meant σ g) (meant τ t)) x other_value τ
match_part m σ (Some (value_part g)) τ x (module_part w) = differs (Some x) missing
match_part m σ (Some (module_part g)) τ x (abstract_part n) = differs (Some x) missing
match_part m σ (Some (module_part g)) τ x (defined_part t) = differs (Some x) missing
match_part m σ (Some (module_part g)) τ x (value_part t) = differs (Some x) missing
match_part m σ (Some (module_part g)) τ x (module_part w) = m σ g τ w (Some x)

-- the components of the wanted signature in their order
abbrev pub match_parts : Matcher → Meaning → Parts → Meaning → Parts → Verdict
match_parts m σ g τ no_parts = matched τ
match_parts m σ g τ (more_parts c x d) =
    onward (match_parts m σ g τ c) (λ υ. match_part m σ (find_part (sort_of_part d) x g) υ x d)

-- structures by their components; functors by their parameters with the sides exchanged and then by their results;
-- a functor and a structure never match. What is known inside functors is not known behind them.
abbrev pub match_with : Matcher → Matcher
match_with m σ (sig g) τ (sig c) x = match_parts m σ g τ c
match_with m σ (sig g) τ (functor_sig s r) x = differs x other_kind
match_with m σ (functor_sig s r) τ (sig c) x = differs x other_kind
match_with m σ (functor_sig s r) τ (functor_sig s' r') x = onward (m τ s' σ s x) (λ υ. onward (m υ r τ r' x) (λ φ. matched τ))

-- matching, to a bound on how deep signatures are nested in both sides together
abbrev pub match_to : ℕ → Matcher
match_to zero = λ σ g τ w x. differs x other_kind
match_to (suc n) = match_with (match_to n)

-- matching of a given signature with a wanted one, each number meaning itself; their sizes together are bound enough
abbrev pub match_sigs : Sig → Sig → Verdict
match_sigs g w = match_to (suc (size_of g + size_of w)) itself g itself w None
