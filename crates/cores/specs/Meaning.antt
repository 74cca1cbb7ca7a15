-- The meaning of a core: its words and its rule; and the law that a rule keeps.
use Rattle.std.specs.Prelude.{◌≡◌, ℕ, suc, ◌≤◌, cond, List, [], ◌∷◌, map, Some, None, Option, ◌==◌, ◌≢◌}
use Rattle.std.specs.Str.{bytes_eq}
use Rattle.tokens.specs.Pieces.{LowerName}
use Rattle.types.specs.Types.{Name, Leaf, Ty, replace, replace_opaque}
use Rattle.cores.specs.declared.interface.Kind.{Kind}
use Rattle.cores.specs.declared.interface.Kind.TheVariants.{Label, Operator}
use Rattle.cores.specs.declared.interface.Found.{Found}
use Rattle.cores.specs.declared.interface.Operation.{Operation}

-- a word of a core: a label with so many parts, or an operator with so many arguments
pub record Word : Type 0 where
  pub name : Name
  pub kind : Kind

-- a label has at most 2 parts, an operator at most 3 arguments
abbrev pub Small : Kind → Type 0
Small (Label n) = n ≤ 2
Small (Operator n) = n ≤ 3

-- each word is a lower name and no fixed keyword
abbrev pub ProperWords : List Word → Type 0
ProperWords [] = Unit {0}
ProperWords (w ∷ ws) = LowerName w.name × Small w.kind × ProperWords ws

-- none of the words has this name
abbrev pub Absent : Name → List Word → Type 0
Absent x [] = Unit {0}
Absent x (w ∷ ws) = (w.name ≢ x) × Absent x ws

-- no word occurs twice
abbrev pub Distinct : List Word → Type 0
Distinct [] = Unit {0}
Distinct (w ∷ ws) = Absent w.name ws × Distinct ws

-- the first word of a name, where the words are numbered from n
abbrev pub lookup_from : ℕ → List Word → Name → Option Found
lookup_from n [] x = None
lookup_from n (w ∷ ws) x = cond (bytes_eq x w.name) (Some (record { number = n; kind = w.kind })) (lookup_from (suc n) ws x)

abbrev pub lookup : List Word → Name → Option Found
lookup ws x = lookup_from 0 ws x

-- the name of a word that is a label
abbrev pub name_if_label : Name → Kind → Option Name
name_if_label x (Label n) = Some x
name_if_label x (Operator n) = None

-- the name of the label of number l, where the words are numbered from n
abbrev pub label_name_from : ℕ → List Word → ℕ → Option Name
label_name_from n [] l = None
label_name_from n (w ∷ ws) l = cond (l == n) (name_if_label w.name w.kind) (label_name_from (suc n) ws l)

abbrev pub label_name : List Word → ℕ → Option Name
label_name ws l = label_name_from 0 ws l

-- what a rule answers: a type, or a cause of the core's own kind
pub data Outcome (C : Type 0) : Type 0 where
  gives : Ty → Outcome C
  refuses : C → Outcome C

-- The law of a core with n words: what its rule gives is also given, with the same replacement made,
-- after opaque parts are replaced by types, alike in all arguments.
abbrev pub Stable : {C : Type 0} → ℕ → (Operation → List Ty → Outcome C) → Type 0
Stable n rule =
    (θ : Ty → Ty) (o : Operation) (ts : List Ty) (t : Ty) →
    rule o ts ≡ gives t → rule o (map (replace_opaque n θ) ts) ≡ gives (replace_opaque n θ t)

-- the law for replacing paths alone
abbrev pub StablePaths : {C : Type 0} → (Operation → List Ty → Outcome C) → Type 0
StablePaths rule =
    (θ : Leaf → Ty) (o : Operation) (ts : List Ty) (t : Ty) →
    rule o ts ≡ gives t → rule o (map (replace θ) ts) ≡ gives (replace θ t)
