-- The alternative that a token chooses, and the entry that each tree comes from.
use Rattle.std.proofs.Common.{◌≡◌, Bool, true, false, cond, eqb, List, [], ◌∷◌, map, Some, None, Option, refl, ap, ◌∙◌, subst}
use Rattle.reader.specs.declared.class.Class.{Class}
use Rattle.reader.specs.declared.symbol.Symbol.{Symbol}
use Rattle.reader.specs.Tokens.{Token, class_of}
use Rattle.reader.specs.Grammar.{◌⇒◌, number, find}
use Rattle.reader.proofs.Loads.{Load, Loaded, whole, load, class_whole, whole_injective, same_class, class_same}
use Rattle.reader.proofs.Shapes.{Tree, print}
use Rattle.reader.proofs.Entries.{Trees, prints, Entry, entries}
use Rattle.reader.proofs.Theory as theory

abbrev pub Alternative : Symbol → Token → Type 0
Alternative s k = theory.Alternative Token Symbol Tree print s k

-- an entry whose class is the token's is an alternative for it
abbrev pub way : {s : Symbol} (e : Entry s) (k : Token) → Loaded k e.first → Alternative s k
way e k l =
    record {
      after = e.after;
      make = e.make l.0;
      shown = λ ts rest. e.shown l.0 ts rest ∙ ap (λ (x : Token). x ∷ prints e.after ts rest) l.1;
    }

abbrev pub same : Class → Class → Bool
same c d = eqb (number c) (number d)

-- the token's load, at a class that is the token's
pub loaded : (k : Token) (c : Class) → same (class_of k) c ≡ true → Loaded k c
loaded k c e = subst (λ (d : Class). Loaded k d) (same_class (class_of k) c e) (load k)

abbrev pub pick_one : {s : Symbol} (e : Entry s) (k : Token) (b : Bool) → same (class_of k) e.first ≡ b → Option (Alternative s k) → Option (Alternative s k)
pick_one e k true h o = Some (way e k (loaded k e.first h))
pick_one e k false h o = o

-- the first entry whose class is the token's
abbrev pub pick : {s : Symbol} (k : Token) → List (Entry s) → Option (Alternative s k)
pick k [] = None
pick k (e ∷ es) = pick_one e k (same (class_of k) e.first) refl (pick k es)

abbrev pub choose : (s : Symbol) (k : Token) → Option (Alternative s k)
choose s k = pick k (entries s)

-- the entry stands in the list, and none before it has its class
pub data In {s : Symbol} : Entry s → List (Entry s) → Type 0 where
  here : {e : Entry s} {es : List (Entry s)} → In e (e ∷ es)
  there : {e x : Entry s} {es : List (Entry s)} → same e.first x.first ≡ false → In e es → In e (x ∷ es)

-- the tree is made by the alternative that is picked
abbrev Picked : {s : Symbol} (k : Token) (es : List (Entry s)) (t : Tree s) → Type 0
Picked {s} k es t =
    (a : Alternative s k) × (pick k es ≡ Some a) × (ts : Trees a.after) × (a.make ts ≡ t)

picked_here :
    {s : Symbol} (e : Entry s) (es : List (Entry s)) (l : Load e.first) (ts : Trees e.after) (b : Bool)
    (h : same (class_of (whole e.first l)) e.first ≡ b) → b ≡ true →
    (a : Alternative s (whole e.first l))
    × (pick_one e (whole e.first l) b h (pick (whole e.first l) es) ≡ Some a)
    × (us : Trees a.after) × (a.make us ≡ e.make l ts)
picked_here e es l ts true h t =
    let g = loaded (whole e.first l) e.first h in (
      way e (whole e.first l) g,
      refl,
      ts,
      ap (λ (x : Load e.first). e.make x ts) (whole_injective e.first g.0 l g.1),
    )
picked_here e es l ts false h t = cc

skip :
    {s : Symbol} (x : Entry s) (k : Token) (b : Bool) (h : same (class_of k) x.first ≡ b) (o : Option (Alternative s k)) →
    b ≡ false → pick_one x k b h o ≡ o
skip x k true h o f = cc
skip x k false h o f = refl

class_of_whole : (c d : Class) (l : Load c) → same (class_of (whole c l)) d ≡ same c d
class_of_whole c d l = ap (λ (x : Class). same x d) (class_whole c l)

pub picked :
    {s : Symbol} (e : Entry s) (es : List (Entry s)) → In e es → (l : Load e.first) (ts : Trees e.after) →
    Picked (whole e.first l) es (e.make l ts)
picked e es (here {es = xs}) l ts =
    picked_here e xs l ts (same (class_of (whole e.first l)) e.first) refl
    (class_of_whole e.first e.first l ∙ class_same e.first e.first refl)
picked e es (there {x = x} {es = xs} d i) l ts =
    let r = picked e xs i l ts in (
      r.0,
      skip x (whole e.first l) (same (class_of (whole e.first l)) x.first) refl (pick (whole e.first l) xs)
          (class_of_whole e.first x.first l ∙ d) ∙ r.1,
      r.2,
      r.3,
    )

-- a tree, by the entry that makes it
pub record Origin (s : Symbol) (es : List (Entry s)) (t : Tree s) : Type 0 where
  pub entry : Entry s
  pub is_in : In entry es
  pub holds : Load entry.first
  pub parts : Trees entry.after
  pub made : entry.make holds parts ≡ t

pub from_origin :
    (s : Symbol) (t : Tree s) → Origin s (entries s) t →
    (k : Token) × theory.From Token Symbol Tree print choose s k t
from_origin s t o =
    let e = o.entry in
    let p = picked e (entries s) o.is_in o.holds o.parts in
    (whole e.first o.holds, record { way = p.0; chosen = p.1; parts = p.2; whole = p.3 ∙ o.made })

-- the alternative that is picked leaves what the rows say
pub picked_rows :
    {s : Symbol} (k : Token) (es : List (Entry s)) →
    theory.afters Token Symbol Tree print (pick k es) ≡ find (class_of k) (map (λ (e : Entry s). e.first ⇒ e.after) es)
picked_rows k [] = refl
picked_rows {s} k (e ∷ es) = one (same (class_of k) e.first) refl (pick k es) (picked_rows k es)
  where
    one :
        (b : Bool) (h : same (class_of k) e.first ≡ b) (o : Option (Alternative s k)) →
        theory.afters Token Symbol Tree print o ≡ find (class_of k) (map (λ (e : Entry s). e.first ⇒ e.after) es) →
        theory.afters Token Symbol Tree print (pick_one e k b h o)
        ≡ cond b (Some e.after) (find (class_of k) (map (λ (e : Entry s). e.first ⇒ e.after) es))
    one true h o r = refl
    one false h o r = r
