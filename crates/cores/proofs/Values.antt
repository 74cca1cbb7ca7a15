-- The definitions tried on values.
use Rattle.std.proofs.Common.{◌≡◌, true, false, [], ◌∷◌, Some, None, Ok, Err, codes, refl}
use Rattle.types.specs.Types.{Ty, at, unit, named, numbered, leaf, label0, label1, label2}
use Rattle.types.specs.Words.{types, encode, whole, span}
use Rattle.cores.specs.Meaning.{gives, refuses, lookup, label_name}
use Rattle.cores.specs.Answers.{reply, leaves}
use Rattle.cores.specs.MiniMl.{ml_words, ml_rule}
use Rattle.cores.specs.MiniC.{c_rule}
use Rattle.cores.specs.Layers.{layer_words, layer_rule}
use Rattle.cores.specs.Pairs.{pair_entries}
use Rattle.cores.specs.declared.interface.Kind.TheVariants.{Operator as Operates}
use Rattle.cores.specs.declared.interface.Operation.TheVariants.{Function, Operator}
use Rattle.cores.specs.declared.interface.Refusal.TheVariants.{Short}
use Rattle.cores.specs.declared.layers.LayerCause.TheVariants.{Own, Below}

abbrev int : Ty
int = label0 0

abbrev bool : Ty
bool = label0 1

abbrev arrow : Ty → Ty → Ty
arrow t u = label2 2 t u

abbrev path : Ty
path = leaf (named (at (unit (codes "A"))) (codes "t"))

add : ml_rule (Operator 4) (int ∷ int ∷ []) ≡ gives int
add = refl

add_second : ml_rule (Operator 4) (int ∷ bool ∷ []) ≡ refuses (record { number = 2 })
add_second = refl

add_few : ml_rule (Operator 4) (int ∷ []) ≡ refuses (record { number = 2 })
add_few = refl

add_many : ml_rule (Operator 4) (int ∷ int ∷ bool ∷ []) ≡ refuses (record { number = 3 })
add_many = refl

no_operator : ml_rule (Operator 2) [] ≡ refuses (record { number = 1 })
no_operator = refl

choose_path : ml_rule (Operator 5) (bool ∷ path ∷ path ∷ []) ≡ gives path
choose_path = refl

choose_third : ml_rule (Operator 5) (bool ∷ path ∷ int ∷ []) ≡ refuses (record { number = 3 })
choose_third = refl

apply : ml_rule (Operator 6) (arrow int bool ∷ int ∷ []) ≡ gives bool
apply = refl

apply_second : ml_rule (Operator 6) (arrow int bool ∷ bool ∷ []) ≡ refuses (record { number = 2 })
apply_second = refl

function : ml_rule Function (int ∷ path ∷ []) ≡ gives (arrow int path)
function = refl

deref_mark : c_rule (Operator 6) (int ∷ []) ≡ refuses (record { position = 1; pointer = true })
deref_mark = refl

store_second : c_rule (Operator 7) (label1 2 int ∷ bool ∷ []) ≡ refuses (record { position = 2; pointer = false })
store_second = refl

first : layer_rule pair_entries 7 ml_rule (Operator 9) (label2 7 int bool ∷ []) ≡ gives int
first = refl

first_wrong : layer_rule pair_entries 7 ml_rule (Operator 9) (int ∷ []) ≡ refuses (Own 1)
first_wrong = refl

add_below : layer_rule pair_entries 7 ml_rule (Operator 4) (int ∷ bool ∷ []) ≡ refuses (Below (record { number = 2 }))
add_below = refl

find_second : lookup (layer_words pair_entries ml_words) (codes "second") ≡ Some (record { number = 10; kind = Operates 1 })
find_second = refl

find_none : lookup ml_words (codes "pair") ≡ None
find_none = refl

label_arrow : label_name ml_words 2 ≡ Some (codes "arrow")
label_arrow = refl

label_add : label_name ml_words 4 ≡ None
label_add = refl

spelled : encode (arrow int (leaf (numbered 5))) ≡ 3221225474 ∷ 1073741824 ∷ 5 ∷ []
spelled = refl

decoded : types (3221225474 ∷ 1073741824 ∷ 5 ∷ 7 ∷ []) ≡ arrow int (leaf (numbered 5)) ∷ leaf (numbered 7) ∷ []
decoded = refl

lacking : whole (5 ∷ 3221225474 ∷ 7 ∷ []) ≡ false
lacking = refl

ends : span (3221225474 ∷ 1073741824 ∷ 5 ∷ 7 ∷ []) 1 ≡ Some 3
ends = refl

answered : reply ml_rule Function (1073741824 ∷ 5 ∷ []) 3 ≡ Ok 3
answered = refl

short : reply ml_rule Function (1073741824 ∷ 5 ∷ []) 2 ≡ Err Short
short = refl

written : leaves ml_rule Function (1073741824 ∷ 5 ∷ []) (9 ∷ 9 ∷ 9 ∷ 9 ∷ []) ≡ 3221225474 ∷ 1073741824 ∷ 5 ∷ 9 ∷ []
written = refl
