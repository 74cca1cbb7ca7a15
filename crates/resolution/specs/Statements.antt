-- What holds of resolution.
use Rattle.std.specs.Prelude.{◌≡◌, ℕ, List, Some, None}
use Rattle.types.specs.Types.{Name}
use Rattle.reader.specs.declared.scope.Sort.{Sort}
use Rattle.reader.specs.Syntax.{SignatureTree, UnitTree}
use Rattle.reader.specs.Print.{print_unit, print_signature_text}
use Rattle.reader.specs.Streams.{Stream, tokens_in}
use Rattle.reader.specs.Scopes.{Scope, seek}
use Rattle.reader.specs.Notes.{notes_unit, notes_signature_text}
use Rattle.reader.specs.Annotate.{first_where, is_again, is_undeclared, with_places}
use Rattle.reader.specs.Mentions.{mentions_in}
use Rattle.rules.specs.Naming.{unit_names, signature_names}
use Rattle.checker.specs.Written.{OnceSig, OnceModule}
use Rattle.resolution.specs.Places.{places_in}
use Rattle.resolution.specs.Heads.{locate}
use Rattle.resolution.specs.Counting.{counted}
use Rattle.resolution.specs.Resolve.{resolve_unit, resolve_signature_text}
use Rattle.resolution.specs.Closed.{ClosedSignature, ClosedModule}
use Rattle.resolution.specs.Standing.{TokenAt, StandsSignature, StandsModule}

-- a head is the one that the reader finds, in every scope
abbrev pub HeadsAgree : Type 0
HeadsAgree = (s : Sort) (x : Name) (scope : Scope) → locate s x scope ≡ counted scope (seek s x scope)

-- a resolved unit names the units that the reader finds in its text, in their order and at their places
abbrev pub UnitsNamed : Type 0
UnitsNamed =
    (s : Stream) (u : UnitTree) → tokens_in s ≡ Some (print_unit u) →
    unit_names (resolve_unit u (places_in s)) ≡ mentions_in (notes_unit u) s

-- the same of a signature alone
abbrev pub SignaturesNamed : Type 0
SignaturesNamed =
    (s : Stream) (t : SignatureTree) → tokens_in s ≡ Some (print_signature_text t) →
    signature_names (resolve_signature_text t (places_in s)) ≡ mentions_in (notes_signature_text t) s

-- a text in which the reader finds nothing declared again declares each sort and name once, whatever its places are
abbrev pub DeclaredOnce : Type 0
DeclaredOnce =
    ((s : Stream) (u : UnitTree) (ps : List ℕ) → tokens_in s ≡ Some (print_unit u) →
    first_where is_again (with_places (notes_unit u) s) ≡ None → OnceModule (resolve_unit u ps).body)
    × ((s : Stream) (t : SignatureTree) (ps : List ℕ) → tokens_in s ≡ Some (print_signature_text t) →
    first_where is_again (with_places (notes_signature_text t) s) ≡ None → OnceSig (resolve_signature_text t ps))

-- a text in which the reader finds no undeclared head mentions only what is around it, whatever its places are
abbrev pub HeadsAround : Type 0
HeadsAround =
    ((s : Stream) (u : UnitTree) (ps : List ℕ) → tokens_in s ≡ Some (print_unit u) →
    first_where is_undeclared (with_places (notes_unit u) s) ≡ None → ClosedModule 0 (resolve_unit u ps).body)
    × ((s : Stream) (t : SignatureTree) (ps : List ℕ) → tokens_in s ≡ Some (print_signature_text t) →
    first_where is_undeclared (with_places (notes_signature_text t) s) ≡ None → ClosedSignature 0 (resolve_signature_text t ps))

-- at the place of each node stands the token with which it begins
abbrev pub PlacesStand : Type 0
PlacesStand =
    ((s : Stream) (u : UnitTree) → tokens_in s ≡ Some (print_unit u) → StandsModule (TokenAt s) (resolve_unit u (places_in s)).body)
    × ((s : Stream) (t : SignatureTree) → tokens_in s ≡ Some (print_signature_text t) →
    StandsSignature (TokenAt s) (resolve_signature_text t (places_in s)))
