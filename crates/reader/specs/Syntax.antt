-- Syntax trees. Every bracket is kept, so that a tree is written in one way only; lists end inside the trees.
use Rattle.std.specs.Prelude.{◌≡◌, ℕ, true, List, Option}
use Rattle.types.specs.Types.{Name}
use Rattle.reader.specs.Tokens.{is_rank}

-- the path of a type or a value: a lower name, behind upper names with their dots
pub data LongName : Type 0 where
  plain : Name → LongName
  inside : Name → LongName → LongName

-- the path of a module: an upper name, and those behind a dot each
pub record ModulePath : Type 0 where
  pub first : Name
  pub more : List Name

-- A type: a path, a label without parts, a type in brackets, or two types in brackets with a two-part label;
-- each followed by one-part labels, the innermost first.
pub data TypeTree : Type 0 where
  path : LongName → List ℕ → TypeTree
  constant : ℕ → List ℕ → TypeTree
  bracket : TypeTree → List ℕ → TypeTree
  both : TypeTree → TypeTree → ℕ → List ℕ → TypeTree

mutual
  -- a function, an operator with as many atoms as it has arguments, or an atom
  pub data TermTree : Type 0 where
    function : Name → TypeTree → TermTree → TermTree
    one : ℕ → AtomTree → TermTree
    two : ℕ → AtomTree → AtomTree → TermTree
    three : ℕ → AtomTree → AtomTree → AtomTree → TermTree
    atom : AtomTree → TermTree

  -- a literal, a value path, an operator without arguments, or a term in brackets
  pub data AtomTree : Type 0 where
    literal : List ℕ → AtomTree
    path : LongName → AtomTree
    constant : ℕ → AtomTree
    bracket : TermTree → AtomTree

mutual
  -- specs in `sig` and `end`, or a functor's signature with its parameter
  pub data SignatureTree : Type 0 where
    sig_end : SpecTrees → SignatureTree
    functor : Name → SignatureTree → SignatureTree → SignatureTree

  -- specs, up to the `end` behind them: an abstract type, a defined type, a value, a module
  pub data SpecTrees : Type 0 where
    done : SpecTrees
    abstract_type : Name → SpecTrees → SpecTrees
    defined_type : Name → TypeTree → SpecTrees → SpecTrees
    value : Name → TypeTree → SpecTrees → SpecTrees
    submodule : Name → SignatureTree → SpecTrees → SpecTrees

mutual
  -- A functor, whose body reaches as far as it can; or a path, a structure, a module in brackets or
  -- a module with its signature in brackets, each followed by the paths that it is applied to.
  pub data ModuleTree : Type 0 where
    functor : Name → SignatureTree → ModuleTree → ModuleTree
    path : ModulePath → List ModulePath → ModuleTree
    struct_end : ItemTrees → List ModulePath → ModuleTree
    bracket : ModuleTree → List ModulePath → ModuleTree
    ascribed : ModuleTree → SignatureTree → List ModulePath → ModuleTree

  -- items, up to the `end` behind them: a type, a value, a module
  pub data ItemTrees : Type 0 where
    done : ItemTrees
    defined_type : Name → TypeTree → ItemTrees → ItemTrees
    value : Name → TermTree → ItemTrees → ItemTrees
    submodule : Name → ModuleTree → ItemTrees → ItemTrees

-- a written rank: the digits of a number up to 255
pub record RankTree : Type 0 where
  pub digits : List ℕ
  pub small : is_rank digits ≡ true

-- a unit: its name, its items, and its rank if one is written
pub record UnitTree : Type 0 where
  pub name : Name
  pub items : ItemTrees
  pub rank : Option RankTree
